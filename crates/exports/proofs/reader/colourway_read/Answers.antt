-- `reader::colourway_read` meets its contract: the reader fixes what is said, each call hands over its part of that,
-- and a place is always returned (`next_returned`).
-- Assumes nothing.
use Rattle.std.proofs.Common.{ap, ◌∙◌}
use mathlib.Core.List.{[], ◌∷◌}
use Prim.Native.Nat.{ℕ}
use lib.ListN.{get_or}
use Rattle.refusals.specs.Said.{Said, said_number, said_values}
use Rattle.refusals.specs.Refusals.{value_or_given}
use Rattle.fields.specs.Reader.{fields_by}
use Rattle.fields.specs.Reader.Laws.{next_returned}
use Rattle.refusals.specs.Said.Laws.{number_said}
use Rattle.exports.proofs.reader.colourway_read.Goals as goal

pub returns : goal.returns
returns c =
    let a = c.args in
    let said = c.read-answer.ensures in
    let old = get_or a.next.now 0 0 in record {
      number = c.answer_number.ensures ∙ number_said _ _ ∙ ap said_number said;
      fields_after = c.read_fields.ensures ∙ ap (λ (s : Said). fields_by s a.fields.now) said;
      next_after = ap (λ (n : ℕ). n ∷ []) (c.read_place.ensures ∙ ap (λ (s : Said). value_or_given (said_values s) old) said)
          ∙ next_returned a.listing.now a.at old;
    }
