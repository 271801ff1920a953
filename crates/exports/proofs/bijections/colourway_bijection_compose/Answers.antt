-- `compose` fixes the number and the bijection, of the bijections that the columns held; `write_answer` hands both
-- over.
-- Assumes nothing.
use Rattle.std.proofs.Common.{◌≡◌, ◌∙◌, ap, sym}
use Rattle.refusals.specs.Said.{said_number}
use Rattle.mapping.specs.Bijections.{Renamed, renamed, compose_of}
use Rattle.mapping.specs.declared.bijections.Bijection.{Bijection}
use Rattle.values.specs.Bijections.{from_columns}
use Rattle.exports.proofs.bijections.colourway_bijection_compose.Goals as goal
use Rattle.exports.proofs.bijections.colourway_bijection_compose.Goals.{After-write_answer}

-- of the columns that were lent
answer : (c : After-write_answer)
    → renamed (from_columns c.args.forward.now c.args.backward.now) c.compose-composed.result
    ≡ compose_of (from_columns c.args.forward.now c.args.backward.now)
    (from_columns c.args.other_forward.now c.args.other_backward.now)
answer c =
    ap (λ (b : Bijection). renamed b c.compose-composed.result) (sym c.bijection_in.ensures)
    ∙ c.compose-composed.ensures
    ∙ ap (λ (b : Bijection). compose_of b c.bijection_in-other.result) c.bijection_in.ensures
    ∙ ap (compose_of (from_columns c.args.forward.now c.args.backward.now)) c.bijection_in-other.ensures

pub returns : goal.returns
returns c =
    record {
      number = c.write_answer.ensures.number ∙ ap (λ (r : Renamed). said_number r.said) (answer c);
      bijection_after = c.write_answer.ensures.bijection_after ∙ ap (λ (r : Renamed). r.bijection) (answer c);
    }
