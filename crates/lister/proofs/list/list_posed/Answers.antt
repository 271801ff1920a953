-- `list::list_posed` meets its contract: flags that are not refused by 16 are the truth, and their totals the windows'
-- (`flags_trusted`); the rest is what is done once they are judged.
-- Assumes nothing.
use Rattle.std.proofs.Common.{ℕ, ap, ◌∙◌}
use Rattle.listing.specs.declared.totals.Totals.{Totals}
use Rattle.totals.specs.Totalled.{totals_front}
use Rattle.lister.specs.Steps.{flags_trusted}
use Rattle.lister.proofs.list.list_posed.Goals as goal

pub list_flagged-requires : goal.list_flagged-requires
list_flagged-requires g c =
    let are = c.read_pattern-known.result.are in
    let e = rw c.windows.ensures at c.totals_of-totals.ensures ∙ totals_front _ _ _ c.requires.1 in
    let found = ap (λ (t : Totals ℕ). t.found) e in
    let refused = ap (λ (t : Totals ℕ). t.refused) e in (
      flags_trusted _ _ c.args.s _ _ _ (rw c.read_pattern-known.ensures c.requires.0) c.requires.1
          c.truth_outcome-judged.ensures.judged found refused
          (rw (found, refused, ← are.count_is) (ap (λ (t : Totals ℕ). t.length) e)),
      c.truth_outcome-judged.ensures.own_so_far,
    )

pub returns : goal.returns
returns g c =
    rw (← c.read_pattern-known.ensures, ← c.truth_outcome-judged.ensures.judged) c.list_flagged.ensures
