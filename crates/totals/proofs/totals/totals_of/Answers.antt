-- `totals::totals_of` meets its contract: the flags that are not 1 are the rest of them (`totals_counted`).
-- Assumes nothing.
use Rattle.totals.specs.Totalled.{totals_counted}
use Rattle.totals.proofs.totals.totals_of.Goals as goal

pub returns : goal.returns
returns c = rw c.from.ensures (totals_counted c.args.flags.now c.args.symbols _ c.count_found-found.ensures)
