-- `run::next_linked` meets its contract: one law for each way out, which are that the window inherits its end, and that
-- it is compared from where it is known to agree.
-- Assumes nothing.
use Rattle.std.proofs.Common.{arith}
use Rattle.linked.specs.Run.Laws.{window_inherits, window_onward}
use Rattle.linked.proofs.run.next_linked.Goals as goal

pub returns-then-end-from : goal.returns-then-end-from
returns-then-end-from g c = window_inherits _ _ _ _ _ _ _ c.requires (omega arith)

pub returns : goal.returns
returns g c =
    let from = c.saturating_sub-from.ensures in
    window_onward _ _ _ _ _ _ _ c.requires (omega arith) _ (rw from at c.linked_end-end.ensures)
