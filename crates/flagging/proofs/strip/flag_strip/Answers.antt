-- `strip::flag_strip` meets its contract. The invariant: the run stands before the window at row top, and the flags of
-- the windows above it are written.
-- Assumes nothing.
use Rattle.std.proofs.Common.{refl, arith}
use Rattle.flagging.specs.Windows.{windows_ask, windows_more}
use Rattle.flagging.proofs.strip.flag_strip.Goals as goal

pub next_flag-r-requires : goal.next_flag-r-requires
next_flag-r-requires g c =
    windows_ask _ _ _ _ _ _ _ _ _ _ c.requires.0 c.requires.1 c.requires.2 _ _ _ (omega arith) c.loop-top.invariant

pub loop-top-preserved : goal.loop-top-preserved
loop-top-preserved g c =
    rw c.across-across.ensures
    (windows_more _ _ _ _ _ _ _ _ _ _ c.requires.0 c.requires.1 c.requires.2 _ _ _ (omega arith) c.loop-top.invariant
    _ refl _ (rw c.across-across.ensures at c.next_flag-r.ensures))
