-- `own::own_ends` meets its contract. The invariant: the run down the pattern stands before row top, and the own ends
-- above it are written; each window inherits only from own ends that are.
-- Assumes nothing.
use Rattle.std.proofs.Common.{arith}
use Rattle.theory.specs.Older.Laws.{older_zeros}
use Rattle.sweep.specs.Sweep.Own.{own_first, own_asks, own_more}
use Rattle.sweep.proofs.own.own_ends.Goals as goal

pub loop-top-init : goal.loop-top-init
loop-top-init g c =
    let p = c.requires in
    own_first _ _ _ _ p.0 p.2 p.3 _ _ (older_zeros 1 _ (omega arith) c.table-last.ensures) c.told-own

pub next_end-r-requires : goal.next_end-r-requires
next_end-r-requires g c =
    let p = c.requires in
    own_asks _ _ _ _ p.0 p.2 p.3 _ _ _ _ _ p.1 (omega (arith, c.loop-top-test.true, p.4)) c.loop-top.invariant

pub loop-top-preserved : goal.loop-top-preserved
loop-top-preserved g c =
    let p = c.requires in
    own_more _ _ _ _ p.0 p.2 p.3 _ _ _ _ _ p.1 (omega (arith, c.loop-top-test.true, p.4)) c.loop-top.invariant _ _
    c.next_end-r.ensures
