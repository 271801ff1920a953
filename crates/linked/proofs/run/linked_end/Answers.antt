-- `run::linked_end` meets its contract. The invariant: the positions before p agree, whatever the strip; the test of
-- position p is the step, so it tells whether a mismatch ends there.
-- Assumes nothing.
use Rattle.std.proofs.Common.{◌<◌, length, arith}
use Rattle.linked.specs.Run.Laws.{compared_more, compared_found}
use Rattle.linked.proofs.run.linked_end.Goals as goal

pub returns-then-not-linked_at : goal.returns-then-not-linked_at
returns-then-not-linked_at g c =
    let l = c.loop-p in
    let inside : l.p < length (g.P.Pattern.cells c.args.pattern) = omega (arith, c.len-n.ensures.length) in
    compared_found _ _ _ _ _ c.requires l.p inside l.invariant _ _ c.from.ensures c.at-a.ensures _ c.linked_at.ensures
    c.if-not-linked_at.true

pub loop-p-preserved : goal.loop-p-preserved
loop-p-preserved g c =
    let l = c.loop-p in
    let inside : l.p < length (g.P.Pattern.cells c.args.pattern) = omega (arith, c.len-n.ensures.length) in
    compared_more _ _ _ _ _ c.requires l.p inside l.invariant _ _ c.from.ensures c.at-a.ensures _ c.linked_at.ensures
    c.if-not-linked_at.false
