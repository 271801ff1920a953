-- `carries::row_carries` meets its contract. The invariant: the cells before j have their images. A round takes two
-- cells more, and behind the loop at most one is left.
-- Assumes nothing.
use Rattle.std.proofs.Common.{◌≡◌, ◌+◌, length, arith}
use Rattle.theory.specs.Test.Laws.{eq_tested, says_true}
use Rattle.inheriting.specs.Carries.{row_none, row_more, row_two}
use Rattle.carrying.proofs.carries.row_carries.Goals as goal

pub loop-j-init : goal.loop-j-init
loop-j-init c = (omega arith, row_none c.args.m _ c.args.cells.now)

pub image-requires : goal.image-requires
image-requires c = c.requires.0.each c.loop-j.j (omega (arith, c.requires.1, c.loop-j-test.true))

pub image-requires-in-loop-j : goal.image-requires-in-loop-j
image-requires-in-loop-j c =
    c.requires.0.each (c.loop-j.j + 1) (omega (arith, c.requires.1, c.loop-j-test.true))

pub loop-j-preserved : goal.loop-j-preserved
loop-j-preserved c = (
  omega (arith, c.loop-j-test.true),
  row_two c.args.m _ c.args.cells.now c.loop-j.j _ _ c.loop-j.invariant.1 c.image.ensures
      c.if-image-row.false c.image-in-loop-j.ensures c.if-image-row-2.false,
)

pub image-requires-then-j-n : goal.image-requires-then-j-n
image-requires-then-j-n c = c.requires.0.each c.loop-j.j (omega (arith, c.requires.1, c.if-j-n.true))

pub returns-then-j-n : goal.returns-then-j-n
returns-then-j-n c =
    let all : c.loop-j.j + 1 ≡ length c.args.row.now = omega (arith, c.if-j-n.true, c.loop-j-test.false) in
    λ e. rw all at (row_more c.args.m _ c.args.cells.now c.loop-j.j _ c.loop-j.invariant.1
    c.image-then-j-n.ensures (says_true (eq_tested _ _) e))

pub returns : goal.returns
returns c =
    let all : c.loop-j.j ≡ length c.args.row.now = omega (arith, c.loop-j.invariant.0, c.if-j-n.false) in
    λ _. rw all at c.loop-j.invariant.1
