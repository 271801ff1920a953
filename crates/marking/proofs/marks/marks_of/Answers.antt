-- `marks::marks_of` meets its contract. The invariant: the marks are those of the cells passed. A store of 1 at the
-- next cell's symbol makes them those of one cell more (`marks_more`).
-- Assumes nothing.
use Rattle.std.proofs.Common.{arith}
use Rattle.sets.specs.Symbols.Marking.{marks_none, marks_more}
use Rattle.marking.proofs.marks.marks_of.Goals as goal

pub loop-v-init : goal.loop-v-init
loop-v-init c = marks_none c.args.pattern.now _ c.table-marks.ensures

pub loop-v-preserved : goal.loop-v-preserved
loop-v-preserved c =
    let i = c.loop-v.v-index in
    rw c.from.ensures
    (marks_more _ _ i c.loop-v-test.true (omega (arith, c.type_inv.pattern i)) c.loop-v.invariant)
