-- `marks::marks_by` meets its contract. The invariant: the marks of the symbols below v are the pattern's. One more
-- is, since the pattern has a symbol exactly if it stands at the place that the table has for it (`below_more`).
-- Assumes nothing.
use Rattle.std.proofs.Common.{arith}
use Rattle.sets.specs.Symbols.Marking.{below_more}
use Rattle.totals.proofs.marks.marks_by.Goals as goal

pub loop-v-preserved : goal.loop-v-preserved
loop-v-preserved g c =
    below_more _ _ _ c.loop-v.v _ c.requires (omega (arith, c.loop-v-test.true)) c.loop-v.invariant
    c.mark_at.ensures
