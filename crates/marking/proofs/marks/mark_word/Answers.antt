-- `marks::mark_word` meets its contract. The invariant: w is the word of the 64 - k marks above. It is below 2 ^ 63
-- while one is left (`word_marks_room`), so twice w and a mark fit into 64 bits, and are the word of one mark more.
-- Assumes nothing.
use Rattle.std.proofs.Common.{◌≤◌, ◌<◌, ◌+◌, ◌-◌, ◌^◌, get_or, arith}
use Rattle.sets.specs.Symbols.Marking.{word_marks_none, word_marks_room, word_marks_more}
use Rattle.marking.proofs.marks.mark_word.Goals as goal
use Rattle.marking.proofs.marks.mark_word.Goals.{In-loop-k}

-- there is room for one mark more
room : (c : In-loop-k) → c.loop-k.w < 2 ^ 63
room c = word_marks_room _ _ _ _ c.loop-k.invariant c.loop-k-test.true

-- the next mark is 0 or 1
mark : (c : In-loop-k) → get_or c.args.marks.now (c.args.from + (c.loop-k.k - 1)) 0 ≤ 1
mark c = c.requires.0.bits _ (omega arith)

pub loop-k-init : goal.loop-k-init
loop-k-init c = word_marks_none _ _

pub overflow_mul-w : goal.overflow_mul-w
overflow_mul-w c = omega (arith, room (goal.at.overflow_mul-w c).In-loop-k)

pub overflow_add-w : goal.overflow_add-w
overflow_add-w c =
    let p = (goal.at.overflow_add-w c).In-loop-k in
    omega (arith, room p, mark p)

pub loop-k-preserved : goal.loop-k-preserved
loop-k-preserved c =
    rw c.from.ensures
    (word_marks_more _ _ c.loop-k.k _ c.loop-k.invariant c.loop-k-test.true c.requires.0 c.requires.1
    (omega arith))
