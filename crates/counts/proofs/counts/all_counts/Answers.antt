-- `counts::all_counts` meets its contract. The invariant: the strips passed are written.
-- Assumes nothing.
use Rattle.std.proofs.Common.{◌≡◌, ◌+◌, ◌*◌, sym, add-one, arith}
use Rattle.theory.specs.Store.Laws.{rows_none, rows_more}
use Rattle.shapes.specs.Shapes.{across}
use Rattle.counts.specs.Counts.{count_in}
use Rattle.counts.proofs.counts.all_counts.Goals as goal

pub loop-left-init : goal.loop-left-init
loop-left-init c = sym (rows_none _ _ _ _)

pub loop-left-preserved : goal.loop-left-preserved
loop-left-preserved c =
    rw (add-one c.loop-left.left)
    (rows_more (count_in c.args.text.now c.args.s) (λ left top. top * across c.args.s + left) _ _ _ _ _
    c.loop-left.invariant c.strip_counts.ensures)

pub returns : goal.returns
returns c =
    let all : c.loop-left.left ≡ across c.args.s = omega arith in
    rw all at c.loop-left.invariant
