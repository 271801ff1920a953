-- `shapes::good_side` meets its contract: the two comparisons are those of a good side.
-- Assumes nothing.
use Rattle.std.proofs.Common.{◌∙◌, sym, arith}
use Rattle.theory.specs.Test.Laws.{tested_same, tested_iff, le_tested, is_false}
use Rattle.shapes.specs.Shapes.Laws.{good_side}
use Rattle.shapes.proofs.shapes.good_side.Goals as goal

pub returns-then-n-ge1 : goal.returns-then-n-ge1
returns-then-n-ge1 c =
    tested_same
    (tested_iff (λ h. record { positive = c.if-n-ge1.true; small = h }) (λ s. s.small) (le_tested c.args.n 255))
    (good_side c.args.n)

pub returns-else-n-ge1 : goal.returns-else-n-ge1
returns-else-n-ge1 c =
    is_false (le_tested 1 c.args.n) (λ h. omega arith) ∙ sym (is_false (good_side c.args.n) (λ s. omega arith))
