-- `strips::strip_outcome` meets its contract: where 2, 3, 4 refuse nothing the sides are small, and so is their product.
-- Assumes nothing.
use Rattle.std.proofs.Common.{arith, sym}
use Rattle.shapes.specs.Questions.Laws.{text_shaped}
use Rattle.shapes.specs.Shapes.Laws.{product_le}
use Rattle.grid.proofs.strips.strip_outcome.Goals as goal

pub overflow_mul-t : goal.overflow_mul-t
overflow_mul-t c =
    let s = text_shaped _ _ _ (sym c.in_ok-text_outcome.ensures) in
    omega (arith, product_le _ _ 255 255 s.sized.sides.rows_good.small s.sized.sides.width_good.small)
