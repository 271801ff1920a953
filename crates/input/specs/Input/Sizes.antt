-- A product of two good sides is small.
-- Assumes nothing.
use Rattle.std.specs.Prelude.{◌≡◌, ℕ, ◌*◌, ◌≤◌}
use Rattle.shapes.specs.Shapes.{Sides}
use Rattle.shapes.specs.Shapes.Laws.{product_le}

pub cells_small : (rows columns height width : ℕ) → Sides rows columns height width
    → (rows * columns ≤ 65025) × (height * width ≤ 65025)
cells_small rows columns height width s = (
  product_le rows columns 255 255 s.rows_good.small s.columns_good.small,
  product_le height width 255 255 s.height_good.small s.width_good.small,
)
