-- The windows of a text one after another, row by row of corners: where window k is, and the step to the next one.
-- Assumes nothing.
pub mod Laws
use Rattle.std.specs.Prelude.{ℕ, ◌<◌}
use Rattle.shapes.specs.Shapes.{corners}
use Rattle.cells.specs.Windows.{corner_row, corner_column}
use Rattle.cells.specs.declared.windows.WindowPlace.{WindowPlace}

-- the place of window k: its corner is at row k / across and column k % across
abbrev pub window_place : ℕ → ℕ → ℕ → ℕ → WindowPlace
window_place columns height width k =
    record {
      columns = columns;
      row = corner_row (corners columns width) k;
      column = corner_column (corners columns width) k;
      height = height;
      width = width;
    }

-- corner and sides of a window are bytes
pub record SmallPlace (v : WindowPlace) : Type 0 where
  pub row_small : v.row < 256
  pub column_small : v.column < 256
  pub height_small : v.height < 256
  pub width_small : v.width < 256
  pub some : 0 < v.width
