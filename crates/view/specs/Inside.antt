-- What of a window lies in the text: one row, one cell. A read asks this of what it reads and of nothing else of the
-- window.
-- Assumes nothing.
use Rattle.std.specs.Prelude.{List, ℕ, ◌+◌, ◌*◌, ◌/◌, ◌%◌, ◌≤◌, ◌<◌, length}

-- row i of the window
pub record RowInside (text : List ℕ) (columns row column width i : ℕ) : Type 0 where
  pub broad : 0 < columns
  pub within : (row + i) * columns + column + width ≤ length text

-- the cell at position p of the window
pub record CellInside (text : List ℕ) (columns row column width p : ℕ) : Type 0 where
  pub some : 0 < width
  pub broad : 0 < columns
  pub within : (row + p / width) * columns + column + p % width < length text
