-- Document 01's conditions on sides, cells and corners (2, 3, 4, 5), each a sealed test with one law that says what it
-- tests.
-- Assumes nothing.
pub mod Laws
use Rattle.std.specs.Prelude.{◌≡◌, Bool, ℕ, ◌+◌, ◌-◌, ◌*◌, ◌≤◌, eqb, leb}
use Rattle.theory.specs.Test.{both}
use Rattle.shapes.specs.declared.shapes.Shape.{Shape}

-- a side is from 1 to 255
pub record Side (n : ℕ) : Type 0 where
  pub positive : 1 ≤ n
  pub small : n ≤ 255

pub good_side_test : ℕ → Bool
good_side_test n = both (leb 1 n) (leb n 255)

-- every side of a text and of a window is
pub record Sides (rows columns height width : ℕ) : Type 0 where
  pub rows_good : Side rows
  pub columns_good : Side columns
  pub height_good : Side height
  pub width_good : Side width

pub good_sides_test : ℕ → ℕ → ℕ → ℕ → Bool
good_sides_test rows columns height width =
    both (good_side_test rows) (both (good_side_test columns) (both (good_side_test height) (good_side_test width)))

-- the cells given are rows × columns in number
pub good_cells_test : ℕ → ℕ → ℕ → Bool
good_cells_test cells rows columns = eqb cells (rows * columns)

-- the window is neither taller nor wider than the text
pub record Fits (rows columns height width : ℕ) : Type 0 where
  pub height_le : height ≤ rows
  pub width_le : width ≤ columns

pub fits : ℕ → ℕ → ℕ → ℕ → Bool
fits rows columns height width = both (leb height rows) (leb width columns)

-- the corner is not beyond row R − r or column C − c
pub record Corner (rows columns height width row column : ℕ) : Type 0 where
  pub row_le : row + height ≤ rows
  pub column_le : column + width ≤ columns

pub corner_inside_test : ℕ → ℕ → ℕ → ℕ → ℕ → ℕ → Bool
corner_inside_test rows columns height width row column = both (leb (row + height) rows) (leb (column + width) columns)

-- how many corners there are along a side, none where the part is longer than the whole
abbrev pub corners : ℕ → ℕ → ℕ
corners whole part = whole + 1 - part

-- how many windows there are
abbrev pub windows : ℕ → ℕ → ℕ → ℕ → ℕ
windows rows columns height width = corners rows height * corners columns width

-- the sides and the size of a window that are not refused by 2 or 4
pub record Sized (rows columns height width : ℕ) : Type 0 where
  pub sides : Sides rows columns height width
  pub fitting : Fits rows columns height width

-- the same with a text of that many cells, not refused by 3 either
pub record Shaped (cells rows columns height width : ℕ) : Type 0 where
  pub sized : Sized rows columns height width
  pub cells_is : cells ≡ rows * columns

-- the sides of a text of that many cells, and of a window in it, that were not refused
abbrev pub ShapeOf : Shape → ℕ → Type 0
ShapeOf s cells = Shaped cells s.rows s.columns s.height s.width

-- how many windows there are across
abbrev pub across : Shape → ℕ
across s = corners s.columns s.width

-- and how many down
abbrev pub down : Shape → ℕ
down s = corners s.rows s.height
