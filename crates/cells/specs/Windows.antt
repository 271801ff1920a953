-- Document 01's window: the height by width part of a text at a corner, read through the corner and the text's row
-- width.
-- Assumes nothing.
pub mod Laws
use Rattle.std.specs.Prelude.{List, ℕ, ◌+◌, ◌*◌, ◌/◌, ◌%◌, ltb, length, get_or, take, drop, Option, Some, None}
use Rattle.theory.specs.Test.{pick}
use Rattle.theory.specs.Table.{table}

-- where cell (i, j) of the window at corner (row, column) lies in the text
pub place : ℕ → ℕ → ℕ → ℕ → ℕ → ℕ
place row_width row column i j = (row + i) * row_width + column + j

-- the symbol at that place, or none past the text's end. Which places lie in the window is for the caller to know.
pub cell_of : List ℕ → ℕ → ℕ → ℕ → ℕ → ℕ → Option ℕ
cell_of text row_width row column i j =
    pick (ltb (place row_width row column i j) (length text)) (Some (get_or text (place row_width row column i j) 0))
    None

-- the symbols of a window by position: row by row, each row of width cells
pub window_at : List ℕ → ℕ → ℕ → ℕ → ℕ → ℕ → ℕ
window_at text row_width row column width p = get_or text (place row_width row column (p / width) (p % width)) 0

-- the list of a window's cells
pub window_cells : List ℕ → ℕ → ℕ → ℕ → ℕ → ℕ → List ℕ
window_cells text row_width row column height width = table (window_at text row_width row column width) (height * width)

-- the width cells of one row of the text from a column on
pub cells_of_row : List ℕ → ℕ → ℕ → ℕ → ℕ → List ℕ
cells_of_row text row_width row column width = take width (drop (row * row_width + column) text)

-- document 01's strip: all rows of columns column to column + width − 1, by position. It is the window at row 0 that is
-- as tall as the text.
pub strip_at : List ℕ → ℕ → ℕ → ℕ → ℕ → ℕ
strip_at text row_width column width = window_at text row_width 0 column width

-- a read as a number: 256 past the end
abbrev pub cell_number : Option ℕ → ℕ
cell_number (Some v) = v
cell_number None = 256

-- the row of window k's corner: windows come row by row, across of them in a row
abbrev pub corner_row : ℕ → ℕ → ℕ
corner_row across k = k / across

-- the column of window k's corner
abbrev pub corner_column : ℕ → ℕ → ℕ
corner_column across k = k % across

-- What the inner functions' contracts cite.

-- how far behind a window's corner its position p lies in a text of that many columns: the same for every window
abbrev pub offset_of : ℕ → ℕ → ℕ → ℕ
offset_of columns width p = p / width * columns + p % width
