-- Document 01's tally operation: the number of different symbols in every window of a text.
-- Assumes nothing.
pub mod Laws
use Rattle.std.specs.Prelude.{List, ℕ, ◌*◌, leb, length}
use Rattle.theory.specs.Table.{table}
use Rattle.refusals.specs.Said.{Said, ◌then◌, check, Filled, filled_by}
use Rattle.shapes.specs.Questions.{text_said}
use Rattle.shapes.specs.Shapes.{corners, across, down}
use Rattle.cells.specs.Windows.{window_cells, corner_row, corner_column}
use Rattle.occurrences.specs.Distinct.{distinct}
use Rattle.shapes.specs.declared.shapes.Shape.{Shape}

-- the number of different symbols in window k
pub window_count : List ℕ → ℕ → ℕ → ℕ → ℕ → ℕ
window_count text columns height width k =
    distinct (window_cells text columns (corner_row (corners columns width) k) (corner_column (corners columns width) k)
    height width)

-- the same of the windows of that size
abbrev pub count_in : List ℕ → Shape → ℕ → ℕ
count_in text s = window_count text s.columns s.height s.width

-- what the operation says: 2, 3, 4, 10 in this order.
unfoldable pub counts_said : List ℕ → Shape → ℕ → Said
counts_said text s room = text_said text s then check (leb (down s * across s) room) 10

-- the counts operation: every window's count, row by row of corners, goes to the front of the buffer, and the rest
-- stays
unfoldable pub counts_of : List ℕ → Shape → List ℕ → Filled
counts_of text s counts =
    filled_by (counts_said text s (length counts)) (table (count_in text s) (down s * across s)) counts

-- What the inner functions' contracts cite.

-- the cells of n rows of the strip at column left, from row top on
abbrev pub strip_cells : List ℕ → Shape → ℕ → ℕ → ℕ → List ℕ
strip_cells text s top left n = window_cells text s.columns top left n s.width
