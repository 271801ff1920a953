-- A window of a text by its place: its symbols by position, how many there are, and that it lies in the text.
-- Assumes nothing.
pub mod Laws
use Rattle.std.specs.Prelude.{List, ℕ, ◌+◌, ◌*◌, ◌≤◌, ◌<◌, length}
use Rattle.cells.specs.Windows.{window_at}
use Rattle.cells.specs.declared.windows.WindowPlace.{WindowPlace}

-- the window's symbols by position
abbrev pub window_of : List ℕ → WindowPlace → ℕ → ℕ
window_of text v = window_at text v.columns v.row v.column v.width

-- how many positions there are
abbrev pub cell_count : WindowPlace → ℕ
cell_count v = v.height * v.width

-- where the window's corner lies in the text
abbrev pub corner_of : WindowPlace → ℕ
corner_of v = v.row * v.columns + v.column

-- What the inner functions' contracts cite.

-- a window of that size lies in the text
pub record Placed (text : List ℕ) (v : WindowPlace) : Type 0 where
  pub some : 0 < v.width
  pub tall : 0 < v.height
  pub down : (v.row + v.height) * v.columns ≤ length text
  pub across : v.column + v.width ≤ v.columns
  pub small : length text ≤ 65025
