-- What is seen of a pattern and the window that it is compared with, by position.
-- Assumes nothing.
use Rattle.std.specs.Prelude.{ℕ}
use Rattle.view.specs.Places.{window_of, cell_count}
use Rattle.matching.specs.Compare.{cell_of_pattern}
use Rattle.matching.specs.declared.compared.Compared.{Compared}

-- the pattern's symbols
abbrev pub pattern_seen : Compared → ℕ → ℕ
pattern_seen c = cell_of_pattern c.pattern.now

-- the window's symbols
abbrev pub window_seen : Compared → ℕ → ℕ
window_seen c = window_of c.window.text.now c.window.place

-- how many positions there are
abbrev pub cells_seen : Compared → ℕ
cells_seen c = cell_count c.window.place
