-- What a found window leaves to one further down in its strip. A window that is carried follows the pattern: where the
-- pattern has equal symbols, so has the window. The window k rows lower shares all rows of that one from its row k on.
-- Where the pattern's rows from k on have no mismatch with its first rows, the lower window follows the pattern in all
-- rows but its last k, and only these are new. The check reads windows row by row, so the row of the last window that
-- is carried is kept for each column.
-- Assumes nothing.
pub mod Laws
use Rattle.std.specs.Prelude.{◌≡◌, List, ℕ, ◌+◌, ◌-◌, ◌*◌, ◌≤◌, ◌<◌, length, get_or}
use Rattle.theory.specs.Match.{first_end}
use Rattle.cells.specs.Windows.{window_at}
use Rattle.matching.specs.Compare.{cell_of_pattern}
use Rattle.matching.specs.declared.compared.Compared.{Compared}
use Rattle.prefixes.specs.Prefixes.{suffix}
use Rattle.rows.specs.declared.run.FirstEnd.{FirstEnd}
use Rattle.sweep.specs.Sweep.{own_at, SidesOf}
use Rattle.inheriting.specs.Offsets.{Prepared}
use Rattle.inheriting.specs.declared.tables.Tables.{Tables}

-- What the inner functions' contracts cite.

-- where the pattern has equal symbols in its first n positions, so has the window
pub record Follows (m w : ℕ → ℕ) (n : ℕ) : Type 0 where
  pub same : (q p : ℕ) → q < n → p < n → m q ≡ m p → w q ≡ w p

-- the pattern's own end d positions down: the first end of what is left from there on, against the pattern
abbrev pub own_end_of : List ℕ → ℕ → ℕ
own_end_of pattern d = first_end (cell_of_pattern pattern) (suffix (cell_of_pattern pattern) d) (length pattern - d)

-- for each column one more than the row of a window there that follows the pattern, or 0 for none
pub record Tops (text pattern : List ℕ) (columns height width : ℕ) (tops : List ℕ) : Type 0 where
  pub long : length tops ≡ 256
  pub each : (j row : ℕ) → get_or tops j 0 ≡ row + 1
      → Follows (cell_of_pattern pattern) (window_at text columns row j width) (height * width)

-- the pattern's own ends, row by row
pub record OwnEndsMade (pattern : List ℕ) (height width : ℕ) (own : List FirstEnd) : Type 0 where
  pub long : length own ≡ 256
  pub each : (k : ℕ) → k < height → (own_at own k).end ≡ own_end_of pattern (k * width)

-- they are made where own end 0 is not 0, and else not yet
pub record OwnEndsIfMade (pattern : List ℕ) (height width : ℕ) (own : List FirstEnd) : Type 0 where
  pub long : length own ≡ 256
  pub made : 0 < (own_at own 0).end → OwnEndsMade pattern height width own

-- what the windows so far leave to those below them
pub record Above (text pattern : List ℕ) (columns height width : ℕ) (own : List FirstEnd) (tops : List ℕ) : Type 0
  where
    pub sides : SidesOf pattern height width
    pub narrow : columns ≤ 255
    pub tops_are : Tops text pattern columns height width tops
    pub owned : OwnEndsIfMade pattern height width own

-- the same of the text and the pattern of a window that is compared
abbrev pub AboveSeen : Compared → List FirstEnd → List ℕ → Type 0
AboveSeen c own tops =
    Above c.window.text.now c.pattern.now c.window.place.columns c.window.place.height c.window.place.width own tops

-- what the tables say that are lent from window to window: those of the windows above, and the offsets
pub record CheckTables (text pattern : List ℕ) (columns height width : ℕ) (tables : Tables) : Type 0 where
  pub above : Above text pattern columns height width tables.own tables.tops
  pub prepared : Prepared pattern columns width tables.offsets

-- the same of the text and the pattern of a window that is compared
abbrev pub TablesSeen : Compared → Tables → Type 0
TablesSeen c tables =
    CheckTables c.window.text.now c.pattern.now c.window.place.columns c.window.place.height c.window.place.width tables
