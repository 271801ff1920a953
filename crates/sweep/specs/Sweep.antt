-- The sweep: a step from window to window down a strip, which finds the window's first end and the earlier position of
-- the mismatch that ends there. All steps of a strip together take a time that is linear in the strip.
--
-- Down a strip each window is asked with what the last one that was compared says of it, by the three laws of
-- crates/prefixes. The step and the two cells: symbol by symbol, with the first places of the pattern's symbols and the
-- last places of the strip's, `reach` finds how far a window agrees, and the mismatch that ends there. Inheritance: the
-- window k rows below the last one compared has the pattern's own first end, of its rows from k on against itself,
-- where that lies in what agreed; else it agrees as far as that one did, and is compared from there on. So each cell of
-- a strip is compared about once. The pattern's own ends are the same run, with the pattern as its text; they are made
-- when a window first asks for one, and of as many rows as windows have agreed in, or more. Contracts say what is
-- found, and nothing of the time.
-- Assumes nothing.
pub mod Steps
pub mod Own
pub mod Runs
use Rattle.std.specs.Prelude.{◌≡◌, List, ℕ, ◌+◌, ◌-◌, ◌*◌, ◌≤◌, ◌<◌, length, get_or}
use Rattle.grid.specs.Strips.{StripOf, strip_symbols, strip_from}
use Rattle.grid.specs.declared.strips.Strip.{Strip}
use Rattle.prefixes.specs.Prefixes.{suffix, EndIs, first_earlier}
use Rattle.prefixes.specs.State.{FirstPlaces, Swept}
use Rattle.rows.specs.declared.run.Run.{Run}
use Rattle.rows.specs.declared.run.FirstEnd.{FirstEnd}
use Rattle.sweep.specs.declared.steps.Step.{Step}
use Rattle.theory.specs.Match.{first_end}
use Rattle.shapes.specs.Shapes.{ShapeOf, across, down}
use Rattle.cells.specs.Windows.{window_at, corner_row, corner_column}
use Rattle.shapes.specs.declared.shapes.Shape.{Shape}

-- the first end of window k
unfoldable pub end_of : List ℕ → Shape → List ℕ → ℕ → ℕ
end_of text s pattern k =
    first_end (λ p. get_or pattern p 0) (window_at text s.columns (corner_row (across s) k) (corner_column (across s) k)
    s.width) (s.height * s.width)

-- and the earlier position of the mismatch that ends there, or 0 where none does
unfoldable pub earlier_of : List ℕ → Shape → List ℕ → ℕ → ℕ
earlier_of text s pattern k =
    first_earlier (λ p. get_or pattern p 0)
    (window_at text s.columns (corner_row (across s) k) (corner_column (across s) k) s.width) (s.height * s.width)

-- What the inner functions' contracts cite.

-- a run stands at the window at row top: the last window compared begins at its row, at or above top, and agrees up to
-- the place reached
pub record RunAt (text : List ℕ) (s : Strip) (pattern last : List ℕ) (run : Run) (top height : ℕ) : Type 0 where
  pub past : run.row ≤ top
  pub fits : run.reached ≤ run.row * s.width + length pattern
  pub within : run.reached ≤ (top + height) * s.width
  pub swept : Swept (λ k. get_or pattern k 0) (strip_symbols text s) (run.row * s.width) run.reached last

-- what the pattern's own window d places down says, in the first cells positions of the pattern
abbrev pub OwnEndIs : List ℕ → ℕ → ℕ → ℕ → ℕ → Type 0
OwnEndIs pattern cells d end earlier =
    EndIs (λ k. get_or pattern k 0) (suffix (λ k. get_or pattern k 0) d) (cells - d) end earlier

-- and in as many as agreed, or more
pub record OwnKnown (pattern : List ℕ) (agreed d end earlier : ℕ) : Type 0 where
  pub cells : ℕ
  pub enough : agreed ≤ cells
  pub own_end : OwnEndIs pattern cells d end earlier

-- a table's entry for the window k rows down
abbrev pub own_at : List FirstEnd → ℕ → FirstEnd
own_at own k = get_or own k (record { end = 0; earlier = 0 })

-- what is asked of the next window
pub record NextAt (text : List ℕ) (s : Strip) (pattern first last : List ℕ) (own : List FirstEnd) (run : Run)
    (top height : ℕ) : Type 0 where
  pub strip : StripOf s (length text)
  pub down : top + height ≤ s.rows
  pub cells : height * s.width ≤ length pattern
  pub places : FirstPlaces (λ k. get_or pattern k 0) (length pattern) first
  pub at_run : RunAt text s pattern last run top height
  pub self : top * s.width < run.reached
      → OwnKnown pattern (run.reached - run.row * s.width) ((top - run.row) * s.width) (own_at own (top - run.row)).end
      (own_at own (top - run.row)).earlier

-- its first end, and where the run stands then
pub record NextIs (text : List ℕ) (s : Strip) (pattern : List ℕ) (row top height : ℕ) (r : Step) (last : List ℕ)
    : Type 0 where
  pub since : row ≤ r.run.row
  pub at_run : RunAt text s pattern last r.run top height
  pub end : EndIs (λ k. get_or pattern k 0) (suffix (strip_symbols text s) (top * s.width)) (height * s.width) r.end
      r.earlier

-- the pattern as a strip
abbrev pub own_strip : ℕ → ℕ → Strip
own_strip height width = record { rows = height; columns = width; left = 0; width = width }

-- the sides of a pattern
pub record SidesOf (pattern : List ℕ) (height width : ℕ) : Type 0 where
  pub cells : length pattern ≡ height * width
  pub tall : 1 ≤ height
  pub broad : 1 ≤ width
  pub height_le : height ≤ 255
  pub width_le : width ≤ 255

-- the first ends and earlier positions of the pattern's own windows from row 0 to before row n, in the first cells
-- positions of the pattern; own end 0 is their number
pub record OwnMismatches (pattern : List ℕ) (width cells n : ℕ) (own : List FirstEnd) : Type 0 where
  pub long : length own ≡ 256
  pub whole : (own_at own 0).end ≡ cells
  pub each : (k : ℕ) → k < n → OwnEndIs pattern cells (k * width) (own_at own k).end (own_at own k).earlier

-- as far as they were made for strips of n windows: in as many positions as own end 0 says, in none where it is 0
pub record OwnSoFar (pattern : List ℕ) (width n : ℕ) (own : List FirstEnd) : Type 0 where
  pub long : length own ≡ 256
  pub within : (own_at own 0).end ≤ length pattern
  pub each : (k : ℕ) → k < n → k * width < (own_at own 0).end
      → OwnEndIs pattern (own_at own 0).end (k * width) (own_at own k).end (own_at own k).earlier

-- a pattern of sides that were not refused, and what is known of it by itself
pub record PatternAt (s : Shape) (pattern first : List ℕ) (own : List FirstEnd) : Type 0 where
  pub sides : SidesOf pattern s.height s.width
  pub rows_le : s.rows ≤ 255
  pub fits : s.height ≤ s.rows
  pub places : FirstPlaces (λ k. get_or pattern k 0) (length pattern) first
  pub owns : OwnSoFar pattern s.width (down s) own

-- a text, a pattern of that size, and what is known of the pattern by itself
pub record SweepAt (text : List ℕ) (s : Shape) (pattern first : List ℕ) (own : List FirstEnd) : Type 0 where
  pub shape : ShapeOf s (length text)
  pub cells : length pattern ≡ s.height * s.width
  pub places : FirstPlaces (λ k. get_or pattern k 0) (length pattern) first
  pub owns : OwnSoFar pattern s.width (down s) own

-- the strip at column left
abbrev pub column_strip : Shape → ℕ → Strip
column_strip s left = strip_from s.rows s.columns s.width left
