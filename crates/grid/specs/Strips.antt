-- Document 01's links of a strip (document 004, Definition 6: the predecessor), over any sequence of symbols by
-- position.
-- Assumes nothing.
pub mod Links
pub mod Rows
pub mod Laws
use Rattle.std.specs.Prelude.{Bool, ◌≡◌, List, ℕ, suc, ◌+◌, ◌-◌, ◌*◌, ◌≤◌, ◌<◌, eqb, ltb, leb, length, get_or}
use Rattle.theory.specs.Test.{pick}
use Rattle.theory.specs.First.{first}
use Rattle.theory.specs.Table.{table}
use Rattle.theory.specs.Store.{stored}
use Rattle.refusals.specs.Said.{Said, ◌then◌, check, Filled, filled_by}
use Rattle.shapes.specs.Questions.{four_sides, text_said}
use Rattle.shapes.specs.Shapes.{corner_inside_test, Shaped}
use Rattle.shapes.specs.declared.shapes.Shape.{Shape}
use Rattle.cells.specs.Windows.{strip_at}
use Rattle.grid.specs.declared.strips.Strip.{Strip}

-- the least d with 1 ≤ d ≤ p and s (p − d) = s p, or 0 where there is none
pub link : (ℕ → ℕ) → ℕ → ℕ
link s p = distance (first (λ k. eqb (s (p - suc k)) (s p)) p)
  where
    distance : ℕ → ℕ
    distance k = pick (ltb k p) (suc k) 0

-- a strip of a text by its numbers
abbrev pub strip_from : ℕ → ℕ → ℕ → ℕ → Strip
strip_from rows columns width left = record { rows = rows; columns = columns; left = left; width = width }

-- its symbols by position
abbrev pub strip_symbols : List ℕ → Strip → ℕ → ℕ
strip_symbols text t = strip_at text t.columns t.left t.width

-- how many positions it has
abbrev pub strip_size : Strip → ℕ
strip_size t = t.rows * t.width

-- a strip is as tall as the text
abbrev pub strip_sides : Strip → Shape
strip_sides t = four_sides t.rows t.columns t.rows t.width

-- its first column is not beyond the last at which it fits
abbrev pub strip_inside : Strip → Bool
strip_inside t = corner_inside_test t.rows t.columns t.rows t.width 0 t.left

-- what the operation says: 2, 3, 4, 5, 9 in this order
unfoldable pub links_said : List ℕ → Strip → ℕ → Said
links_said text t room =
    text_said text (strip_sides t) then check (strip_inside t) 5 then check (leb (strip_size t) room) 9

-- the links operation: the links of the strip's positions go to the front of the buffer, and the rest stays
unfoldable pub links_of : List ℕ → Strip → List ℕ → Filled
links_of text t links =
    filled_by (links_said text t (length links)) (table (link (strip_symbols text t)) (strip_size t)) links

-- What the inner functions' contracts cite.

-- a strip of a text of that many cells
pub record StripOf (t : Strip) (cells : ℕ) : Type 0 where
  pub shape : Shaped cells t.rows t.columns t.rows t.width
  pub inside : t.left + t.width ≤ t.columns

-- one more than the last position before p that has v, or 0 where none has
pub data Latest (s : ℕ → ℕ) (p v : ℕ) : ℕ → Type 0 where
  never : ((q : ℕ) → q < p → s q ≡ v → ⊥) → Latest s p v 0
  latest : (q : ℕ) → q < p → s q ≡ v → ((k : ℕ) → q < k → k < p → s k ≡ v → ⊥) → Latest s p v (suc q)

-- t has that number for each symbol
pub record LastPlaces (s : ℕ → ℕ) (p : ℕ) (t : List ℕ) : Type 0 where
  pub long : length t ≡ 256
  pub each : (v : ℕ) → v < 256 → Latest s p v (get_or t v 0)

-- the row has the symbols from position base on
abbrev pub RowFrom : (ℕ → ℕ) → ℕ → List ℕ → Type 0
RowFrom s base row = (j : ℕ) → j < length row → get_or row j 0 ≡ s (base + j)

-- a row of some sequence, with the last places before it and room for its links. Positions are below 255 × 255, so a
-- place fits 16 bits.
pub record Linkable (base : ℕ) (row last : List ℕ) (room : ℕ) : Type 0 where
  pub symbols : ℕ → ℕ
  pub row_is : RowFrom symbols base row
  pub places : LastPlaces symbols base last
  pub small : base + length row ≤ 65025
  pub fitting : base + length row ≤ room

-- n positions from base on are linked: the links are written, and the last places are those before the next position
pub record LinkedRow (s : ℕ → ℕ) (base n : ℕ) (links₀ last links : List ℕ) : Type 0 where
  pub places : LastPlaces s (base + n) last
  pub written : links ≡ stored (link s) (λ j. base + j) n links₀
