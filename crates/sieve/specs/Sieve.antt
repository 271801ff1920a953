-- The cheap tests before a window is compared: a window that has not the pattern's pairs alike does not match, nor does
-- one that two cells spoil. They need not be right the other way: a window that passes is compared.
-- Assumes nothing.
pub mod Laws
use Rattle.std.specs.Prelude.{◌≡◌, true, List, ℕ, ◌*◌, ◌<◌, eqb, length, get_or}
use Rattle.theory.specs.Match.{first_end}
use Rattle.shapes.specs.Shapes.{ShapeOf, across}
use Rattle.cells.specs.Windows.{strip_at, offset_of}
use Rattle.shapes.specs.declared.shapes.Shape.{Shape}
use Rattle.prefixes.specs.Prefixes.{suffix}
use Rattle.alike.specs.Pairs.{AlikePairs, no_pair}
use Rattle.alike.specs.declared.pairs.Pair.{Pair}
use Rattle.sieve.specs.declared.spoilers.Spoiler.{Spoiler}

-- What the inner functions' contracts cite.

-- a mismatch ends in the window at row top of the strip at column left
abbrev pub Differs : List ℕ → List ℕ → Shape → ℕ → ℕ → Type 0
Differs text pattern s left top =
    first_end (λ k. get_or pattern k 0) (suffix (strip_at text s.columns left s.width) (top * s.width))
    (length pattern) < length pattern

-- what a test of the strip's windows asks
pub record StripAsked (text pattern : List ℕ) (s : Shape) (left : ℕ) : Type 0 where
  pub shape : ShapeOf s (length text)
  pub size : length pattern ≡ s.height * s.width
  pub beside : left < across s

-- and that by pairs
pub record PairsAsked (text pattern : List ℕ) (pairs : List Pair) (s : Shape) (left : ℕ) : Type 0 where
  pub strip : StripAsked text pattern s left
  pub alike : AlikePairs pattern s.columns s.width pairs

-- the corner with itself
abbrev pub no_spoiler : Spoiler
no_spoiler = record { cells = no_pair; alike = true }

-- two cells of the pattern by their offsets, and whether they are alike in it
pub record SpoilerOf (pattern : List ℕ) (columns width : ℕ) (x : Spoiler) : Type 0 where
  pub p : ℕ
  pub q : ℕ
  pub p_in : p < length pattern
  pub q_in : q < length pattern
  pub earlier_is : x.cells.earlier ≡ offset_of columns width p
  pub later_is : x.cells.later ≡ offset_of columns width q
  pub alike_is : x.alike ≡ eqb (get_or pattern p 0) (get_or pattern q 0)
