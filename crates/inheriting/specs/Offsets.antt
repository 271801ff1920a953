-- How far the first place of each of the pattern's symbols lies behind a window's corner in the text. It is the same
-- for all windows, so a window's symbol in that place, the symbol's image, is one read of the text.
-- Assumes nothing.
pub mod Laws
use Rattle.std.specs.Prelude.{◌≡◌, List, ℕ, ◌+◌, ◌<◌, eqb, length, get_or, Option, Some}
use Rattle.theory.specs.First.{first}
use Rattle.cells.specs.Windows.{offset_of}

-- what stands as far behind the corner as the symbol's offset says
abbrev pub image_from_behind : List ℕ → ℕ → List ℕ → ℕ → ℕ
image_from_behind text corner offsets a = get_or text (corner + get_or offsets a 0) 0

-- the first place at which a pattern has a symbol
unfoldable pub first_place : List ℕ → ℕ → ℕ
first_place pattern a = first (λ k. eqb (get_or pattern k 0) a) (length pattern)

-- for each of the pattern's symbols, how far its first place lies behind a window's corner
pub record Offsets (pattern : List ℕ) (columns width : ℕ) (offsets : List ℕ) : Type 0 where
  pub long : length offsets ≡ 256
  pub lead : (p : ℕ) → p < length pattern
      → get_or offsets (get_or pattern p 0) 0 ≡ offset_of columns width (first_place pattern (get_or pattern p 0))

-- they are right where they are made
pub record Prepared (pattern : List ℕ) (columns width : ℕ) (offsets : Option (List ℕ)) : Type 0 where
  pub made : (table : List ℕ) → offsets ≡ Some table → Offsets pattern columns width table

-- they are made
pub record Made (pattern : List ℕ) (columns width : ℕ) (offsets : Option (List ℕ)) : Type 0 where
  pub table : List ℕ
  pub table_is : offsets ≡ Some table
  pub leads : Offsets pattern columns width table

-- the first i symbols of a list have their offsets
pub record OffsetsUpTo (columns width : ℕ) (symbols first : List ℕ) (i : ℕ) (offsets : List ℕ) : Type 0 where
  pub long : length offsets ≡ 256
  pub each : (j : ℕ) → j < i
      → get_or offsets (get_or symbols j 0) 0 ≡ offset_of columns width (get_or first (get_or symbols j 0) 0)

-- the images of these symbols lie in the text
pub record ImagesInside (text : List ℕ) (corner : ℕ) (offsets symbols : List ℕ) : Type 0 where
  pub long : length offsets ≡ 256
  pub each : (i : ℕ) → i < length symbols → corner + get_or offsets (get_or symbols i 0) 0 < length text
