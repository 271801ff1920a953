-- A part of a window's row against the pattern: what the code asks of it, and the first cell at which a mismatch ends.
-- Assumes nothing.
pub mod Laws
use Rattle.std.specs.Prelude.{◌≡◌, List, ℕ, ◌+◌, ◌≤◌, ◌<◌, length, get_or, true}
use Rattle.prefixes.specs.Prefixes.{suffix}
use Rattle.prefixes.specs.State.{FirstPlaces, Swept}
use Rattle.theory.specs.Match.{ends}
use Rattle.theory.specs.Older.{Older}

-- what the code asks of a part, n cells of the text from place begin on, that begins at position from of a window,
-- where the window begins at start of its strip
pub record PartAt (pattern text : List ℕ) (begin n : ℕ) (first last : List ℕ) (start from : ℕ) : Type 0 where
  pub places : FirstPlaces (λ k. get_or pattern k 0) (length pattern) first
  pub older : Older (start + from + 1) last
  pub lies : begin + n ≤ length text
  pub counted : begin + n ≤ 18446744073709551615
  pub inside : from + n ≤ length pattern
  pub small : start + from + n ≤ 65025

-- the part lies in the strip t, and the window agrees so far
pub record PartMeets (t : ℕ → ℕ) (pattern text : List ℕ) (begin n : ℕ) (last : List ℕ) (start from : ℕ) : Type 0 where
  pub row_is : (j : ℕ) → j < n → get_or text (begin + j) 0 ≡ t (start + (from + j))
  pub swept : Swept (λ k. get_or pattern k 0) t start (start + from) last

-- j cells of the part agree, whatever the strip
pub record PassedPart (pattern text : List ℕ) (begin n : ℕ) (last : List ℕ) (start from j : ℕ) (last' : List ℕ) : Type 0
  where
    pub within : j ≤ n
    pub older : Older (start + from + j + 1) last'
    pub swept : (t : ℕ → ℕ) → PartMeets t pattern text begin n last start from
        → Swept (λ k. get_or pattern k 0) t start (start + (from + j)) last'

-- r is the first cell of the part at which a mismatch ends, or its length
pub record EndsPart (pattern text : List ℕ) (begin n : ℕ) (last : List ℕ) (start from r : ℕ) (last' : List ℕ) : Type 0
  where
    pub passed : PassedPart pattern text begin n last start from r last'
    pub hit : (t : ℕ → ℕ) → PartMeets t pattern text begin n last start from → r < n
        → ends (λ k. get_or pattern k 0) (suffix t start) (from + r) ≡ true
