-- Tables of 256 entries that are lent from window to window and never cleared, and a bound above all entries. What a
-- window stores is not below the bound that held before it: so an entry that is, an earlier window left, and a table
-- that is lent on has nothing of windows that come later.
-- Assumes nothing.
pub mod Laws
use Rattle.std.specs.Prelude.{◌≡◌, List, ℕ, ◌<◌, length, get_or}

-- a column of 256 entries, all of them below base
pub record Older (base : ℕ) (l : List ℕ) : Type 0 where
  pub long : length l ≡ 256
  pub below : (i : ℕ) → get_or l i 0 < base
