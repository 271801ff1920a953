-- First places, written from the pattern's end to its beginning: a later store overwrites an earlier one, so what is
-- left is the first.
-- Assumes nothing.
use Rattle.std.specs.Prelude.{◌≡◌, List, ℕ, ◌≤◌, ◌<◌, length, get_or}

-- l has the first places of the symbols from position p on
pub record FirstsFrom (pattern : List ℕ) (p : ℕ) (l : List ℕ) : Type 0 where
  pub within : p ≤ length pattern
  pub long : length l ≡ 256
  pub each : (k : ℕ) → p ≤ k → k < length pattern
      → (get_or l (get_or pattern k 0) 0 ≤ k) × (get_or pattern (get_or l (get_or pattern k 0) 0) 0 ≡ get_or pattern k 0)
