-- How far a window agrees with a pattern: m is the pattern by position, w the window. The meanings: the position at
-- which a mismatch ends first (`first_end` of theory), and the earlier position of that mismatch.
--
-- The step (Step.antt). Where no mismatch ends before p: if the window's symbol at p stands at an earlier position q of
-- the window, at whichever, then none ends at p exactly if m q = m p; if it stands at none, exactly if p is the first
-- place of m p in the pattern. So the first place of each symbol of the pattern, and some earlier place of each symbol
-- of the window, decide; columns, pairs and links are not needed.
--
-- The two cells (Cells.antt). Where a mismatch ends at p and none before: its earlier position is the lesser of the
-- first place of m p and, where the window's symbol has an earlier position q, the first place of m q. Which of the two
-- it is says which side is alike.
--
-- Inheritance (Inheritance.antt). A window that begins at place i of a text agrees up to place e. For the window that
-- begins d further on, let f be the first end of the pattern from d on against the pattern itself. If i + d + f < e,
-- that window's first end is f, and its two cells are those of the pattern against itself. Else it agrees up to e.
-- Assumes nothing.
pub mod Step
pub mod Cells
pub mod Ends
pub mod Inheritance
use Rattle.std.specs.Prelude.{◌≡◌, ℕ, ◌+◌, ◌≤◌, ltb}
use Rattle.theory.specs.Test.{pick}
use Rattle.theory.specs.Match.{earliest, first_end}

-- the earlier position of the mismatch that ends first, or 0 where there is none
unfoldable pub first_earlier : (ℕ → ℕ) → (ℕ → ℕ) → ℕ → ℕ
first_earlier m w n = pick (ltb (first_end m w n) n) (earliest m w (first_end m w n)) 0

-- end is the first end of a window of n positions, and earlier the earlier position of the mismatch that ends there
pub record EndIs (m w : ℕ → ℕ) (n end earlier : ℕ) : Type 0 where
  pub end_is : end ≡ first_end m w n
  pub earlier_is : earlier ≡ first_earlier m w n

-- What the inner functions' contracts cite.

-- the sequence from position i on
abbrev pub suffix : (ℕ → ℕ) → ℕ → ℕ → ℕ
suffix t i p = t (i + p)

-- f is the first position that has the symbol of p
pub record FirstAt (m : ℕ → ℕ) (p f : ℕ) : Type 0 where
  pub within : f ≤ p
  pub same : m f ≡ m p
  pub least : (k : ℕ) → k ≤ p → m k ≡ m p → f ≤ k
