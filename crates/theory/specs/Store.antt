-- A buffer while a loop writes it: what stores one after another leave in a list. Both orders of filling a buffer that
-- the code has, row after row and strip after strip, are instances.
-- Assumes nothing.
pub mod Laws
use Rattle.std.specs.Prelude.{◌≡◌, List, ℕ, zero, suc, ◌<◌, set}

-- the first n of the places at 0, at 1, .. are written, each with f of its place
unfoldable pub stored : (ℕ → ℕ) → (ℕ → ℕ) → ℕ → List ℕ → List ℕ
stored f at zero l = l
stored f at (suc n) l = set (stored f at n l) (at n) (f (at n))

-- the same for m rows of n places, row after row
unfoldable pub stored_rows : (ℕ → ℕ) → (ℕ → ℕ → ℕ) → ℕ → ℕ → List ℕ → List ℕ
stored_rows f at zero n l = l
stored_rows f at (suc m) n l = stored f (at m) n (stored_rows f at m n l)

-- the places of m rows of n are just the numbers below size
pub record Covers (at : ℕ → ℕ → ℕ) (m n size : ℕ) : Type 0 where
  pub row : ℕ → ℕ
  pub column : ℕ → ℕ
  pub place : (k : ℕ) → k < size → (row k < m) × (column k < n) × (at (row k) (column k) ≡ k)
  pub inside : (i j : ℕ) → i < m → j < n → at i j < size
