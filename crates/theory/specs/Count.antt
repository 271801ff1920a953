-- How many numbers below a bound pass a test, and which.
-- Assumes nothing.
pub mod Laws
pub mod Steps
use Rattle.std.specs.Prelude.{◌≡◌, Bool, List, [], ◌∷◌, ◌++◌, ℕ, zero, suc, ◌+◌, ◌<◌, length, get_or}
use Rattle.theory.specs.Test.{pick}

-- how many k below n have P k
unfoldable pub count : (ℕ → Bool) → ℕ → ℕ
count P zero = 0
count P (suc n) = pick (P n) (count P n + 1) (count P n)

-- those k, rising
unfoldable pub members : (ℕ → Bool) → ℕ → List ℕ
members P zero = []
members P (suc n) = members P n ++ pick (P n) (n ∷ []) []

-- x is an entry of the list
abbrev pub Entry : List ℕ → ℕ → Type 0
Entry xs x = (i : ℕ) × (i < length xs) × (get_or xs i 0 ≡ x)

-- each entry is greater than those before it
abbrev pub Rising : List ℕ → Type 0
Rising xs = (i j : ℕ) → i < j → j < length xs → get_or xs i 0 < get_or xs j 0
