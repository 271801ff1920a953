-- The least number below a bound that passes a test: one notion of search for links, mismatches, first places and
-- members of a set.
-- Assumes nothing.
pub mod Laws
use Rattle.std.specs.Prelude.{◌≡◌, Bool, true, false, not, ℕ, zero, suc, ◌≤◌, ◌<◌, eqb}
use Rattle.theory.specs.Test.{pick}

-- the least k below n with P k, or n where there is none
unfoldable pub first : (ℕ → Bool) → ℕ → ℕ
first P zero = zero
first P (suc n) = pick (P zero) zero (suc (first (λ k. P (suc k)) n))

-- r is that number
pub record First (P : ℕ → Bool) (n r : ℕ) : Type 0 where
  pub within : r ≤ n
  pub before : (k : ℕ) → k < r → P k ≡ false
  pub hit : r < n → P r ≡ true

-- every k below n passes
unfoldable pub every : (ℕ → Bool) → ℕ → Bool
every P n = eqb (first (λ k. not (P k)) n) n
