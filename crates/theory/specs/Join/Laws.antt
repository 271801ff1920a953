-- The first and the last of lists one after another.
-- Assumes nothing.
use Rattle.std.specs.Prelude.{◌≡◌}
use Rattle.std.proofs.Math.Path.{refl, ap₂}
use mathlib.Core.List.{List, [], ◌++◌}
use Prim.Native.Nat.{ℕ, zero, suc, ◌<◌}
use Rattle.std.proofs.Common.{arith}
use Rattle.theory.specs.Join.{joined}

module _ {A : Type 0} where
  pub joined-zero : (f : ℕ → List A) → joined f 0 ≡ []
  unfolding joined
  joined-zero f = refl

  pub joined-suc : (f : ℕ → List A) (n : ℕ) → joined f (suc n) ≡ joined f n ++ f n
  unfolding joined
  joined-suc f n = refl

  -- the same lists in the same order
  pub joined_ext : (f g : ℕ → List A) (n : ℕ) → ((k : ℕ) → k < n → f k ≡ g k) → joined f n ≡ joined g n
  unfolding joined
  joined_ext f g zero h = refl
  joined_ext f g (suc n) h =
      ap₂ (λ (xs ys : List A). xs ++ ys) (joined_ext f g n (λ k l. h k (omega arith))) (h n (omega arith))
