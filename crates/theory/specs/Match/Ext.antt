-- The answer depends on nothing but the symbols at the positions below n.
-- Assumes nothing.
use Rattle.std.specs.Prelude.{◌≡◌, Bool, ℕ, ◌<◌, eqb}
use Rattle.std.proofs.Math.Path.{refl, ap, ap₂}
use Rattle.std.proofs.Common.{◌∙◌, arith}
use Rattle.std.proofs.Math.Dec.{ltb}
use Rattle.theory.specs.Test.{pick, Tested, holds, fails}
use Rattle.theory.specs.Test.Laws.{lt_tested}
use Rattle.theory.specs.First.Laws.{first_ext}
use Rattle.theory.specs.Match.{mismatch_by, mismatch_at, earliest, ends, first_end, matched, mismatched}
use Rattle.theory.specs.Match.{mismatch_ending, answer_of}

module _ (m w x : ℕ → ℕ) (n : ℕ) (same : (p : ℕ) → p < n → w p ≡ x p) where
  earliest_ext : (p : ℕ) → p < n → earliest m w p ≡ earliest m x p
  unfolding earliest mismatch_at
  earliest_ext p h =
      first_ext _ _ p (λ q l. ap₂ (λ (u v : ℕ). mismatch_by (m q) (m p) u v) (same q (omega arith)) (same p h))

  first_end_ext : first_end m w n ≡ first_end m x n
  unfolding first_end ends
  first_end_ext = first_ext _ _ n (λ p h. ap (λ (e : ℕ). ltb e p) (earliest_ext p h))

  ending_ext : (p : ℕ) → p < n → mismatch_ending m w p ≡ mismatch_ending m x p
  unfolding mismatch_ending
  ending_ext p h = ap (λ (e : ℕ). mismatched (eqb (m e) (m p)) e p) (earliest_ext p h)

  pub answer_ext : answer_of m w n ≡ answer_of m x n
  unfolding answer_of
  answer_ext =
      go (lt_tested (first_end m w n) n) ∙ ap (λ (e : ℕ). pick (ltb e n) (mismatch_ending m x e) matched) first_end_ext
    where
      go : {t : Bool} → Tested (first_end m w n < n) t
          → pick t (mismatch_ending m w (first_end m w n)) matched ≡ pick t (mismatch_ending m x (first_end m w n)) matched
      go (holds h) = ending_ext (first_end m w n) h
      go (fails h) = refl
