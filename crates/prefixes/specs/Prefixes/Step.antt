-- The step: whether a mismatch ends at p, where none ends before it. Why it holds: before p pattern and window are
-- even, so every earlier position that has the window's symbol of p has one and the same symbol of the pattern, and the
-- other way round.
-- Assumes nothing.
use Rattle.std.specs.Prelude.{◌≡◌, Bool, true, false, not, ℕ, ◌<◌, eqb}
use Rattle.std.proofs.Common.{sym, ◌∙◌, ap, ⊎_elim, arith}
use Rattle.theory.specs.Test.{Tested, holds, fails}
use Rattle.theory.specs.Test.Laws.{eq_tested, true_or_false}
use Rattle.theory.specs.Match.{ends}
use Rattle.theory.specs.Match.Even.{Alike, even_if, ends_false, ends_not}
use Rattle.prefixes.specs.Prefixes.{FirstAt}

ends_if : (m w : ℕ → ℕ) (q p : ℕ) → q < p → (Alike (m q) (m p) (w q) (w p) → ⊥) → ends m w p ≡ true
ends_if m w q p h never = ⊎_elim (λ t. t) (λ f. absurd (never (ends_false m w p f q h))) (true_or_false (ends m w p))

module _ (m w : ℕ → ℕ) (p : ℕ) (clear : (k : ℕ) → k < p → ends m w k ≡ false) where
  -- an earlier position of the window's symbol decides
  pub near_decides : (q : ℕ) → q < p → w q ≡ w p → eqb (m q) (m p) ≡ not (ends m w p)
  near_decides q h e = go (eq_tested (m q) (m p))
    where
      like : m q ≡ m p → (k : ℕ) → k < p → Alike (m k) (m p) (w k) (w p)
      like f k hk =
          let a = even_if m w p clear k q hk h in
          record { there = λ x. a.there (x ∙ sym f) ∙ e; back = λ x. a.back (x ∙ sym e) ∙ f }

      go : {t : Bool} → Tested (m q ≡ m p) t → t ≡ not (ends m w p)
      go (holds f) = sym (ap not (ends_not m w p (like f)))
      go (fails g) = sym (ap not (ends_if m w q p h (λ a. g (a.back e))))

  -- and so does an earlier position of the pattern's symbol
  pub repeat_decides : (q : ℕ) → q < p → m q ≡ m p → eqb (w q) (w p) ≡ not (ends m w p)
  repeat_decides q h e = go (eq_tested (w q) (w p))
    where
      like : w q ≡ w p → (k : ℕ) → k < p → Alike (m k) (m p) (w k) (w p)
      like f k hk =
          let a = even_if m w p clear k q hk h in
          record { there = λ x. a.there (x ∙ sym e) ∙ f; back = λ x. a.back (x ∙ sym f) ∙ e }

      go : {t : Bool} → Tested (w q ≡ w p) t → t ≡ not (ends m w p)
      go (holds f) = sym (ap not (ends_not m w p (like f)))
      go (fails g) = sym (ap not (ends_if m w q p h (λ a. g (a.there e))))

  -- where the window's symbol is new, whether the pattern's is new there too
  pub new_decides : (f : ℕ) → ((k : ℕ) → k < p → w k ≡ w p → ⊥) → FirstAt m p f → eqb f p ≡ not (ends m w p)
  new_decides f none fp = go (eq_tested f p)
    where
      fresh : f ≡ p → (k : ℕ) → k < p → m k ≡ m p → ⊥
      fresh e k h d = omega (arith, fp.least k (omega arith) d)

      go : {t : Bool} → Tested (f ≡ p) t → t ≡ not (ends m w p)
      go (holds e) =
          sym (ap not (ends_not m w p (λ k h. record
          { there = λ d. absurd (fresh e k h d); back = λ d. absurd (none k h d) })))
      go (fails g) =
          let h : f < p = omega (arith, fp.within) in
          sym (ap not (ends_if m w f p h (λ a. none f h (a.there fp.same))))
