-- Inheritance: what a window that agrees up to e says of one that begins d further on. Why it holds: up to e the text
-- is even with the pattern, so the text from there on is even with the pattern from d on, and what is even with a
-- sequence mismatches with the pattern just where that sequence does.
-- Assumes nothing.
use Rattle.std.specs.Prelude.{◌≡◌, Bool, false, not, ℕ, ◌+◌, ◌-◌, ◌<◌, ◌≤◌}
use Rattle.std.proofs.Math.Path.{sym, ap}
use Rattle.std.proofs.Common.{◌∙◌, arith}
use Rattle.std.proofs.Math.Dec.{eqb, ltb}
use Rattle.theory.specs.Test.{pick}
use Rattle.theory.specs.Test.Laws.{eq_tested, tested_same, tested_iff}
use Rattle.theory.specs.First.{First}
use Rattle.theory.specs.First.Laws.{first_is, first_spec, first_ext}
use Rattle.theory.specs.Match.{mismatch_at, earliest, ends, first_end}
use Rattle.theory.specs.Match.Even.{Even, even_if}
use Rattle.prefixes.specs.Prefixes.{suffix, EndIs}
use Rattle.prefixes.specs.Prefixes.Ends.{ends_inside, inside_earlier}

-- a window that is even with another sequence mismatches where that one does
module _ (m s w : ℕ → ℕ) (n : ℕ) (ev : Even s w n) where
  mismatch_alike : (p q : ℕ) → p < n → q < n → mismatch_at m w p q ≡ mismatch_at m s p q
  unfolding mismatch_at
  mismatch_alike p q hp hq =
      let a = ev q p hq hp in
      let e : eqb (w q) (w p) ≡ eqb (s q) (s p) = tested_same (eq_tested (w q) (w p))
      (tested_iff a.there a.back (eq_tested (s q) (s p))) in
      ap (λ (b : Bool). pick (eqb (m q) (m p)) (not b) b) e

  pub earliest_alike : (p : ℕ) → p < n → earliest m w p ≡ earliest m s p
  unfolding earliest
  earliest_alike p h = first_ext _ _ p (λ q l. mismatch_alike p q h (omega arith))

  pub ends_alike : (p : ℕ) → p < n → ends m w p ≡ ends m s p
  unfolding ends
  ends_alike p h = ap (λ (e : ℕ). ltb e p) (earliest_alike p h)

module _ (m t : ℕ → ℕ) (i e d : ℕ) (clear : (k : ℕ) → i + k < e → ends m (suffix t i) k ≡ false) where
  -- from there on the text is even with the pattern from d on
  even_lower : Even (suffix m d) (suffix t (i + d)) (e - (i + d))
  even_lower q p hq hp =
      let ev : Even m (suffix t i) (e - i) = even_if m (suffix t i) (e - i) (λ k h. clear k (omega arith)) in
      let a = ev (d + q) (d + p) (omega arith) (omega arith) in
      let eq : i + (d + q) ≡ i + d + q = omega arith in
      let ep : i + (d + p) ≡ i + d + p = omega arith in
      record {
        there = λ x. ap t (sym eq) ∙ a.there x ∙ ap t ep;
        back = λ x. a.back (ap t eq ∙ x ∙ ap t (sym ep));
      }

  module _ (n : ℕ) (f : ℕ) (fe : f ≡ first_end m (suffix m d) n) (fits : e ≤ i + d + n) where
    -- the pattern's mismatch with itself lies in the part that agreed: it is the window's
    pub inherited : (limit : ℕ) → i + d + f < e → e ≤ i + d + limit → f ≡ first_end m (suffix t (i + d)) limit
    unfolding first_end
    inherited limit h l =
        let s : First (ends m (suffix m d)) n f = rw fe (first_spec (ends m (suffix m d)) n) in
        sym (first_is (record {
          within = omega arith;
          before = λ k kf. ends_alike m (suffix m d) (suffix t (i + d)) _ even_lower k (omega arith) ∙ s.before k kf;
          hit = λ _. ends_alike m (suffix m d) (suffix t (i + d)) _ even_lower f (omega arith) ∙ s.hit (omega arith);
        }))

    pub inherited_end : (limit g : ℕ) → EndIs m (suffix m d) n f g → i + d + f < e → e ≤ i + d + limit
        → EndIs m (suffix t (i + d)) limit f g
    inherited_end limit g s h l =
        ends_inside m (suffix t (i + d)) limit f g (inherited limit h l) (omega arith)
        (inside_earlier m (suffix m d) n f g s (omega arith)
        ∙ sym (earliest_alike m (suffix m d) (suffix t (i + d)) _ even_lower f (omega arith)))

    -- it lies behind: what agreed of the window that was, agrees of this one
    pub still_clear : e ≤ i + d + f → (k : ℕ) → i + d + k < e → ends m (suffix t (i + d)) k ≡ false
    unfolding first_end
    still_clear h k kh =
        let s : First (ends m (suffix m d)) n f = rw fe (first_spec (ends m (suffix m d)) n) in
        ends_alike m (suffix m d) (suffix t (i + d)) _ even_lower k (omega arith) ∙ s.before k (omega arith)
