-- The two cells: the mismatch that ends at p, from first places of the pattern. Why it holds: a position before both
-- first places has neither the pattern's symbol of p nor, since the two are even there, the window's, so it is unlike p
-- on both sides; and at the lesser of the two it is alike on one side only.
-- Assumes nothing.
use Rattle.std.specs.Prelude.{◌≡◌, Bool, true, false, ℕ, ◌<◌, ltb}
use Rattle.std.proofs.Common.{sym, ◌∙◌, ap, ⊎_elim, arith}
use Rattle.std.proofs.lemmas.Bool.{not-true}
use Rattle.theory.specs.Test.{pick, Tested, holds, fails}
use Rattle.theory.specs.Test.Laws.{eq_tested, lt_tested, true_false, true_or_false, is_true, tested_same}
use Rattle.theory.specs.First.{First, first}
use Rattle.theory.specs.First.Laws.{first_is}
use Rattle.theory.specs.Match.{mismatch_at, earliest, ends, mismatched, mismatch_ending}
use Rattle.theory.specs.Match.Even.{Alike, even_if, mismatch_false, no_mismatch}
use Rattle.prefixes.specs.Prefixes.{FirstAt}
use Rattle.prefixes.specs.Prefixes.Step.{near_decides, new_decides}

mismatch_if : (m w : ℕ → ℕ) (q p : ℕ) → (Alike (m q) (m p) (w q) (w p) → ⊥) → mismatch_at m w p q ≡ true
mismatch_if m w q p never =
    ⊎_elim (λ t. t) (λ f. absurd (never (mismatch_false m w q p f))) (true_or_false (mismatch_at m w p q))

-- the mismatch that ends at p, from its earlier position and its side
ending_is : (m w : ℕ → ℕ) (p e : ℕ) (s : Bool) → First (mismatch_at m w p) p e → Tested (m e ≡ m p) s
    → mismatch_ending m w p ≡ mismatched s e p
unfolding mismatch_ending earliest
ending_is m w p e s f t =
    let same : first (mismatch_at m w p) p ≡ e = first_is f in
    rw same (ap (λ (b : Bool). mismatched b e p) (tested_same (eq_tested (m e) (m p)) t))

-- an answer's earlier position
pub ending_earlier : (m w : ℕ → ℕ) (p e : ℕ) (s : Bool) → mismatch_ending m w p ≡ mismatched s e p → earliest m w p ≡ e
unfolding mismatch_ending
ending_earlier m w p e s h = cc

module _ (m w : ℕ → ℕ) (p : ℕ) (clear : (k : ℕ) → k < p → ends m w k ≡ false) where
  -- the mismatch that ends at p, where the window's symbol has an earlier position: of the two symbols' first places
  -- the earlier one
  pub mismatch_near : (q a b : ℕ) → ends m w p ≡ true → q < p → w q ≡ w p → FirstAt m p a → FirstAt m q b
      → mismatch_ending m w p ≡ mismatched (ltb a b) (pick (ltb a b) a b) p
  mismatch_near q a b t h e fa fb = go (lt_tested a b)
    where
      differ : m q ≡ m p → ⊥
      differ d = true_false t (not-true _ (sym (near_decides m w p clear q h e) ∙ is_true (eq_tested (m q) (m p)) d))

      -- an earlier position that has the window's symbol has q's in the pattern, and the other way round
      to_q : (k : ℕ) → k < p → w k ≡ w p → m k ≡ m q
      to_q k hk d = (even_if m w p clear k q hk h).back (d ∙ sym e)

      of_q : (k : ℕ) → k < p → m k ≡ m q → w k ≡ w p
      of_q k hk d = (even_if m w p clear k q hk h).there d ∙ e

      early : (k : ℕ) → k < a → k < b → mismatch_at m w p k ≡ false
      early k ka kb =
          let kp : k < p = omega (arith, fa.within) in
          let no_m : m k ≡ m p → ⊥ = λ d. omega (arith, fa.least k (omega arith) d) in
          let no_q : m k ≡ m q → ⊥ = λ d. omega (arith, fb.least k (omega (arith, fb.within)) d) in
          no_mismatch m w k p (record { there = λ d. absurd (no_m d); back = λ d. absurd (no_q (to_q k kp d)) })

      go : {s : Bool} → Tested (a < b) s → mismatch_ending m w p ≡ mismatched s (pick s a b) p
      go (holds l) =
          let ap_lt : a < p = omega (arith, fb.within) in
          ending_is m w p a true
          (record {
            within = omega arith;
            before = λ k ka. early k ka (omega arith);
            hit = λ _. mismatch_if m w a p (λ x. differ (sym (to_q a ap_lt (x.there fa.same)) ∙ fa.same));
          })
          (holds fa.same)
      go (fails g) =
          let bp : b < p = omega (arith, fb.within) in
          ending_is m w p b false
          (record {
            within = omega arith;
            before = λ k kb. early k (omega arith) kb;
            hit = λ _. mismatch_if m w b p (λ x. differ (sym fb.same ∙ x.back (of_q b bp fb.same)));
          })
          (fails (λ d. differ (sym fb.same ∙ d)))

  -- and where it has none: alike in the pattern
  pub mismatch_new : (a : ℕ) → ends m w p ≡ true → ((k : ℕ) → k < p → w k ≡ w p → ⊥) → FirstAt m p a
      → mismatch_ending m w p ≡ mismatched true a p
  mismatch_new a t none fa =
      let old : a ≡ p → ⊥ = λ d. true_false t
      (not-true _ (sym (new_decides m w p clear a none fa) ∙ is_true (eq_tested a p) d)) in
      let h : a < p = omega (arith, fa.within) in
      ending_is m w p a true
      (record {
        within = fa.within;
        before = λ k ka.
            let no_m : m k ≡ m p → ⊥ = λ d. omega (arith, fa.least k (omega arith) d) in
            no_mismatch m w k p (record { there = λ d. absurd (no_m d); back = λ d. absurd (none k (omega arith) d) });
        hit = λ _. mismatch_if m w a p (λ x. none a h (x.there fa.same));
      })
      (holds fa.same)
