-- Laws of the first end and its earlier position: each of its two cases, the answer from the two positions, and that a
-- sequence has no mismatch with itself.
-- Assumes nothing.
use Rattle.std.specs.Prelude.{◌≡◌, Bool, false, ℕ, ◌<◌, ◌≤◌, eqb, ltb}
use Rattle.std.proofs.Math.Path.{refl, sym, ap}
use Rattle.std.proofs.Common.{◌∙◌, arith, lt-ltb, le-ltb}
use Rattle.theory.specs.Test.{pick, Tested, holds, fails}
use Rattle.theory.specs.Test.Laws.{pick_true, pick_false, lt_tested}
use Rattle.theory.specs.First.Laws.{first_is}
use Rattle.theory.specs.Match.{earliest, ends, first_end, matched, mismatched, mismatch_ending, answer_of}
use Rattle.theory.specs.Match.Even.{ends_not}
use Rattle.prefixes.specs.Prefixes.{EndIs, first_earlier}

module _ (m w : ℕ → ℕ) (n end earlier : ℕ) where
  pub ends_inside : end ≡ first_end m w n → end < n → earlier ≡ earliest m w end → EndIs m w n end earlier
  unfolding first_earlier
  ends_inside e h d =
      record { end_is = e; earlier_is = d ∙ ap (earliest m w) e ∙ sym (pick_true _ _ (lt-ltb _ _ (rw e at h))) }

  pub ends_nowhere : end ≡ first_end m w n → n ≤ end → earlier ≡ 0 → EndIs m w n end earlier
  unfolding first_earlier
  ends_nowhere e h d = record { end_is = e; earlier_is = d ∙ sym (pick_false _ _ (le-ltb _ _ (rw e at h))) }

  pub inside_earlier : EndIs m w n end earlier → end < n → earlier ≡ earliest m w end
  unfolding first_earlier
  inside_earlier s h =
      let e = s.end_is in s.earlier_is ∙ pick_true _ _ (lt-ltb _ _ (rw e at h)) ∙ ap (earliest m w) (sym e)

  -- the answer for the window, from the two positions
  pub answer_of_lem : EndIs m w n end earlier
      → answer_of m w n ≡ pick (ltb end n) (mismatched (eqb (m earlier) (m end)) earlier end) matched
  unfolding answer_of mismatch_ending
  answer_of_lem s =
      let e = s.end_is in
      rw (← e) (go (lt_tested end n))
    where
      go : {b : Bool} → Tested (end < n) b
          → pick b (mismatched (eqb (m (earliest m w end)) (m end)) (earliest m w end) end) matched
          ≡ pick b (mismatched (eqb (m earlier) (m end)) earlier end) matched
      go (holds h) = rw (inside_earlier s h)
      go (fails h) = refl

-- a sequence has no mismatch with itself
ends_self : (m : ℕ → ℕ) (p : ℕ) → ends m m p ≡ false
ends_self m p = ends_not m m p (λ q h. record { there = λ e. e; back = λ e. e })

pub self_end : (m : ℕ → ℕ) (n : ℕ) → n ≡ first_end m m n
unfolding first_end
self_end m n =
    sym (first_is (record { within = omega arith; before = λ k _. ends_self m k; hit = λ h. absurd (over h) }))
  where
    over : n < n → ⊥
    over h = omega arith
