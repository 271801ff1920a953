-- From the first end to the answer: the verdict where a mismatch ends and where none does, and the whole answer where
-- nothing is refused.
-- Assumes nothing.
use Rattle.std.specs.Prelude.{Ok, ◌≡◌, refl, ℕ, ◌≤◌, ◌<◌, eqb}
use Rattle.std.proofs.Math.Path.{sym, ap, ap₂}
use Rattle.std.proofs.Common.{◌∙◌, arith, lt-ltb, le-ltb}
use mathlib.Core.List.{List, []}
use Rattle.theory.specs.Test.Laws.{pick_true, pick_false}
use Rattle.theory.specs.Match.{Answer, first_end, matched, mismatched, mismatch_ending, answer_of, column}
use Rattle.theory.specs.Match.Even.{earliest_le}
use Rattle.prefixes.specs.Prefixes.{EndIs}
use Rattle.prefixes.specs.Prefixes.Ends.{inside_earlier, answer_of_lem}
use Rattle.refusals.specs.Said.{accepts}
use Rattle.shapes.specs.Questions.{Question}
use Rattle.matching.specs.Compare.{pattern_of, window_in, positions, answer_in, verdict_in, verdict_of, verdict_said}
use Rattle.matching.specs.Compare.{verdict_bijection, bijection_of, place_said, window_said, told, one_window_of}
use Rattle.matching.specs.Compare.{verdict_between, empty_images}
use Rattle.mapping.specs.Bijections.{empty_bijection}
use Rattle.mapping.specs.declared.bijections.Bijection.{Bijection}
use Rattle.matching.specs.declared.compare.Verdict.{Verdict}
use Rattle.matching.specs.declared.compare.Verdict.TheVariants.{Match}

module _ (m w : ℕ → ℕ) where
  -- the answer from where a mismatch ends first
  pub answer_mismatch : (p n : ℕ) → p ≡ first_end m w n → p < n → answer_of m w n ≡ mismatch_ending m w p
  unfolding answer_of
  answer_mismatch p n e l = pick_true _ _ (lt-ltb (first_end m w n) n (rw (← e) l)) ∙ ap (mismatch_ending m w) (sym e)

  pub answer_match : (p n : ℕ) → p ≡ first_end m w n → n ≤ p → answer_of m w n ≡ matched
  unfolding answer_of
  answer_match p n e l = pick_false _ _ (le-ltb (first_end m w n) n (rw (← e) l))

-- the empty bijection's columns come without images
pub empty_columns : (b : Bijection) → b ≡ empty_bijection → (b.forward ≡ empty_images) × (b.backward ≡ empty_images)
unfolding empty_bijection
empty_columns b e = (ap (λ (d : Bijection). d.forward) e, ap (λ (d : Bijection). d.backward) e)

module _ (m w : ℕ → ℕ) (n end earlier : ℕ) (found : EndIs m w n end earlier) where
  -- where a mismatch ends
  module _ (h : end < n) where
    pub earlier_inside : earlier < n
    earlier_inside = omega (arith, inside_earlier m w n end earlier found h, earliest_le m w end)

    stopped : answer_of m w n ≡ mismatched (eqb (m earlier) (m end)) earlier end
    stopped = answer_of_lem m w n end earlier found ∙ pick_true _ _ (lt-ltb end n h)

    pub stopped_verdict : verdict_between m earlier end ≡ verdict_of m w n (answer_of m w n)
    stopped_verdict = ap (verdict_of m w n) (sym stopped)

  -- where none does
  module _ (h : n ≤ end) where
    pub end_past : n ≤ first_end m w n
    end_past = omega (arith, found.end_is)

    passed : answer_of m w n ≡ matched
    passed = answer_match m w end n found.end_is h

    pub passed_verdict : (f g : List ℕ) → f ≡ column m w n → g ≡ column w m n
        → Match (record { forward = f; backward = g }) ≡ verdict_of m w n (answer_of m w n)
    unfolding bijection_of
    passed_verdict f g df dg =
        ap₂ (λ (x y : List ℕ). Match (record { forward = x; backward = y })) df dg ∙ sym (ap (verdict_of m w n) passed)

-- ---- the whole answer

-- a verdict's bijection is the answer's
pub verdict_bijection_lem : (m w : ℕ → ℕ) (n : ℕ) (a : Answer)
    → verdict_bijection (verdict_of m w n a) ≡ bijection_of m w n a
unfolding bijection_of
verdict_bijection_lem m w n matched = refl
verdict_bijection_lem m w n (mismatched alike earlier later) = refl

module _ (q : Question) (row column : ℕ) where
  pub told_answered : (v : Verdict) → place_said q row column ≡ accepts [] → v ≡ verdict_in q row column
      → told (Ok v) ≡ one_window_of q row column
  unfolding one_window_of window_said
  told_answered v z e =
      rw (z, e)
      (ap (λ (b : Bijection). record { said = verdict_said (verdict_in q row column); bijection = b })
      (verdict_bijection_lem (pattern_of q) (window_in q row column) (positions q) (answer_in q row column)))
