-- What the one-window answer says, for a reader who believes nothing but the definition of a match: each theorem needs
-- only what the operation ensures (`one_window_of`) and that the question was not refused; what it says of the columns
-- needs besides that text and pattern are bytes, which they are wherever code holds them.
-- Assumes nothing.
use Rattle.std.specs.Prelude.{◌≡◌, refl, Bool, true, false, [], ◌∷◌, ◌↔◌, ℕ, ◌<◌, length, Result, Ok, Err}
use Rattle.std.proofs.Common.{sym, ◌∙◌, subst, arith}
use Rattle.std.proofs.Math.Path.{ap}
use Rattle.std.proofs.Math.ListN.{get_or}
use Rattle.theory.specs.Test.{pick}
use Rattle.theory.specs.Match.{Matches, Mismatch, Answer, matched, mismatched, answer_of, image_of}
use Rattle.theory.specs.Match.Even.{even_carries, even_swap, maps_even, no_image}
use Rattle.theory.specs.Match.Answers.{LeastMismatch, match_iff, mismatch_iff, no_mismatch_iff}
use Rattle.theory.specs.Match.Images.{column_at, columns_agree}
use Rattle.theory.specs.Columns.{Agree}
use Rattle.theory.specs.Bytes.{Bytes}
use Rattle.refusals.specs.Refusals.{number_of, values_of}
use Rattle.refusals.specs.Said.{Said, accepts, refuses, said_values, refusal_said, new_by}
use Rattle.refusals.specs.Said.Laws.{not_accepted}
use Rattle.shapes.specs.Questions.{Question}
use Rattle.refusals.specs.declared.refusals.Refusal.{Refusal}
use Rattle.cells.specs.Windows.Laws.{window_at_lem}
use Rattle.mapping.specs.declared.bijections.Bijection.{Bijection}
use Rattle.mapping.specs.Bijections.{empty_bijection}
use Rattle.mapping.specs.Bijections.Laws.{empty_agrees}
use Rattle.matching.specs.Compare.{pattern_of, window_in, positions, answer_in, bijection_at, verdict_said, verdict_of}
use Rattle.matching.specs.Compare.{verdict_bijection, bijection_of, place_said, window_said, Told, told, one_window_of}
use Rattle.answering.specs.Accepted.{Askable, place_passes}
use Rattle.matching.specs.declared.compare.Verdict.{Verdict}
use Rattle.matching.specs.declared.compare.Verdict.TheVariants.{Match, Mismatch as MismatchVerdict}

-- the values of an answered verdict tell the verdict
three_four : (s t : Bool) → ◌≡◌ {A = ℕ} (pick s 3 4) (pick t 3 4) → s ≡ t
three_four true true e = refl
three_four true false e = absurd (omega arith)
three_four false true e = absurd (omega arith)
three_four false false e = refl

refused_other : (m w : ℕ → ℕ) (n : ℕ) (why : Refusal) (a : Answer)
    → refusal_said why ≡ verdict_said (verdict_of m w n a) → ⊥
refused_other m w n why matched e = not_accepted (number_of why) (values_of why) [] e
refused_other m w n why (mismatched s q p) e =
    not_accepted (number_of why) (values_of why) (pick s 3 4 ∷ q ∷ p ∷ []) e

verdict_is : (m w : ℕ → ℕ) (n : ℕ) (v : Verdict) (a : Answer) → verdict_said v ≡ verdict_said (verdict_of m w n a)
    → verdict_bijection v ≡ bijection_of m w n a → v ≡ verdict_of m w n a
verdict_is m w n (Match b) matched e d = ap Match d
verdict_is m w n (Match b) (mismatched s q p) e d =
    absurd (let l : ◌≡◌ {A = ℕ} 0 3 = ap (λ (x : Said). length (said_values x)) e in omega arith)
verdict_is m w n (MismatchVerdict s q p) matched e d =
    absurd (let l : ◌≡◌ {A = ℕ} 3 0 = ap (λ (x : Said). length (said_values x)) e in omega arith)
verdict_is m w n (MismatchVerdict s q p) (mismatched t i k) e d =
    let side : s ≡ t = three_four s t (ap (λ (x : Said). get_or (said_values x) 0 0) e) in
    let first : q ≡ i = ap (λ (x : Said). get_or (said_values x) 1 0) e in
    let second : p ≡ k = ap (λ (x : Said). get_or (said_values x) 2 0) e in
    rw (side, first, second)

-- what is told of an answer tells the answer
told_is : (m w : ℕ → ℕ) (n : ℕ) (r : Result Verdict Refusal) (a : Answer)
    → told r ≡ record { said = verdict_said (verdict_of m w n a); bijection = bijection_of m w n a }
    → r ≡ Ok (verdict_of m w n a)
told_is m w n (Ok v) a e =
    ap Ok (verdict_is m w n v a (ap (λ (t : Told). t.said) e) (ap (λ (t : Told). t.bijection) e))
told_is m w n (Err why) a e = absurd (refused_other m w n why a (ap (λ (t : Told). t.said) e))

answered_agrees : (m w : ℕ → ℕ) (n : ℕ) → ((k : ℕ) → m k < 256) → ((k : ℕ) → w k < 256) → (a : Answer)
    → answer_of m w n ≡ a
    → Agree (bijection_of m w n a).forward (bijection_of m w n a).backward
unfolding bijection_of
answered_agrees m w n ms ws matched e =
    let f = (match_iff m w n).0 e in
    columns_agree m w n (maps_even m w n f.0 f.1) ms ws
answered_agrees m w n ms ws (mismatched s q p) e = empty_agrees

module _ (o : Question) (row column : ℕ) (r : Result Verdict Refusal) (answers : told r ≡ one_window_of o row column)
    (accepted : Askable o row column) where
  -- the pattern and the window by position
  abbrev pub m : ℕ → ℕ
  m = pattern_of o

  abbrev pub w : ℕ → ℕ
  w = window_in o row column

  abbrev pub n : ℕ
  n = positions o

  -- the answer is the verdict of the definition
  pub verdict_right : r ≡ Ok (verdict_of m w n (answer_of m w n))
  unfolding one_window_of window_said
  verdict_right = told_is m w n r (answer_of m w n) (answers ∙ rw (place_passes o row column accepted))

  -- and its bijection is that of the definition
  pub bijection_right : (told r).bijection ≡ bijection_of m w n (answer_of m w n)
  unfolding one_window_of
  bijection_right = ap (λ (t : Told). t.bijection) answers ∙ rw (place_passes o row column accepted)

  answered_by : (a : Answer) → answer_of m w n ≡ a → r ≡ Ok (verdict_of m w n a)
  answered_by a e = verdict_right ∙ ap (λ (x : Answer). Ok (verdict_of m w n x)) e

  answer_is_match : (b : Bijection) → r ≡ Ok (Match b) → answer_of m w n ≡ matched
  answer_is_match b e = go (answer_of m w n) (sym verdict_right ∙ e)
    where
      go : (a : Answer) → ◌≡◌ {A = Result Verdict Refusal} (Ok (verdict_of m w n a)) (Ok (Match b)) → a ≡ matched
      go matched d = refl
      go (mismatched s q p) d = absurd (let z : ◌≡◌ {A = ℕ} 0 1 = cc in omega arith)

  answer_is_mismatch : (s : Bool) (q p : ℕ) → r ≡ Ok (MismatchVerdict s q p) → answer_of m w n ≡ mismatched s q p
  answer_is_mismatch s q p e = go (answer_of m w n) (sym verdict_right ∙ e)
    where
      go : (a : Answer)
          → ◌≡◌ {A = Result Verdict Refusal} (Ok (verdict_of m w n a)) (Ok (MismatchVerdict s q p))
          → a ≡ mismatched s q p
      go matched d = absurd (let z : ◌≡◌ {A = ℕ} 0 1 = cc in omega arith)
      go (mismatched t i k) d = cc

  -- DEMAND 2, for one window: the answer is a match exactly where a one-to-one mapping of the pattern's symbols gives
  -- the window's symbol in every cell
  pub window_match_iff : ((b : Bijection) × (r ≡ Ok (Match b))) ↔ Matches m w n
  window_match_iff = (
    (λ e. (match_iff m w n).0 (answer_is_match e.0 e.1)),
    (λ x. (bijection_of m w n matched, answered_by matched ((match_iff m w n).1 x))),
  )

  -- and it is a mismatch exactly where that is the mismatch that ends first and then begins first
  pub window_mismatch_iff : (s : Bool) (q p : ℕ) → (r ≡ Ok (MismatchVerdict s q p)) ↔ LeastMismatch m w s n q p
  window_mismatch_iff s q p = (
    (λ e. (mismatch_iff m w n s q p).0 (answer_is_mismatch s q p e)),
    (λ l. answered_by (mismatched s q p) ((mismatch_iff m w n s q p).1 l)),
  )

  -- no mismatch in the window exactly where it matches
  pub window_clear_iff : ((s : Bool) (q p : ℕ) → p < n → Mismatch s m w q p → ⊥)
      ↔ ((b : Bijection) × (r ≡ Ok (Match b)))
  window_clear_iff = (
    (λ none. window_match_iff.1 ((no_mismatch_iff m w n).0 none)),
    (λ e. (no_mismatch_iff m w n).1 (window_match_iff.0 e)),
  )

  -- DEMAND 3, for one window: no match exactly where the answer is a mismatch
  pub window_refused_iff : (Matches m w n → ⊥) ↔ ((s : Bool) × (q : ℕ) × (p : ℕ) × (r ≡ Ok (MismatchVerdict s q p)))
  window_refused_iff = ((λ none. go (answer_of m w n) refl none), back)
    where
      go : (a : Answer) → answer_of m w n ≡ a → (Matches m w n → ⊥)
          → (s : Bool) × (q : ℕ) × (p : ℕ) × (r ≡ Ok (MismatchVerdict s q p))
      go matched e none = absurd (none ((match_iff m w n).0 e))
      go (mismatched s q p) e none = (s, q, p, answered_by (mismatched s q p) e)

      back : (s : Bool) × (q : ℕ) × (p : ℕ) × (r ≡ Ok (MismatchVerdict s q p)) → Matches m w n → ⊥
      back (s, q, p, e) x = let z : ◌≡◌ {A = ℕ} 0 1 = differ (window_match_iff.1 x) in omega arith
        where
          differ : (b : Bijection) × (r ≡ Ok (Match b)) → ◌≡◌ {A = ℕ} 0 1
          differ (b, d) = cc

  bijection_is : (b : Bijection) → r ≡ Ok (Match b) → b ≡ bijection_of m w n matched
  bijection_is b e =
      ap (λ (x : Result Verdict Refusal). (told x).bijection) (sym e) ∙ bijection_right
      ∙ ap (bijection_of m w n) (answer_is_match b e)

  forward_at : (b : Bijection) → r ≡ Ok (Match b) → (a : ℕ) → a < 256 → get_or b.forward a 0 ≡ image_of m w n a
  unfolding bijection_of
  forward_at b e a h = ap (λ d. get_or d.forward a 0) (bijection_is b e) ∙ column_at m w n a 0 h

  backward_at : (b : Bijection) → r ≡ Ok (Match b) → (c : ℕ) → c < 256 → get_or b.backward c 0 ≡ image_of w m n c
  unfolding bijection_of
  backward_at b e c h = ap (λ d. get_or d.backward c 0) (bijection_is b e) ∙ column_at w m n c 0 h

  -- what the bijection of a match is
  pub record PairsJust (b : Bijection) : Type 0 where
    -- every pattern symbol goes to the window's symbol in its cells
    pub carries : (p : ℕ) → p < n → get_or b.forward (m p) 0 ≡ w p
    -- different ones to different ones
    pub one_to_one : (p q : ℕ) → p < n → q < n
        → get_or b.forward (m p) 0 ≡ get_or b.forward (m q) 0 → m p ≡ m q
    -- and no other symbol has an image
    pub no_other : (a : ℕ) → a < 256 → ((p : ℕ) → p < n → m p ≡ a → ⊥) → get_or b.forward a 0 ≡ 256
    -- the backward column has the same pairs, and no others
    pub leads_back : (p : ℕ) → p < n → get_or b.backward (w p) 0 ≡ m p
    pub no_other_back : (c : ℕ) → c < 256 → ((p : ℕ) → p < n → w p ≡ c → ⊥) → get_or b.backward c 0 ≡ 256

  module _ (pattern_bytes : Bytes o.pattern.cells) (text_bytes : Bytes o.text.cells) where
    window_bytes : (k : ℕ) → w k < 256
    window_bytes k =
        rw (window_at_lem o.text.cells o.text.columns row column o.pattern.columns k) (text_bytes _)

    pub window_bijection_lem : (b : Bijection) → r ≡ Ok (Match b) → PairsJust b
    window_bijection_lem b e =
        let f = window_match_iff.0 (b, e) in
        let ev = maps_even m w n f.0 f.1 in
        let carry : (p : ℕ) → p < n → get_or b.forward (m p) 0 ≡ w p
        = λ p h. forward_at b e (m p) (pattern_bytes p) ∙ even_carries m w n ev p h in
        record {
          carries = carry;
          one_to_one = λ p q hp hq d. (ev p q hp hq).back (sym (carry p hp) ∙ d ∙ carry q hq);
          no_other = λ a h none. forward_at b e a h ∙ no_image m w n a none;
          leads_back = λ p h. backward_at b e (w p) (window_bytes p) ∙ even_carries w m n (even_swap m w n ev) p h;
          no_other_back = λ c h none. backward_at b e c h ∙ no_image w m n c none;
        }

-- whatever the answer, match, mismatch or refusal, its bijection's columns agree: inverting and composing it is
-- accepted
pub window_agrees : (o : Question) (row column : ℕ) (r : Result Verdict Refusal)
    → told r ≡ one_window_of o row column → Bytes o.pattern.cells → Bytes o.text.cells
    → Agree (told r).bijection.forward (told r).bijection.backward
unfolding one_window_of
window_agrees o row column r answers pattern_bytes text_bytes =
    subst (λ (b : Bijection). Agree b.forward b.backward) (sym (ap (λ (t : Told). t.bijection) answers))
    (beside (place_said o row column))
  where
    window_bytes : (k : ℕ) → window_in o row column k < 256
    window_bytes k =
        rw (window_at_lem o.text.cells o.text.columns row column o.pattern.columns k) (text_bytes _)

    beside : (a : Said) → Agree (new_by a (bijection_at o row column) empty_bijection).forward
        (new_by a (bijection_at o row column) empty_bijection).backward
    beside (accepts values) =
        answered_agrees (pattern_of o) (window_in o row column) (positions o) pattern_bytes window_bytes
        (answer_in o row column) refl
    beside (refuses number values) = empty_agrees
