-- Document 004's flag is the flag: with equal counts and links that agree the pattern matches, by Observations 1 and 3
-- (`flag_right`); and a flag is 1 exactly if the pattern matches.
-- Assumes nothing.
use Rattle.std.specs.Prelude.{◌≡◌, refl, Bool, true, false, List, ◌↔◌, ◌⊎◌, ℕ, ◌+◌, ◌-◌, ◌*◌, ◌≤◌, ◌<◌, eqb}
use Rattle.std.specs.Prelude.{length, drop, get_or}
use Rattle.std.proofs.Common.{sym, ◌∙◌, ap, subst, inl, inr, add-mul, mul-le-mul_right, arith}
use Rattle.std.proofs.Common.{length-append, length-drop, ne_eqb}
use Rattle.std.proofs.Math.ListN.{get_or-append}
use Rattle.theory.specs.Test.{pick, both, Tested, holds, fails}
use Rattle.theory.specs.Test.Laws.{true_false, tested_same, tested_iff, eq_tested, lt_tested, both_tested}
use Rattle.theory.specs.First.Laws.{every_tested}
use Rattle.theory.specs.Table.{table}
use Rattle.theory.specs.Table.Laws.{length-table, get_or-table}
use Rattle.theory.specs.Match.{Matches, Answer, matched, mismatched, is_match, answer_of}
use Rattle.theory.specs.Match.Answers.{match_iff}
use Rattle.refusals.specs.Said.{over_front}
use Rattle.shapes.specs.Questions.{Question, across_of, windows_of}
use Rattle.shapes.specs.Shapes.Laws.{product_le}
use Rattle.cells.specs.Windows.{window_at}
use Rattle.cells.specs.Windows.Laws.{corner_row_lem, corner_column_lem}
use Rattle.occurrences.specs.Distinct.{distinct}
use Rattle.grid.specs.Strips.{link}
use Rattle.shapes.specs.Shapes.{ShapeOf}
use Rattle.shapes.specs.declared.shapes.Shape.{Shape}
use Rattle.matching.specs.Compare.{cell_of_pattern}
use Rattle.matching.specs.Questions.{answer_at}
use Rattle.flags.specs.Observations.{flag_match}
use Rattle.flags.specs.Flags.{window_flag, flags_truth, link_agrees, links_agree, flag_by}
use Rattle.flags.specs.Flags.{Work, RoomFor, rooms_of, work_after}

-- ---- a strip

-- the rows of a window are rows of the strip
pub strip_part : (top height rows width : ℕ) → top + height ≤ rows → top * width + height * width ≤ rows * width
strip_part top height rows width h = omega (arith, add-mul top height width, mul-le-mul_right width h)

-- a strip has few positions
pub strip_small : (s : Shape) (cells : ℕ) → ShapeOf s cells → s.rows * s.width ≤ 255 * 255
strip_small s cells v = product_le s.rows s.width 255 255 (omega arith) (omega arith)

-- a pattern has at least one cell, and few
pub cells_few : (s : Shape) (cells n : ℕ) → ShapeOf s cells → n ≡ s.height * s.width → n ≤ 65025
cells_few s cells n v e = omega (arith, e, product_le s.height s.width 255 255 (omega arith) (omega arith))

-- ---- links

abbrev AgreesAt : (ℕ → ℕ) → ℕ → ℕ → Type 0
AgreesAt m p d = 0 < d → d ≤ p → m (p - d) ≡ m p

agrees_tested : (m : ℕ → ℕ) (p d : ℕ) → Tested (AgreesAt m p d) (link_agrees m p d)
agrees_tested m p d = go (lt_tested p d) (eq_tested (m (p - d)) (m p))
  where
    same : {a : Bool} → Tested (d ≡ 0) a → d ≤ p → AgreesAt m p d → m (p - d) ≡ m p
    same (holds e) h f = ap m (omega arith)
    same (fails e) h f = f (omega arith) h

    go : {a b : Bool} → Tested (p < d) a → Tested (m (p - d) ≡ m p) b
        → Tested (0 < d → d ≤ p → m (p - d) ≡ m p) (pick a true b)
    go (holds h) b = holds (λ _ k. absurd (omega arith))
    go (fails h) (holds e) = holds (λ _ _. e)
    go (fails h) (fails n) = fails (λ f. n (same (eq_tested d 0) (omega arith) f))

pub links_agree_tested : (m l : ℕ → ℕ) (n : ℕ)
    → Tested ((p : ℕ) → p < n → 0 < l p → l p ≤ p → m (p - l p) ≡ m p) (links_agree m l n)
unfolding links_agree
links_agree_tested m l n =
    every_tested {Q = λ p. AgreesAt m p (l p)} (λ p. link_agrees m p (l p)) n (λ p. agrees_tested m p (l p))

-- ---- the flag

module _ (m : ℕ → ℕ) (symbols count : ℕ) (l : ℕ → ℕ) (n : ℕ) where
  pub flag_unequal : (count ≡ symbols → ⊥) → 0 ≡ flag_by m symbols count l n
  flag_unequal h = rw (ne_eqb count symbols h)

pub match_tested : (m w : ℕ → ℕ) (n : ℕ) → Tested (Matches m w n) (is_match (answer_of m w n))
match_tested m w n = go (answer_of m w n) (match_iff m w n)
  where
    go : (a : Answer) → (a ≡ matched) ↔ Matches m w n → Tested (Matches m w n) (is_match a)
    go matched i = holds (i.0 refl)
    go (mismatched s q p) i = fails (λ f. differs (i.1 f))
      where
        differs : mismatched s q p ≡ matched → ⊥
        differs e = true_false {b = true} refl (ap is_match (sym e))

-- document 004's flag is the flag: where the count is right the links have to be the strip's, elsewhere they are not
-- looked at
pub flag_right : (m w s : ℕ → ℕ) (base n symbols count : ℕ) (l : ℕ → ℕ) → ((p : ℕ) → p < n → w p ≡ s (base + p))
    → symbols ≡ distinct (table m n) → count ≡ distinct (table w n)
    → (count ≡ symbols → (p : ℕ) → p < n → l p ≡ link s (base + p))
    → flag_by m symbols count l n ≡ pick (is_match (answer_of m w n)) 1 0
flag_right m w s base n symbols count l is a b links =
    ap (λ (t : Bool). pick t 1 0) (tested_same known (match_tested m w n))
  where
    there : (count ≡ symbols) × ((p : ℕ) → p < n → 0 < l p → l p ≤ p → m (p - l p) ≡ m p) → Matches m w n
    there x = (flag_match s base m w n is).0 (
      (λ p h pos inside.
          let e = links x.0 p h in
          subst (λ (d : ℕ). m (p - d) ≡ m p) e (x.1 p h (omega arith) (omega arith))),
      sym a ∙ sym x.0 ∙ b,
    )

    back : Matches m w n → (count ≡ symbols) × ((p : ℕ) → p < n → 0 < l p → l p ≤ p → m (p - l p) ≡ m p)
    back f =
        let r = (flag_match s base m w n is).1 f in
        let e : count ≡ symbols = b ∙ sym r.1 ∙ sym a in (
          e,
          (λ p h pos inside.
              let d = links e p h in
              subst (λ (d : ℕ). m (p - d) ≡ m p) (sym d) (r.0 p h (omega arith) (omega arith))),
        )

    known : Tested (Matches m w n) (both (eqb count symbols) (links_agree m l n))
    known = tested_iff there back (both_tested (eq_tested count symbols) (links_agree_tested m l n))

-- a flag is 1 exactly if the pattern matches
pub flag_one : (q : Question) (row column : ℕ) → column < across_of q
    → (window_flag q (row * across_of q + column) ≡ 1)
    ↔ Matches (cell_of_pattern q.pattern.cells)
    (window_at q.text.cells q.text.columns row column q.pattern.columns)
    (q.pattern.rows * q.pattern.columns)
unfolding window_flag
flag_one q row column h =
    rw (corner_row_lem (across_of q) row column h, corner_column_lem (across_of q) row column h)
    (one (match_tested (cell_of_pattern q.pattern.cells)
    (window_at q.text.cells q.text.columns row column q.pattern.columns)
    (q.pattern.rows * q.pattern.columns)))
  where
    one : {P : Type 0} {b : Bool} → Tested P b → (◌≡◌ {A = ℕ} (pick b 1 0) 1) ↔ P
    one (holds p) = ((λ _. p), (λ _. refl))
    one (fails n) = ((λ e. absurd (omega arith)), (λ p. absurd (n p)))

-- a flag is 1 or 0
pub flag_is_bit : (q : Question) (k : ℕ) → (window_flag q k ≡ 1) ⊎ (window_flag q k ≡ 0)
unfolding window_flag
flag_is_bit q k = go (is_match (answer_at q k))
  where
    go : (b : Bool) → (◌≡◌ {A = ℕ} (pick b 1 0) 1) ⊎ (◌≡◌ {A = ℕ} (pick b 1 0) 0)
    go true = inl refl
    go false = inr refl

-- flags are the truth exactly if each window's entry is its flag
pub flags_true_tested : (q : Question) (flags : List ℕ)
    → Tested ((k : ℕ) → k < windows_of q → get_or flags k 0 ≡ window_flag q k) (flags_truth q flags)
unfolding flags_truth
flags_true_tested q flags =
    every_tested {Q = λ k. get_or flags k 0 ≡ window_flag q k} (λ k. eqb (get_or flags k 0) (window_flag q k))
    (windows_of q)
    (λ k. eq_tested (get_or flags k 0) (window_flag q k))

-- ---- the flags that the first step leaves

module _ (q : Question) (w after : Work) (room : RoomFor q (rooms_of w)) (is : after ≡ work_after q w) where
  flags_are : after.flags ≡ over_front (table (window_flag q) (windows_of q)) w.flags
  unfolding work_after
  flags_are = ap (λ (v : Work). v.flags) is

  -- are as many as before
  pub flags_after_long : length after.flags ≡ length w.flags
  flags_after_long =
      ap length flags_are
      ∙ length-append (table (window_flag q) (windows_of q))
      (drop (length (table (window_flag q) (windows_of q))) w.flags)
      ∙ omega (
        arith,
        length-table (window_flag q) (windows_of q),
        length-drop (length (table (window_flag q) (windows_of q))) w.flags,
        room.flags_room,
      )

  -- and each window's is the truth
  pub flags_after_true : (k : ℕ) → k < windows_of q → get_or after.flags k 0 ≡ window_flag q k
  flags_after_true k h =
      ap (λ (l : List ℕ). get_or l k 0) flags_are
      ∙ get_or-append (table (window_flag q) (windows_of q)) _ 0 k
      (omega (arith, length-table (window_flag q) (windows_of q)))
      ∙ get_or-table (window_flag q) (windows_of q) k 0 h
