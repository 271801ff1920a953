-- Laws of the tests: the cells that are looked at lie in the text, and a pair that is not alike in a window, or two
-- cells alike on one side only, say that a mismatch ends in it, since where none ends cells are alike on both sides
-- or on none.
-- Assumes nothing.
use Rattle.std.specs.Prelude.{◌≡◌, refl, Bool, true, false, not, List, ℕ, ◌+◌, ◌*◌, ◌/◌, ◌%◌, ◌≤◌, ◌<◌, eqb, length}
use Rattle.std.specs.Prelude.{get_or}
use Rattle.std.proofs.Common.{sym, ◌∙◌, ap, one-mul, zero-mul, add-mul, mul-le-mul_right, mod-lt, div-lt_iff_lt-mul}
use Rattle.std.proofs.Common.{arith}
use Rattle.std.proofs.Math.Nat.{zero-div, zero-mod}
use Rattle.std.proofs.Math.Bool.{beq}
use Rattle.std.proofs.lemmas.Bool.{not-true}
use Rattle.theory.specs.Test.{Tested, holds, fails}
use Rattle.theory.specs.Test.Laws.{eq_tested, lt_tested, is_true, says_false, true_false, tested_same, tested_iff}
use Rattle.theory.specs.First.{every}
use Rattle.theory.specs.First.Laws.{every_tested}
use Rattle.theory.specs.Match.{first_end}
use Rattle.shapes.specs.Shapes.{down}
use Rattle.shapes.specs.Shapes.Laws.{product_le}
use Rattle.cells.specs.Windows.{strip_at, offset_of}
use Rattle.cells.specs.Windows.Laws.{offset_at}
use Rattle.shapes.specs.declared.shapes.Shape.{Shape}
use Rattle.grid.specs.Strips.{strip_from}
use Rattle.prefixes.specs.Prefixes.{suffix}
use Rattle.reach.specs.Reach.Laws.{window_suffix}
use Rattle.alike.specs.Pairs.{PairsInside, alike_at, clear_even, no_pair}
use Rattle.alike.specs.declared.pairs.Pair.{Pair}
use Rattle.sieve.specs.Sieve.{Differs, StripAsked, PairsAsked, SpoilerOf, no_spoiler}
use Rattle.sieve.specs.declared.spoilers.Spoiler.{Spoiler}

module _ (text pattern : List ℕ) (s : Shape) (left top : ℕ) (asked : StripAsked text pattern s left)
    (inside : top < down s) where
  -- the pattern and the window by position
  abbrev m : ℕ → ℕ
  m = λ k. get_or pattern k 0

  abbrev w : ℕ → ℕ
  w = suffix (strip_at text s.columns left s.width) (top * s.width)

  -- a position of the window lies in the text
  cell_in : (p : ℕ) → p < length pattern → top * s.columns + left + offset_of s.columns s.width p < length text
  cell_in p h =
      let v = asked.shape in
      let some : 0 < s.width = omega arith in
      let row : p / s.width < s.height = (div-lt_iff_lt-mul some).1 (omega (arith, asked.size)) in
      let column : p % s.width < s.width = mod-lt p some in
      let b = asked.beside in
      omega (
        arith,
        inside,
        add-mul top (p / s.width) s.columns,
        add-mul (top + p / s.width) 1 s.columns,
        one-mul s.columns,
        mul-le-mul_right s.columns (wider row),
        v.cells_is,
      )
    where
      wider : p / s.width < s.height → top + p / s.width + 1 ≤ s.rows
      wider l = let v = asked.shape in omega (arith, inside)

  -- and the window's symbol stands there
  cell_at : (p : ℕ) → get_or text (top * s.columns + left + offset_of s.columns s.width p) 0 ≡ w p
  cell_at p =
      let v = asked.shape in
      offset_at text s.columns top left s.width p
      ∙ ap (λ (f : ℕ → ℕ). f p)
      (sym (window_suffix text (strip_from s.rows s.columns s.width left) top (omega arith)))

  cells_small : length text ≤ 65025
  cells_small =
      let v = asked.shape in
      omega (arith, product_le s.rows s.columns 255 255 (omega arith) (omega arith), v.cells_is)

  -- a mismatch ends in the window, unless it is absurd that none does
  ends_unless : (length pattern ≤ first_end m w (length pattern) → ⊥) → Differs text pattern s left top
  ends_unless none = go (lt_tested (first_end m w (length pattern)) (length pattern))
    where
      go : {b : Bool} → Tested (first_end m w (length pattern) < length pattern) b
          → first_end m w (length pattern) < length pattern
      go (holds h) = h
      go (fails h) = absurd (none (omega arith))

  -- ---- two cells that spoiled a window

  module _ (x : Spoiler) (is : SpoilerOf pattern s.columns s.width x) where
    pub spoiler_earlier_in : top * s.columns + left + x.cells.earlier < length text
    spoiler_earlier_in = rw is.earlier_is (cell_in is.p is.p_in)

    pub spoiler_later_in : top * s.columns + left + x.cells.later < length text
    spoiler_later_in = rw is.later_is (cell_in is.q is.q_in)

    -- alike on one side only
    pub spoiler_differs : (a b : ℕ) → a ≡ get_or text (top * s.columns + left + x.cells.earlier) 0
        → b ≡ get_or text (top * s.columns + left + x.cells.later) 0 → not (beq (eqb a b) x.alike) ≡ true
        → Differs text pattern s left top
    spoiler_differs a b ea eb apart =
        ends_unless (λ none. true_false (rw (same none) (itself x.alike)) (not-true _ apart))
      where
        at_earlier : w is.p ≡ a
        at_earlier = sym (cell_at is.p) ∙ rw (← is.earlier_is) (sym ea)

        at_later : w is.q ≡ b
        at_later = sym (cell_at is.q) ∙ rw (← is.later_is) (sym eb)

        itself : (b : Bool) → beq b b ≡ true
        itself true = refl
        itself false = refl

        same : length pattern ≤ first_end m w (length pattern) → eqb a b ≡ x.alike
        same none =
            let v = clear_even m w (length pattern) none is.p is.q is.p_in is.q_in in
            rw (← at_earlier, ← at_later)
            (tested_same (eq_tested (w is.p) (w is.q)) (tested_iff v.there v.back (eq_tested (m is.p) (m is.q)))
            ∙ sym is.alike_is)

-- ---- pairs

module _ (text pattern : List ℕ) (pairs : List Pair) (s : Shape) (left top : ℕ)
    (asked : PairsAsked text pattern pairs s left) (inside : top < down s) where
  pub pairs_inside : PairsInside (length text) (top * s.columns + left) pairs
  pairs_inside =
      record {
        long = asked.alike.long;
        small = cells_small text pattern s left top asked.strip inside;
        earlier_in = λ i h. let a = asked.alike.each i h in rw a.x_is (here a.p a.p_in);
        later_in = λ i h. let a = asked.alike.each i h in rw a.y_is (here a.q a.q_in);
      }
    where
      here : (p : ℕ) → p < length pattern → top * s.columns + left + offset_of s.columns s.width p < length text
      here = cell_in text pattern s left top asked.strip inside

  -- a pair whose cells are not alike in the window
  pub pairs_differ : (from : ℕ) → from ≤ 4
      → every (λ i. alike_at text (top * s.columns + left) pairs (from + i)) 4 ≡ false
      → Differs text pattern s left top
  pairs_differ from few e =
      ends_unless text pattern s left top asked.strip inside
      (λ none. says_false (every_tested _ 4 (λ i. eq_tested _ _)) e (λ i l. same none (from + i) (omega arith)))
    where
      here : (p : ℕ) → get_or text (top * s.columns + left + offset_of s.columns s.width p) 0
          ≡ suffix (strip_at text s.columns left s.width) (top * s.width) p
      here = cell_at text pattern s left top asked.strip inside

      -- where no mismatch ends all pairs are alike
      same : (length pattern
          ≤ first_end (λ k. get_or pattern k 0) (suffix (strip_at text s.columns left s.width) (top * s.width))
          (length pattern)) → (i : ℕ) → i < 8
          → get_or text (top * s.columns + left + (get_or pairs i no_pair).earlier) 0
          ≡ get_or text (top * s.columns + left + (get_or pairs i no_pair).later) 0
      same none i h =
          let a = asked.alike.each i h in
          rw (a.x_is, a.y_is, here a.p, here a.q)
          ((clear_even _ _ (length pattern) none a.p a.q a.p_in a.q_in).there a.alike)

-- ---- what is kept

module _ (pattern : List ℕ) (columns width : ℕ) where
  -- the corner with itself
  pub spoiler_none : 0 < length pattern → 0 < width → SpoilerOf pattern columns width no_spoiler
  spoiler_none some broad =
      record {
        p = 0;
        q = 0;
        p_in = some;
        q_in = some;
        earlier_is = offset_zero;
        later_is = offset_zero;
        alike_is = sym (is_true (eq_tested (get_or pattern 0 0) (get_or pattern 0 0)) refl);
      }
    where
      offset_zero : 0 ≡ offset_of columns width 0
      offset_zero = rw (zero-div width, zero-mod width, zero-mul)
