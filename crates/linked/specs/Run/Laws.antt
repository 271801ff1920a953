-- Laws of a run: the test of a position tells whether a mismatch ends there; a comparison goes one position on, or
-- ends; the next window inherits its end, or is compared from where it is known to agree.
-- Assumes nothing.
use Rattle.std.specs.Prelude.{◌≡◌, Bool, true, false, List, ℕ, ◌+◌, ◌-◌, ◌*◌, ◌≤◌, ◌<◌, eqb, ltb, length, get_or, not}
use Rattle.std.proofs.Common.{sym, ◌∙◌, ap, add-mul, arith, eq-eqb, ne_eqb}
use Rattle.std.proofs.lemmas.Bool.{not-true, not-false}
use Rattle.theory.specs.Test.{pick, both, Tested, holds, fails}
use Rattle.theory.specs.Test.Laws.{eq_tested, lt_tested, le_tested}
use Rattle.theory.specs.First.Laws.{first_is}
use Rattle.theory.specs.Match.{ends, first_end}
use Rattle.grid.specs.Strips.{link}
use Rattle.grid.specs.Strips.Links.{link_back, link_zero}
use Rattle.prefixes.specs.Prefixes.{suffix}
use Rattle.prefixes.specs.Prefixes.Step.{near_decides, new_decides}
use Rattle.prefixes.specs.Prefixes.Inheritance.{inherited, still_clear}
use Rattle.prefixes.specs.State.{FirstPlaces}
use Rattle.prefixes.specs.State.Tables.{first_at}
use Rattle.rows.specs.declared.run.FirstEnd.{FirstEnd}
use Rattle.rows.specs.declared.run.Run.{Run}
use Rattle.linked.specs.declared.run.RunEnd.{RunEnd}
use Rattle.linked.specs.Run.{ClearTo, LinksFrom, linked_test, CompareAt, Compared, EndsBy, WindowAsked, end_at}
use Rattle.linked.specs.Run.{WindowEnds, flag_by_end, WindowFlagged}

-- ---- one position

module _ (pattern : List ℕ) (t : ℕ → ℕ) (i p : ℕ) (first : List ℕ) (d : ℕ) (inside : p < length pattern)
    (places : FirstPlaces (λ k. get_or pattern k 0) (length pattern) first) (is : d ≡ link t (i + p))
    (clear : (k : ℕ) → k < p → ends (λ k. get_or pattern k 0) (suffix t i) k ≡ false) where
  -- the window's symbol is new: the pattern's has to be
  by_first : ((k : ℕ) → k < p → t (i + k) ≡ t (i + p) → ⊥)
      → eqb (get_or first (get_or pattern p 0) 0) p ≡ not (ends (λ k. get_or pattern k 0) (suffix t i) p)
  by_first none =
      new_decides (λ k. get_or pattern k 0) (suffix t i) p clear (get_or first (get_or pattern p 0) 0) none
      (first_at (λ k. get_or pattern k 0) (length pattern) first places p inside)

  -- a link that leads out of the window: none in it has the symbol
  outside : p < d → (k : ℕ) → k < p → t (i + k) ≡ t (i + p) → ⊥
  outside h k kp e =
      let b = link_back t (i + p) (omega arith) in
      b.nearest (i + k) (omega (arith, b.within)) (omega arith) e

  nowhere : d ≡ 0 → (k : ℕ) → k < p → t (i + k) ≡ t (i + p) → ⊥
  nowhere z k kp e = link_zero t (i + p) (sym is ∙ z) (i + k) (omega arith) e

  -- a link inside it
  by_link : 0 < d → d ≤ p
      → eqb (get_or pattern (p - d) 0) (get_or pattern p 0) ≡ not (ends (λ k. get_or pattern k 0) (suffix t i) p)
  by_link pos h =
      let b = link_back t (i + p) (omega arith) in
      let place : i + (p - d) ≡ i + p - link t (i + p) = omega arith in
      near_decides (λ k. get_or pattern k 0) (suffix t i) p clear (p - d) (omega arith) (ap t place ∙ b.same)

  pub linked_tells : linked_test pattern first p d (get_or pattern p 0)
      ≡ not (ends (λ k. get_or pattern k 0) (suffix t i) p)
  unfolding linked_test
  linked_tells = go (lt_tested 0 d) (le_tested d p)
    where
      go : {a b : Bool} → Tested (0 < d) a → Tested (d ≤ p) b
          → pick (both a b) (eqb (get_or pattern (p - d) 0) (get_or pattern p 0))
          (eqb (get_or first (get_or pattern p 0) 0) p) ≡ not (ends (λ k. get_or pattern k 0) (suffix t i) p)
      go (holds pos) (holds h) = by_link pos h
      go (holds pos) (fails h) = by_first (outside (omega arith))
      go (fails z) b = by_first (nowhere (omega arith))

-- ---- one window, position after position

module _ (pattern first links : List ℕ) (start from : ℕ) (asked : CompareAt pattern first links start from) where
  module _ (p : ℕ) (inside : p < length pattern) (here : Compared pattern links start from p) (d a : ℕ)
      (ed : d ≡ get_or links (start + p) 0) (ea : a ≡ get_or pattern p 0) (r : Bool)
      (er : r ≡ linked_test pattern first p d a) where
    tells : (t : ℕ → ℕ) → LinksFrom t links start (length pattern) → ClearTo pattern t start (start + from)
        → r ≡ not (ends (λ k. get_or pattern k 0) (suffix t start) p)
    tells t l c =
        er
        ∙ ap (linked_test pattern first p d) ea
        ∙ linked_tells pattern t start p first d inside asked.places (ed ∙ l p inside)
        (λ k h. here.clear t l c k (omega arith))

    pub compared_more : r ≡ true → Compared pattern links start from (p + 1)
    compared_more e =
        record { within = omega arith; clear = λ t l c k h. go t l c k h (eq_tested k p) }
      where
        go : (t : ℕ → ℕ) → LinksFrom t links start (length pattern) → ClearTo pattern t start (start + from)
            → (k : ℕ) {b : Bool} → start + k < start + (p + 1) → Tested (k ≡ p) b
            → ends (λ k. get_or pattern k 0) (suffix t start) k ≡ false
        go t l c k h (holds q) = rw q (not-true _ (sym (tells t l c) ∙ e))
        go t l c k h (fails q) = here.clear t l c k (omega arith)

    pub compared_found : r ≡ false → EndsBy pattern links start from p
    compared_found e = record { compared = here; hit = λ t l c _. not-false _ (sym (tells t l c) ∙ e) }

-- ---- the flag by the count and the first end, by its two cases

module _ (pattern : List ℕ) (symbols count : ℕ) (w : ℕ → ℕ) where
  pub by_end : count ≡ symbols
      → flag_by_end pattern symbols count w
      ≡ pick (ltb (first_end (λ k. get_or pattern k 0) w (length pattern)) (length pattern)) 0 1
  unfolding flag_by_end
  by_end e = rw (eq-eqb count symbols e)

  pub by_count : (count ≡ symbols → ⊥) → flag_by_end pattern symbols count w ≡ 0
  unfolding flag_by_end
  by_count n = rw (ne_eqb count symbols n)

-- ---- the next window

-- where a comparison ends is the first end
compared_end : (pattern links : List ℕ) (start from p : ℕ) → EndsBy pattern links start from p → (t : ℕ → ℕ)
    → LinksFrom t links start (length pattern) → ClearTo pattern t start (start + from)
    → p ≡ first_end (λ k. get_or pattern k 0) (suffix t start) (length pattern)
unfolding first_end
compared_end pattern links start from p e t l c =
    sym (first_is (record {
      within = e.compared.within;
      before = λ k h. e.compared.clear t l c k (omega arith);
      hit = e.hit t l c;
    }))

module _ (pattern first : List ℕ) (own : List FirstEnd) (links : List ℕ) (width : ℕ) (run : Run) (top : ℕ)
    (asked : WindowAsked pattern first own links width run top) where
  rows_apart : run.row * width + (top - run.row) * width ≡ top * width
  rows_apart =
      let e : run.row + (top - run.row) ≡ top = omega (arith, asked.past) in
      sym (add-mul run.row (top - run.row) width) ∙ ap (λ (x : ℕ). x * width) e

  -- a window into which the last one reaches has the pattern's own end where that lies in what agreed, and agrees as
  -- far where it does not
  module _ (under : top * width < run.reached) where
    own_is : end_at own (top - run.row)
        ≡ first_end (λ p. get_or pattern p 0) (suffix (λ p. get_or pattern p 0) ((top - run.row) * width))
        (length pattern - (top - run.row) * width)
    own_is = asked.owns.each (top - run.row) (omega arith) (omega (arith, rows_apart, asked.fits))

    fits : run.reached
        ≤ run.row * width + (top - run.row) * width + (length pattern - (top - run.row) * width)
    fits = omega (arith, rows_apart, asked.fits)

    inherits : end_at own (top - run.row) < run.reached - top * width → (t : ℕ → ℕ)
        → ClearTo pattern t (run.row * width) run.reached
        → end_at own (top - run.row) ≡ first_end (λ k. get_or pattern k 0) (suffix t (top * width)) (length pattern)
    inherits h t c =
        rw rows_apart at
        (inherited (λ k. get_or pattern k 0) t (run.row * width) run.reached ((top - run.row) * width) c
        (length pattern - (top - run.row) * width) _ own_is fits (length pattern) (omega (arith, rows_apart))
        (omega (arith, rows_apart, asked.fits)))

    still : run.reached - top * width ≤ end_at own (top - run.row) → (t : ℕ → ℕ)
        → ClearTo pattern t (run.row * width) run.reached → ClearTo pattern t (top * width) run.reached
    still h t c =
        rw rows_apart at
        (still_clear (λ k. get_or pattern k 0) t (run.row * width) run.reached ((top - run.row) * width) c
        (length pattern - (top - run.row) * width) _ own_is fits (omega (arith, rows_apart)))

  -- its first end is the pattern's own
  pub window_inherits : end_at own (top - run.row) < run.reached - top * width
      → WindowEnds pattern links width run top (record { run = run; end = end_at own (top - run.row) })
  window_inherits h =
      record {
        past = asked.past;
        fits = asked.fits;
        clear = λ t l c. c;
        end_is = λ t l c. inherits (omega arith) h t c;
      }

  -- else it is compared from where it is known to agree
  module _ (h : run.reached - top * width ≤ end_at own (top - run.row)) where
    pub window_onward : (end : ℕ) → EndsBy pattern links (top * width) (run.reached - top * width) end
        → WindowEnds pattern links width run top
        (record { run = record { row = top; reached = top * width + end }; end = end })
    window_onward end e =
        record {
          past = omega arith;
          fits = omega (arith, e.compared.within);
          clear = λ t l c. e.compared.clear t l (known t c);
          end_is = λ t l c. compared_end pattern links (top * width) _ end e t l (known t c);
        }
      where
        known : (t : ℕ → ℕ) → ClearTo pattern t (run.row * width) run.reached
            → ClearTo pattern t (top * width) (top * width + (run.reached - top * width))
        known t c k l = still (omega arith) h t c k (omega arith)

  -- ---- its flag

  module _ (symbols count : ℕ) where
    pub marked_skipped : (count ≡ symbols → ⊥)
        → WindowFlagged pattern symbols count links width run top (record { run = run; flag = 0 })
    unfolding flag_by_end
    marked_skipped h =
        record {
          past = asked.past;
          fits = asked.fits;
          clear = λ t l c. c;
          flag_is = λ t l c. rw (ne_eqb count symbols h);
        }

    pub marked_compared : count ≡ symbols → (r : RunEnd) → WindowEnds pattern links width run top r → (v : ℕ)
        → v ≡ pick (ltb r.end (length pattern)) 0 1
        → WindowFlagged pattern symbols count links width run top (record { run = r.run; flag = v })
    unfolding flag_by_end
    marked_compared e r got v ev =
        record {
          past = got.past;
          fits = got.fits;
          clear = λ t l c. got.clear t (l e) c;
          flag_is = λ t l c.
              ev
              ∙ ap (λ (x : ℕ). pick (ltb x (length pattern)) 0 1) (got.end_is t (l e) c)
              ∙ rw (eq-eqb count symbols e);
        }
