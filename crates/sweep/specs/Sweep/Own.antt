-- Laws of the run down the pattern itself: as a strip of its own width its symbols are the pattern's, so the first end
-- of a window of it, from row k on, is the pattern's own end k. Row 0 is the pattern, which has no mismatch with
-- itself.
-- Assumes nothing.
use Rattle.std.specs.Prelude.{◌≡◌, refl, List, ℕ, ◌+◌, ◌-◌, ◌*◌, ◌/◌, ◌%◌, ◌≤◌, ◌<◌, zero, suc, length, get_or, set}
use Rattle.std.specs.Prelude.{replicate, Bool}
use Rattle.std.proofs.Common.{sym, ◌∙◌, ap, add-mul, mod-lt, div-add-mod', zero-mul, one-mul, mul-le-mul_right, arith}
use Rattle.std.proofs.Common.{length-set, get_or-set_same, get_or-set_other}
use Rattle.std.proofs.Math.Path.{fun_ext}
use Rattle.grid.specs.Strips.{StripOf, strip_symbols}
use Rattle.prefixes.specs.Prefixes.{suffix}
use Rattle.prefixes.specs.State.{FirstPlaces}
use Rattle.prefixes.specs.State.Laws.{swept_none}
use Rattle.rows.specs.declared.run.Run.{Run}
use Rattle.rows.specs.declared.run.FirstEnd.{FirstEnd}
use Rattle.sweep.specs.declared.steps.Step.{Step}
use Rattle.theory.specs.Test.{Tested, holds, fails}
use Rattle.theory.specs.Test.Laws.{eq_tested}
use Rattle.theory.specs.Older.{Older}
use Rattle.shapes.specs.Shapes.{Side}
use Rattle.prefixes.specs.Prefixes.Ends.{ends_nowhere, self_end}
use Rattle.reach.specs.Reach.Laws.{strip_cell}
use Rattle.sweep.specs.Sweep.{RunAt, OwnEndIs, NextAt, NextIs, SidesOf, OwnMismatches, OwnSoFar}
use Rattle.sweep.specs.Sweep.{own_strip, own_at}

-- the run over the pattern itself stands before row top
pub record OwnRun (pattern : List ℕ) (height width rows : ℕ) (last : List ℕ) (own : List FirstEnd) (run : Run) (top : ℕ)
    : Type 0 where
  pub below : 1 ≤ run.row
  pub rows_le : top ≤ rows
  pub at_run : RunAt pattern (own_strip height width) pattern last run top (rows - top)
  pub owns : OwnMismatches pattern width (rows * width) top own

module _ (pattern : List ℕ) (height width rows : ℕ) (sides : SidesOf pattern height width) (some : 1 ≤ rows)
    (few : rows ≤ height) where
  pub own_strip_of : StripOf (own_strip height width) (length pattern)
  own_strip_of =
      let tall : Side height = record { positive = sides.tall; small = sides.height_le } in
      let broad : Side width = record { positive = sides.broad; small = sides.width_le } in
      record {
        shape = record {
          sized = record {
            sides = record { rows_good = tall; columns_good = broad; height_good = tall; width_good = broad };
            fitting = record { height_le = omega arith; width_le = omega arith };
          };
          cells_is = sides.cells;
        };
        inside = omega arith;
      }

  -- its symbols are the pattern's
  own_symbol : (k : ℕ) → strip_symbols pattern (own_strip height width) k ≡ get_or pattern k 0
  own_symbol k =
      let e : k / width * width + k % width ≡ k = div-add-mod' k width in
      let f : k / width * width + 0 + k % width ≡ k = omega arith in
      ap (strip_symbols pattern (own_strip height width)) (sym e)
      ∙ strip_cell pattern (own_strip height width) (k / width) (k % width) (mod-lt k sides.broad)
      ∙ ap (λ (x : ℕ). get_or pattern x 0) f

  pub own_symbols : strip_symbols pattern (own_strip height width) ≡ (λ k. get_or pattern k 0)
  own_symbols = fun_ext own_symbol

  -- how many positions a window from row top on has
  pub own_left : (top : ℕ) → top ≤ rows → (rows - top) * width ≡ rows * width - top * width
  own_left top h =
      let e : top + (rows - top) ≡ rows = omega arith in
      let f : (top + (rows - top)) * width ≡ rows * width = ap (λ (x : ℕ). x * width) e in
      omega (arith, add-mul top (rows - top) width)

  pub own_whole : (top : ℕ) → top ≤ rows → (top + (rows - top)) * width ≡ rows * width
  own_whole top h = let e : top + (rows - top) ≡ rows = omega arith in ap (λ (x : ℕ). x * width) e

  -- as many positions as the rows have, and no more than the pattern
  pub own_cells_le : rows * width ≤ length pattern
  own_cells_le = omega (arith, mul-le-mul_right width few, sides.cells)

  self_whole : OwnEndIs pattern (rows * width) (0 * width) (rows * width) 0
  self_whole =
      let z : 0 * width ≡ 0 = zero-mul width in
      let n : rows * width - 0 * width ≡ rows * width = omega arith in
      let e : suffix (λ k. get_or pattern k 0) (0 * width)
      ≡ (λ k. get_or pattern k 0) = fun_ext (λ p. ap (λ (k : ℕ). get_or pattern k 0) (omega arith)) in
      ends_nowhere _ _ (rows * width - 0 * width) (rows * width) 0
      (rw (e, n) (self_end (λ k. get_or pattern k 0) (rows * width))) (omega arith) refl

  pub own_first : (last : List ℕ) (own : List FirstEnd) → Older 1 last → length own ≡ 256
      → OwnRun pattern height width rows last (set own 0 (record { end = rows * width; earlier = 0 }))
      (record { row = 1; reached = width }) 1
  own_first last own o long =
      let one : 1 * width ≡ width = one-mul width in
      record {
        below = omega arith;
        rows_le = some;
        at_run = record {
          past = omega arith;
          fits = omega arith;
          within = omega (arith, own_whole 1 some, mul-le-mul_right width some);
          swept =
              rw one (swept_none (λ k. get_or pattern k 0) (strip_symbols pattern (own_strip height width)) width last
              (record { long = o.long; below = λ i. omega (arith, o.below i) }));
        };
        owns = record {
          long = rw length-set long;
          whole = ap (λ (x : FirstEnd). x.end) at_first;
          each = λ k h. each k h;
        };
      }
    where
      at_first : own_at (set own 0 (record { end = rows * width; earlier = 0 })) 0
          ≡ record { end = rows * width; earlier = 0 }
      at_first = get_or-set_same own 0 (record { end = rows * width; earlier = 0 }) _ (omega arith)

      each : (k : ℕ) → k < 1
          → OwnEndIs pattern (rows * width) (k * width)
          (own_at (set own 0 (record { end = rows * width; earlier = 0 })) k).end
          (own_at (set own 0 (record { end = rows * width; earlier = 0 })) k).earlier
      each zero h = rw at_first self_whole
      each (suc k) h = absurd (omega (arith, h))

  module _ (first last : List ℕ) (own : List FirstEnd) (run : Run) (top : ℕ)
      (places : FirstPlaces (λ k. get_or pattern k 0) (length pattern) first) (inside : top < rows)
      (here : OwnRun pattern height width rows last own run top) where
    pub own_asks : NextAt pattern (own_strip height width) pattern first last own run top (rows - top)
    own_asks =
        record {
          strip = own_strip_of;
          down = omega arith;
          cells = omega (arith, own_left top here.rows_le, own_cells_le);
          places = places;
          at_run = here.at_run;
          self = λ _. record {
            cells = rows * width;
            enough = omega (arith, here.at_run.within, own_whole top here.rows_le);
            own_end = here.owns.each (top - run.row) (omega (arith, here.below));
          };
        }

    pub own_more : (r : Step) (last' : List ℕ)
        → NextIs pattern (own_strip height width) pattern run.row top (rows - top) r last'
        → OwnRun pattern height width rows last' (set own top (record { end = r.end; earlier = r.earlier })) r.run
        (top + 1)
    own_more r last' got =
        record {
          below = omega (arith, here.below, got.since);
          rows_le = omega arith;
          at_run = record {
            past = omega (arith, got.at_run.past);
            fits = got.at_run.fits;
            within = omega (arith, got.at_run.within, own_whole top here.rows_le, own_whole (top + 1) (omega arith));
            swept = got.at_run.swept;
          };
          owns =
              record {
                long = rw length-set here.owns.long;
                whole = ap (λ (x : FirstEnd). x.end) (get_or-set_other own top 0 found _ (λ e. first_done e))
                    ∙ here.owns.whole;
                each = λ k h. each k h (eq_tested k top);
              };
        }
      where
        found : FirstEnd
        found = record { end = r.end; earlier = r.earlier }

        first_done : 0 ≡ top → ⊥
        first_done e = omega (arith, here.below, here.at_run.past)

        this : OwnEndIs pattern (rows * width) (top * width) r.end r.earlier
        this = rw (own_symbols, own_left top here.rows_le) at got.end

        each : (k : ℕ) {t : Bool} → k < top + 1 → Tested (k ≡ top) t
            → OwnEndIs pattern (rows * width) (k * width)
            (own_at (set own top (record { end = r.end; earlier = r.earlier })) k).end
            (own_at (set own top (record { end = r.end; earlier = r.earlier })) k).earlier
        each k h (holds e) =
            rw (
              e,
              get_or-set_same own top (record { end = r.end; earlier = r.earlier }) (record { end = 0; earlier = 0 })
                  (omega (arith, here.owns.long, sides.height_le, few)),
            )
            this
        each k h (fails d) =
            rw (get_or-set_other own top k (record { end = r.end; earlier = r.earlier })
            (record { end = 0; earlier = 0 }) d) (here.owns.each k (omega arith))

-- ---- as far as they were made

-- none was made yet
pub own_unmade : (pattern : List ℕ) (width windows : ℕ) (own : List FirstEnd)
    → own ≡ replicate 256 (record { end = 0; earlier = 0 }) → OwnSoFar pattern width windows own
own_unmade pattern width windows own e =
    record { long = rw e refl; within = omega (arith, none); each = λ k l b. absurd (omega (arith, none, b)) }
  where
    none : (own_at own 0).end ≡ 0
    none = rw e refl
