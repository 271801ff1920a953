-- Laws of a run down a strip of a text: it begins, goes on to the next window or past one, and what it finds is each
-- window's first end and earlier position.
-- Assumes nothing.
use Rattle.std.specs.Prelude.{◌≡◌, List, ℕ, ◌+◌, ◌-◌, ◌*◌, ◌≤◌, ◌<◌, length, get_or}
use Rattle.std.proofs.Common.{sym, ◌∙◌, ap, add-mul, zero-mul, mul-le-mul, mul-le-mul_right, arith}
use Rattle.grid.specs.Strips.{strip_symbols}
use Rattle.grid.specs.Strips.Laws.{strip_of}
use Rattle.prefixes.specs.Prefixes.{suffix}
use Rattle.prefixes.specs.State.Laws.{swept_none}
use Rattle.reach.specs.Reach.Laws.{window_suffix}
use Rattle.reach.specs.Reach.{ReachAt}
use Rattle.sweep.specs.Sweep.Steps.{reach_anew, top_small}
use Rattle.rows.specs.declared.run.Run.{Run}
use Rattle.rows.specs.declared.run.FirstEnd.{FirstEnd}
use Rattle.sweep.specs.declared.steps.Step.{Step}
use Rattle.theory.specs.Older.{Older}
use Rattle.shapes.specs.Shapes.{ShapeOf, across, down}
use Rattle.sweep.specs.Sweep.{RunAt, NextAt, NextIs, SidesOf, OwnSoFar, PatternAt, SweepAt, column_strip, own_at}
use Rattle.sweep.specs.Sweep.{end_of, earlier_of}
use Rattle.cells.specs.Windows.{window_at}
use Rattle.cells.specs.Windows.Laws.{corner_row_lem, corner_column_lem}
use Rattle.shapes.specs.declared.shapes.Shape.{Shape}

pub sides_of_lem : (text : List ℕ) (s : Shape) (pattern : List ℕ) → ShapeOf s (length text)
    → length pattern ≡ s.height * s.width → SidesOf pattern s.height s.width
sides_of_lem text s pattern shape e =
    record { cells = e; tall = omega arith; broad = omega arith; height_le = omega arith; width_le = omega arith }

-- such a pattern has a cell
pub cells_some : (s : Shape) (cells n : ℕ) → ShapeOf s cells → n ≡ s.height * s.width → 0 < n
cells_some s cells n shape e =
    let tall : 1 ≤ s.height = omega arith in
    let broad : 1 ≤ s.width = omega arith in
    omega (arith, mul-le-mul tall broad)

-- a window is passed over: the run stands before the next one with what it had
pub run_past : (text : List ℕ) (s : Shape) (pattern : List ℕ) (left : ℕ) (last : List ℕ) (run : Run) (top : ℕ)
    → RunAt text (column_strip s left) pattern last run top s.height
    → RunAt text (column_strip s left) pattern last run (top + 1) s.height
run_past text s pattern left last run top here =
    let more : (top + s.height) * s.width ≤ (top + 1 + s.height) * s.width = mul-le-mul_right s.width
    (omega arith) in
    record {
      past = omega (arith, here.past);
      fits = here.fits;
      within = omega (arith, here.within);
      swept = here.swept;
    }

-- and one whose first end is known
pub run_next : (text : List ℕ) (s : Shape) (pattern : List ℕ) (left row top : ℕ) (r : Step) (last : List ℕ)
    → NextIs text (column_strip s left) pattern row top s.height r last
    → RunAt text (column_strip s left) pattern last r.run (top + 1) s.height
run_next text s pattern left row top r last got = run_past text s pattern left last r.run top got.at_run

module _ (text : List ℕ) (s : Shape) (pattern first : List ℕ) (own : List FirstEnd) (left : ℕ)
    (asked : SweepAt text s pattern first own) (beside : left < across s) where
  pub pattern_at : PatternAt s pattern first own
  pattern_at =
      record {
        sides = sides_of_lem text s pattern asked.shape asked.cells;
        rows_le = omega (arith, asked.shape);
        fits = omega (arith, asked.shape);
        places = asked.places;
        owns = asked.owns;
      }

  -- the same with the own ends as they are by now
  pub sweep_with : (own' : List FirstEnd) → OwnSoFar pattern s.width (down s) own' → SweepAt text s pattern first own'
  sweep_with own' h = record { shape = asked.shape; cells = asked.cells; places = asked.places; owns = h }

  pub run_first : (last : List ℕ) → Older 1 last
      → RunAt text (column_strip s left) pattern last (record { row = 0; reached = 0 }) 0 s.height
  run_first last o =
      let z : 0 * s.width ≡ 0 = zero-mul s.width in
      record {
        past = omega arith;
        fits = omega arith;
        within = omega arith;
        swept =
            rw z (swept_none (λ k. get_or pattern k 0)
            (strip_symbols text (column_strip s left)) 0 last o);
      }

  module _ (last : List ℕ) (run : Run) (top : ℕ) (inside : top < down s)
      (here : RunAt text (column_strip s left) pattern last run top s.height)
    where
      rows_apart : run.row * s.width + (top - run.row) * s.width ≡ top * s.width
      rows_apart =
          let e : run.row + (top - run.row) ≡ top = omega (arith, here.past) in
          sym (add-mul run.row (top - run.row) s.width) ∙ ap (λ (x : ℕ). x * s.width) e

      pub row_small : run.row ≤ 255
      row_small = omega (arith, here.past, inside, asked.shape)

      pub run_asks : (top * s.width < run.reached → run.reached - run.row * s.width ≤ (own_at own 0).end)
          → NextAt text (column_strip s left) pattern first last own run top s.height
      run_asks made =
          record {
            strip = strip_of s left (length text) asked.shape beside;
            down = omega (arith, asked.shape.sized.fitting.height_le);
            cells = omega (arith, asked.cells);
            places = asked.places;
            at_run = here;
            self = λ h. record {
              cells = (own_at own 0).end;
              enough = made h;
              own_end = asked.owns.each (top - run.row) (omega arith) (omega (arith, made h, rows_apart));
            };
          }

      -- nothing of the window was read
      pub run_anew : run.reached ≤ top * s.width
          → ReachAt text (column_strip s left) pattern first last top s.height top 0 × (top * s.width ≤ 65025)
      run_anew h =
          let asks = run_asks (λ x. absurd (omega (arith, x, h))) in (
            reach_anew text (column_strip s left) pattern first last own run top s.height asks h,
            top_small text (column_strip s left) pattern first last own run top s.height asks,
          )

      module _ (r : Step) (last' : List ℕ)
          (got : NextIs text (column_strip s left) pattern run.row top s.height r last') where
        window_is : suffix (strip_symbols text (column_strip s left)) (top * s.width)
            ≡ window_at text s.columns top left s.width
        window_is =
            window_suffix text (column_strip s left) top (omega (arith, asked.shape))

        pub earlier_at : r.earlier ≡ earlier_of text s pattern (top * across s + left)
        unfolding earlier_of
        earlier_at =
            rw (corner_row_lem (across s) top left beside, corner_column_lem (across s) top left beside, ← window_is)
            got.end.earlier_is

        pub end_at : r.end ≡ end_of text s pattern (top * across s + left)
        unfolding end_of
        end_at =
            rw (corner_row_lem (across s) top left beside, corner_column_lem (across s) top left beside, ← window_is)
            got.end.end_is
