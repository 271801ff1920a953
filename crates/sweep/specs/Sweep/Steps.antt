-- Laws of the next window: what is left to compare of it, or that it has the pattern's own first end. Where the last
-- window compared reaches into it, inheritance says which of the two; else it is compared from its first cell.
-- Assumes nothing.
use Rattle.std.specs.Prelude.{◌≡◌, List, ℕ, ◌+◌, ◌-◌, ◌*◌, ◌/◌, ◌%◌, ◌≤◌, ◌<◌, get_or}
use Rattle.std.proofs.Common.{sym, ◌∙◌, ap, add-zero, add-mul, mod-lt, div-add-mod', arith}
use Rattle.shapes.specs.Shapes.Laws.{product_le}
use Rattle.grid.specs.Strips.{strip_symbols}
use Rattle.grid.specs.declared.strips.Strip.{Strip}
use Rattle.prefixes.specs.Prefixes.Inheritance.{inherited_end}
use Rattle.prefixes.specs.State.{Swept}
use Rattle.prefixes.specs.State.Laws.{swept_past, swept_lower}
use Rattle.reach.specs.Reach.{ReachAt}
use Rattle.sweep.specs.declared.steps.Step.{Step}
use Rattle.rows.specs.declared.run.Run.{Run}
use Rattle.rows.specs.declared.run.FirstEnd.{FirstEnd}
use Rattle.sweep.specs.Sweep.{OwnKnown, NextAt, NextIs, own_at}

-- and was said to be below another one
pub next_since : (text : List ℕ) (s : Strip) (pattern : List ℕ) (row top height : ℕ) (r : Step) (last : List ℕ)
    → row ≤ top → NextIs text s pattern top top height r last → NextIs text s pattern row top height r last
next_since text s pattern row top height r last h got =
    record { since = omega (arith, got.since); at_run = got.at_run; end = got.end }

module _ (text : List ℕ) (s : Strip) (pattern first last : List ℕ) (own : List FirstEnd) (run : Run)
    (top height : ℕ) (asked : NextAt text s pattern first last own run top height) where
  pub top_small : top * s.width ≤ 65025
  top_small =
      omega (
        arith,
        product_le top s.width 255 255 (omega (arith, asked.strip, asked.down))
            (omega (arith, asked.strip)),
      )

  rows_apart : run.row * s.width + (top - run.row) * s.width ≡ top * s.width
  rows_apart =
      let e : run.row + (top - run.row) ≡ top = omega (arith, asked.at_run.past) in
      sym (add-mul run.row (top - run.row) s.width) ∙ ap (λ (x : ℕ). x * s.width) e

  pub wide : 0 < s.width
  wide = omega (arith, asked.strip)

  asks : (line j : ℕ) → j < s.width → line * s.width + j ≤ (top + height) * s.width
      → Swept (λ k. get_or pattern k 0) (strip_symbols text s) (top * s.width) (line * s.width + j) last
      → ReachAt text s pattern first last top height line j
  asks line j n h sw =
      record {
        strip = asked.strip;
        down = asked.down;
        cells = asked.cells;
        places = asked.places;
        narrow = n;
        within = h;
        swept = sw;
      }

  -- nothing of it has been read
  pub reach_anew : run.reached ≤ top * s.width → ReachAt text s pattern first last top height top 0
  reach_anew h =
      asks top 0 wide (omega (arith, add-mul top height s.width))
      (rw add-zero (swept_past _ _ (run.row * s.width) (top * s.width) run.reached last h asked.at_run.swept))

  module _ (under : top * s.width < run.reached) (f g : ℕ) (ef : f ≡ (own_at own (top - run.row)).end)
      (eg : g ≡ (own_at own (top - run.row)).earlier) where
    self_known : OwnKnown pattern (run.reached - run.row * s.width) ((top - run.row) * s.width) f g
    self_known = rw (ef, eg) (asked.self under)

    abbrev own_cells : ℕ
    own_cells = self_known.cells - (top - run.row) * s.width

    self_fits : run.reached ≤ run.row * s.width + (top - run.row) * s.width + own_cells
    self_fits = omega (arith, self_known.enough)

    -- its first end is the pattern's own
    pub next_inherited : top * s.width + f < run.reached
        → NextIs text s pattern run.row top height (record { run = run; end = f; earlier = g }) last
    next_inherited h =
        record {
          since = omega arith;
          at_run = asked.at_run;
          end = rw rows_apart at
              (inherited_end _ (strip_symbols text s) (run.row * s.width) run.reached ((top - run.row) * s.width)
              asked.at_run.swept.clear
              own_cells f self_known.own_end.end_is self_fits (height * s.width) g self_known.own_end
              (omega (arith, rows_apart))
              (omega (arith, rows_apart, asked.at_run.within, add-mul top height s.width)));
        }

    -- what was read of it agrees
    pub reach_on : run.reached ≤ top * s.width + f
        → ReachAt text s pattern first last top height (run.reached / s.width) (run.reached % s.width)
    reach_on h =
        let e : run.reached / s.width * s.width + run.reached % s.width ≡ run.reached = div-add-mod' run.reached s.width in
        asks (run.reached / s.width) (run.reached % s.width) (mod-lt run.reached wide) (omega (arith, asked.at_run.within))
        (rw e (rw rows_apart at
        (swept_lower _ (strip_symbols text s) (run.row * s.width) run.reached ((top - run.row) * s.width)
        own_cells f last asked.at_run.swept self_known.own_end.end_is self_fits
        (omega (arith, rows_apart)) (omega (arith, rows_apart)))))
