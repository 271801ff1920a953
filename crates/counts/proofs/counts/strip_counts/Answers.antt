-- `counts::strip_counts` meets its contract. The invariant: the windows passed are written, and the occurrences are
-- those of the next window.
-- Assumes nothing.
use Rattle.std.proofs.Common.{◌+◌, ◌*◌, ◌≤◌, sym, add-one, arith}
use Rattle.theory.specs.Store.Laws.{stored_none, stored_more}
use Rattle.shapes.specs.Shapes.{across}
use Rattle.counts.specs.Counts.{count_in}
use Rattle.counts.specs.Counts.Laws.{size_small, count_at}
use Rattle.counts.proofs.counts.strip_counts.Goals as goal

pub loop-top-init : goal.loop-top-init
loop-top-init c = record { tracks = λ _. c.add_window.ensures; written = sym (stored_none _ _ _) }

pub overflow_cast-counts : goal.overflow_cast-counts
overflow_cast-counts c =
    let h : c.args.left + c.args.s.width ≤ c.args.s.columns = omega arith in
    omega (arith, size_small _ _ _ c.requires.0 h _ _ (c.loop-top.invariant.tracks c.loop-top-test.true))

pub loop-top-preserved : goal.loop-top-preserved
loop-top-preserved c = record {
  tracks = λ h. c.slide.ensures (omega arith);
  written =
      rw (c.across-width.ensures, add-one c.loop-top.top)
      (stored_more (count_in c.args.text.now c.args.s) (λ top. top * across c.args.s + c.args.left) _ _ _ _
      c.loop-top.invariant.written
      (count_at c.args.text.now c.args.s c.loop-top.top c.args.left _ c.requires.1
      (c.loop-top.invariant.tracks c.loop-top-test.true)));
}
