-- `strips::write_strip` meets its contract. The invariant: the own ends are right as far as they are made, the run
-- stands before the window at row top, each row above has come to its next place, and the refused windows above are
-- written.
-- Assumes nothing.
use Rattle.std.proofs.Common.{◌≡◌, ◌<◌, ◌+◌, ◌*◌, List, ℕ, length, get_or, ap, ◌∙◌, arith}
use Rattle.theory.specs.Older.Laws.{older_zeros}
use Rattle.shapes.specs.Shapes.{across, down}
use Rattle.counts.specs.Counts.Laws.{place_lt, windows_small}
use Rattle.sweep.specs.Sweep.Runs.{sweep_with, run_first, run_next, run_past, end_at, earlier_at}
use Rattle.listing.specs.Entries.Put.{start_of, puts_room, column_none, column_here, column_more}
use Rattle.listing.specs.Entries.Put.{column_over}
use Rattle.passes.specs.Windows.{view_placed, unmatched}
use Rattle.passes.specs.Strips.{piece_of, column_refused_none, column_refused, column_found}
use Rattle.passes.specs.Strips.{found_length, found_small, strip_window, strip_piece, strip_ended}
use Rattle.passes.proofs.strips.write_strip.Goals as goal
use Rattle.passes.proofs.strips.write_strip.Goals.{In-loop-top, After-loop-top}

-- the window that is asked is one of the strip's
within : (g : _) (c : In-loop-top g) → c.loop-top.top < down c.args.s
within g c = omega (arith, c.loop-top-test.true, c.requires.0.shape)

place_in : (g : _) (c : In-loop-top g) →
    let a = c.args in c.loop-top.top * across a.s + a.left < down a.s * across a.s
place_in g c = place_lt _ _ c.loop-top.top c.args.left c.requires.2 (within g c)

-- its row has come to it
here : (g : _) (c : In-loop-top g) →
    let a = c.args in
    get_or c.loop-top.heads c.loop-top.top 0
    ≡ start_of (piece_of a.text.now (g.P.Pattern.cells a.pattern) a.s) (c.loop-top.top * across a.s + a.left)
here g c = let l = c.loop-top in column_here _ _ _ _ l.top l.heads l.invariant.heads (within g c)

-- where the loop is left, all of the strip's windows are passed
over : (g : _) (c : After-loop-top g) → c.loop-top.top ≡ down c.args.s
over g c = omega (arith, c.loop-top-test.false, c.requires.0.shape)

pub loop-top-init : goal.loop-top-init
loop-top-init g c = record {
  sweep = c.requires.1;
  run = run_first _ _ _ _ _ _ c.requires.1 c.requires.2 _ (older_zeros 1 _ (omega arith) c.table-last.ensures);
  heads = column_none _ _ _ _ _ c.requires.4;
  puts = column_refused_none _ _ _ _ _ _;
}

pub bounds-flags-top : goal.bounds-flags-top
bounds-flags-top g c = omega (arith, place_in g (goal.at.bounds-flags-top g c).In-loop-top, c.requires.0.flags_room)

pub overflow_add-heads : goal.overflow_add-heads
overflow_add-heads g c =
    let a = c.args in
    let p = (goal.at.overflow_add-heads g c).In-loop-top in
    omega (
      arith,
      here g p,
      found_small _ _ a.s _ c.requires.0 _ c.requires.3 (c.loop-top.top * across a.s + a.left) (place_in g p),
      place_in g p,
      windows_small a.s _ c.requires.0.shape,
    )

pub loop-top-preserved-then-flags-top-eq1 : goal.loop-top-preserved-then-flags-top-eq1
loop-top-preserved-then-flags-top-eq1 g c =
    let l = c.loop-top in
    let p = (goal.at.loop-top-preserved-then-flags-top-eq1 g c).In-loop-top in
    let h = within g p in
    let sized = found_length _ _ c.args.s _ c.requires.0 _ c.requires.3 _ (place_in g p) c.if-flags-top-eq1.true in
    record {
      sweep = l.invariant.sweep;
      run = run_past _ _ _ _ _ l.run l.top l.invariant.run;
      heads = column_more _ _ _ _ l.top l.heads l.invariant.heads h (omega (arith, h, c.requires.0.shape)) _
          (ap (λ (n : ℕ). get_or l.heads l.top 0 + n) sized);
      puts = column_found _ _ _ _ _ _ _ l.top l.invariant.puts c.if-flags-top-eq1.true;
    }

pub invariant_of-w : goal.invariant_of-w
invariant_of-w g c = record {
  placed = view_placed _ _ _ _ c.requires.0 _ (place_in g (goal.at.invariant_of-w g c).In-loop-top) _
      (strip_window c.args.text.now (g.P.Pattern.cells c.args.pattern) c.args.s c.args.left c.loop-top.top
      c.requires.2 _ c.strip_window-place.ensures);
}

pub write_refused-requires : goal.write_refused-requires
write_refused-requires g c =
    let a = c.args in
    let l = c.loop-top in
    let cells = g.P.Pattern.cells a.pattern in
    let e = c.window_end-r.ensures.next_is in
    let p = (goal.at.write_refused-requires g c).In-loop-top in
    let h = within g p in
    let v = c.strip_window-place.ensures in
    let k = l.top * across a.s + a.left in (
      unmatched a.text.now cells a.s a.flags.now c.requires.0 k (place_in g p) c.if-flags-top-eq1.false _
          (strip_window a.text.now cells a.s a.left l.top c.requires.2 _ v),
      strip_ended a.text.now cells a.s a.left l.top c.requires.2 _ v _ _
          (end_at _ _ _ _ _ _ l.invariant.sweep c.requires.2 _ l.run l.top h l.invariant.run _ _ e)
          (earlier_at _ _ _ _ _ _ l.invariant.sweep c.requires.2 _ l.run l.top h l.invariant.run _ _ e),
      omega (
        arith,
        here g p,
        puts_room _ _ _ _ _ c.requires.5 l.invariant.puts k (place_in g p),
        ap length (strip_piece a.text.now cells a.s a.left l.top c.requires.2 _ v),
      ),
    )

pub loop-top-preserved : goal.loop-top-preserved
loop-top-preserved g c =
    let a = c.args in
    let l = c.loop-top in
    let p = (goal.at.loop-top-preserved g c).In-loop-top in
    let h = within g p in
    let x = strip_piece a.text.now (g.P.Pattern.cells a.pattern) a.s a.left l.top c.requires.2 _
    c.strip_window-place.ensures in
    let done = c.write_refused.ensures in record {
      sweep = sweep_with _ _ _ _ _ _ l.invariant.sweep c.requires.2 _ c.window_end-r.ensures.own_so_far;
      run = run_next _ _ _ _ l.run.row l.top _ _ c.window_end-r.ensures.next_is;
      heads = column_more _ _ _ _ l.top l.heads l.invariant.heads h (omega (arith, h, c.requires.0.shape)) _
          (done.end ∙ ap (λ (xs : List ℕ). get_or l.heads l.top 0 + length xs) x);
      puts = column_refused _ _ _ _ _ _ _ l.top l.invariant.puts c.requires.5 _ _ _ (place_in g p) (here g p) x
          done.listing_after;
    }

pub returns-clause-heads : goal.returns-clause-heads
returns-clause-heads g c =
    column_over _ _ _ _ c.loop-top.top _ c.loop-top.invariant.heads
    (omega (arith, over g (goal.at.returns-clause-heads g c).After-loop-top))

pub returns-clause-puts : goal.returns-clause-puts
returns-clause-puts g c =
    rw (over g (goal.at.returns-clause-puts g c).After-loop-top) at c.loop-top.invariant.puts
