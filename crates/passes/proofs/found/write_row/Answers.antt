-- `found::write_row` meets its contract. The invariant: the place is that of the row's next window, and the found ones
-- before it are written.
-- Assumes nothing.
use Rattle.std.proofs.Common.{◌≡◌, ◌<◌, ◌+◌, ◌*◌, ap, refl, length, arith}
use Rattle.shapes.specs.Shapes.{across, down}
use Rattle.counts.specs.Counts.Laws.{place_lt}
use Rattle.listing.specs.Entries.Put.{start_next, puts_room}
use Rattle.passes.specs.Windows.{view_placed, answered}
use Rattle.passes.specs.Strips.{found_more, strip_window, strip_piece}
use Rattle.passes.proofs.found.write_row.Goals as goal
use Rattle.passes.proofs.found.write_row.Goals.{In-loop-left}

-- the window that is passed
place_in : (g : _) (c : In-loop-left g) →
    let a = c.args in a.top * across a.s + c.loop-left.left < down a.s * across a.s
place_in g c = place_lt _ _ c.args.top c.loop-left.left c.loop-left-test.true c.requires.2

pub invariant_of-w : goal.invariant_of-w
invariant_of-w g c = record {
  placed = view_placed _ _ _ _ c.requires.0 _ (place_in g (goal.at.invariant_of-w g c).In-loop-left) _
      (strip_window c.args.text.now (g.P.Pattern.cells c.args.pattern) c.args.s c.loop-left.left c.args.top
      c.loop-left-test.true _ c.strip_window-place.ensures);
}

pub write_if_found-at-requires : goal.write_if_found-at-requires
write_if_found-at-requires g c =
    let a = c.args in
    let l = c.loop-left in
    let k = a.top * across a.s + l.left in
    let cells = g.P.Pattern.cells a.pattern in
    let here = c.strip_window-place.ensures in
    let inside = place_in g (goal.at.write_if_found-at-requires g c).In-loop-left in (
      answered _ _ _ _ _ c.requires.0 c.requires.1 k inside _
          (strip_window a.text.now cells a.s l.left a.top c.loop-left-test.true _ here),
      omega (
        arith,
        l.invariant.place,
        ap length (strip_piece a.text.now cells a.s l.left a.top c.loop-left-test.true _ here),
        puts_room _ _ _ _ _ c.requires.4 l.invariant.puts k inside,
      ),
    )

pub loop-left-preserved : goal.loop-left-preserved
loop-left-preserved g c =
    let a = c.args in
    let l = c.loop-left in
    let k = a.top * across a.s + l.left in
    let n : a.top * across a.s + (l.left + 1) ≡ k + 1 = omega arith in
    let x = strip_piece a.text.now (g.P.Pattern.cells a.pattern) a.s l.left a.top c.loop-left-test.true _
    c.strip_window-place.ensures in
    let here = c.write_if_found-at.ensures in
    let inside = place_in g (goal.at.loop-left-preserved g c).In-loop-left in record {
      place = start_next _ k _ l.at _ _ l.invariant.place x n here.end;
      puts = found_more _ _ a.flags.now _ _ c.requires.4 _ k _ _ l.at _ _ l.invariant.puts inside n refl
          l.invariant.place x here.listing_after;
    }
