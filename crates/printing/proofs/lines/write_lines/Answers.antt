-- `lines::write_lines` meets its contract. The invariant: the lines of the records before the cursor are written, and
-- the cursor is where a record begins or the listing ends (`PrintedTo`).
-- Assumes nothing.
use Rattle.std.proofs.Common.{◌<◌, ◌≤◌, length, arith}
use Rattle.printing.specs.Lines.Writing.{printed_none, reached_end, read_inside, read_room, read_printed}
use Rattle.printing.proofs.lines.write_lines.Goals as goal
use Rattle.printing.proofs.lines.write_lines.Goals.{In-Ok}

-- the record ends behind the cursor, inside the listing
inside : (c : In-Ok) → (c.loop-next.cursor.at < c.in-Ok.next.at) × (c.in-Ok.next.at ≤ length c.args.listing.now)
inside c = read_inside _ _ _ _ _ _ c.loop-next.invariant c.requires.0 _ c.read.ensures _ _ c.in-Ok.is

pub loop-next-init : goal.loop-next-init
loop-next-init c = printed_none _ _ _ c.requires.1

pub slice_bounds-write_line-count : goal.slice_bounds-write_line-count
slice_bounds-write_line-count c = omega (arith, (inside (goal.at.slice_bounds-write_line-count c).In-Ok).0)

pub slice_bounds-write_line-start : goal.slice_bounds-write_line-start
slice_bounds-write_line-start c = omega (arith, (inside (goal.at.slice_bounds-write_line-start c).In-Ok).0)

pub slice_bounds-write_line-end : goal.slice_bounds-write_line-end
slice_bounds-write_line-end c = (inside (goal.at.slice_bounds-write_line-end c).In-Ok).1

pub write_line-end-requires : goal.write_line-end-requires
write_line-end-requires c =
    read_room _ _ _ _ _ _ c.loop-next.invariant c.requires.0 _ c.read.ensures _ _ c.in-Ok.is

pub loop-next-smaller : goal.loop-next-smaller
loop-next-smaller c = let e = inside (goal.at.loop-next-smaller c).In-Ok in omega (arith, e.0, e.1)

pub loop-next-preserved : goal.loop-next-preserved
loop-next-preserved c =
    read_printed _ _ _ _ _ _ c.loop-next.invariant c.requires.0 _ c.read.ensures _ _ c.in-Ok.is _ _
    c.write_line-end.ensures.end c.write_line-end.ensures.output_after

pub returns : goal.returns
returns c = reached_end _ _ _ _ _ _ c.loop-next.invariant c.requires.0 _ c.read.ensures _ c.in_default.is
