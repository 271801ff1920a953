-- `strips::link_rows` meets its contract. The invariant: the rows passed are linked, and the last places are those
-- before the next.
-- Assumes nothing.
use Rattle.std.proofs.Common.{◌≡◌, ◌*◌, sym, length, arith}
use Rattle.std.proofs.Math.Nat.{zero-mul}
use Rattle.theory.specs.Store.Laws.{rows_none}
use Rattle.grid.specs.Strips.{strip_symbols, LinkedRow}
use Rattle.grid.specs.Strips.Rows.{strip_row_at, linkable_row, next_places, next_links, last_places_none}
use Rattle.grid.proofs.strips.link_rows.Goals as goal
use Rattle.grid.proofs.strips.link_rows.Goals.{After-link_row}

-- what the row's links and last places are, of the strip's own sequence
linked : (c : After-link_row) → LinkedRow (strip_symbols c.args.text.now c.args.t) (c.loop-i.i * c.args.t.width)
    (length c.row_cells.result.now) c.loop-i.links c.link_row.new.last c.link_row.new.links
linked c =
    c.link_row.ensures _ (strip_row_at _ _ c.requires.0 _ c.loop-i-test.true _ c.row_cells.ensures)
    c.loop-i.invariant.0

pub loop-i-init : goal.loop-i-init
loop-i-init c = (rw zero-mul (last_places_none _ _ c.table-last.ensures), sym (rows_none _ _ _ _))

pub link_row-requires : goal.link_row-requires
link_row-requires c =
    linkable_row _ _ c.requires.0 _ c.loop-i-test.true _ c.row_cells.ensures _ _ c.loop-i.invariant.0 (omega arith)

pub loop-i-preserved : goal.loop-i-preserved
loop-i-preserved c =
    let row = (goal.at.loop-i-preserved c).After-link_row in (
      next_places _ _ c.requires.0 _ c.loop-i-test.true _ c.row_cells.ensures _ _ _ (linked row),
      next_links _ _ c.requires.0 _ c.loop-i-test.true _ c.row_cells.ensures _ _ _ _ c.loop-i.invariant.1 (linked row),
    )

pub returns : goal.returns
returns c =
    let all : c.loop-i.i ≡ c.args.t.rows = omega arith in
    rw all at c.loop-i.invariant.1
