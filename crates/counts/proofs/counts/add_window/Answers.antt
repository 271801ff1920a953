-- `counts::add_window` meets its contract. The invariant: the rows passed have entered.
-- Assumes nothing.
use Rattle.std.proofs.Common.{◌≡◌, refl, arith}
use Rattle.counts.specs.Counts.Laws.{room_row, add_bottom, tracks_start, beside_strip}
use Rattle.counts.proofs.counts.add_window.Goals as goal

pub loop-n-init : goal.loop-n-init
loop-n-init c = tracks_start c.args.text.now c.args.s 0 c.args.left _ c.requires.2

pub row_cells-requires : goal.row_cells-requires
row_cells-requires c = (beside_strip _ _ _ c.requires.0 c.requires.1, omega arith)

pub add_row-requires : goal.add_row-requires
add_row-requires c =
    room_row _ _ _ c.requires.0 c.requires.1 _ 0 c.loop-n.n c.loop-n.n _ (omega arith) c.loop-n.invariant
    c.row_cells.ensures

pub loop-n-preserved : goal.loop-n-preserved
loop-n-preserved c =
    add_bottom _ _ _ c.requires.0 c.requires.1 _ _ 0 c.loop-n.n _ c.loop-n.n _ c.loop-n.invariant c.row_cells.ensures
    (omega arith) refl (omega arith) c.add_row.ensures

pub returns : goal.returns
returns c =
    let all : c.loop-n.n ≡ c.args.s.height = omega arith in
    rw all at c.loop-n.invariant
