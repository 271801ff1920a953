-- `mismatches::window_symbol_in` meets its contract: the place is formed as the window's reading says (`window_cell`).
-- Assumes nothing.
use Rattle.std.proofs.Common.{sym}
use Rattle.cells.specs.Windows.Laws.{window_cell}
use Rattle.claims.proofs.mismatches.window_symbol_in.Goals as goal

pub returns : goal.returns
returns c =
    let v = c.args.w.place in
    rw (c.from.ensures, c.from-2.ensures) (sym (window_cell c.args.w.text.now v.columns v.row v.column v.width
    c.args.cell.row c.args.cell.column c.requires.1))
