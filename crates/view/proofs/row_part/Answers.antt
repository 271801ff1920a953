-- `view::row_part` meets its contract: the part begins at the row's first cell and has as many cells as the window is
-- wide. The row's number is small, since a row of the text has at least one cell.
-- Assumes nothing.
use mathlib.Core.Path.{◌≡◌}
use mathlib.Core.List.{List}
use Prim.Native.Nat.{ℕ, ◌+◌, ◌-◌, ◌*◌}
use native.Mathlib.Nat.{le-mul_of_pos_right, add-sub_cancel_left}
use native.Mathlib.Omega.{arith}
use lib.ListN.{take, drop}
use Rattle.cells.specs.Windows.{cells_of_row}
use Rattle.cells.specs.Windows.Laws.{row_cells_is}
use Rattle.view.proofs.row_part.Goals as goal

-- the part that is lent is the row
part_row : (text : List ℕ) (columns row column width : ℕ) → let start = row * columns + column in
    take (start + width - start) (drop start text) ≡ cells_of_row text columns row column width
part_row text columns row column width = rw (row_cells_is, add-sub_cancel_left)

pub overflow_add-start : goal.overflow_add-start
overflow_add-start c = omega (arith, le-mul_of_pos_right (c.args.row + c.args.i) c.requires.broad)

pub returns : goal.returns
returns c = let a = c.args in part_row a.text.now a.columns (a.row + a.i) a.column a.width
