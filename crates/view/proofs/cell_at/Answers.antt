-- `view::cell_at` meets its contract: the place is formed as the window's reading says. The row's number is small,
-- since a row of the text has at least one cell.
-- Assumes nothing.
use mathlib.Core.Path.{sym}
use Prim.Native.Nat.{◌+◌, ◌/◌}
use native.Mathlib.Nat.{le-mul_of_pos_right}
use native.Mathlib.Omega.{arith}
use Rattle.cells.specs.Windows.Laws.{window_at_lem}
use Rattle.view.proofs.cell_at.Goals as goal

pub overflow_add-result : goal.overflow_add-result
overflow_add-result c = omega (arith, le-mul_of_pos_right (c.args.row + c.args.p / c.args.width) c.requires.broad)

pub returns : goal.returns
returns c = sym (window_at_lem _ _ _ _ _ _)
