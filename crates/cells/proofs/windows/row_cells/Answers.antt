-- `windows::row_cells` meets its contract: the part that starts at the row's first cell, as far as the text goes.
-- Assumes nothing.
use Rattle.std.proofs.Common.{◌≡◌, ℕ, ◌*◌, ap₂, arith}
use Rattle.cells.specs.Windows.Laws.{row_cells_cut}
use Rattle.cells.proofs.windows.row_cells.Goals as goal

pub returns : goal.returns
returns c =
    let start = ap₂ (λ (a b : ℕ). a * b) c.from.ensures c.from-2.ensures in
    row_cells_cut _ _ _ _ _ _ _ (omega (arith, start)) (omega (arith, start))
