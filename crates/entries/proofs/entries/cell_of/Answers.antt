-- `entries::cell_of` meets its contract: a position of a window is small, and its row and column are bytes.
-- Assumes nothing.
use Rattle.std.proofs.Common.{arith}
use Rattle.shapes.specs.Shapes.Laws.{product_le}
use Rattle.entries.specs.Listing.Entries.{row_byte, column_byte}
use Rattle.entries.proofs.entries.cell_of.Goals as goal

pub overflow_cast-at : goal.overflow_cast-at
overflow_cast-at c =
    let s = c.requires.0 in
    omega (
      arith,
      c.requires.1,
      product_le c.args.v.height c.args.v.width 255 255 (omega (arith, s.height_small))
          (omega (arith, s.width_small)),
    )

pub overflow_cast-result : goal.overflow_cast-result
overflow_cast-result c = omega (arith, row_byte c.args.v c.requires.0 c.args.p c.requires.1)

pub overflow_cast-result-2 : goal.overflow_cast-result-2
overflow_cast-result-2 c = omega (arith, column_byte c.args.v c.requires.0 c.args.p)
