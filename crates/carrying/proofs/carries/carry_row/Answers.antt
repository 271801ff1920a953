-- `carries::carry_row` meets its contract: the row is carried by its own cells (`rows_more`), whose symbols are the
-- pattern's, so that their images lie in the text.
-- Assumes nothing.
use Rattle.inheriting.specs.Carries.{cells_inside, rows_alike, rows_more}
use Rattle.carrying.proofs.carries.carry_row.Goals as goal

pub row_carries-requires : goal.row_carries-requires
row_carries-requires c =
    let row = c.row_cells.ensures in
    let cells = c.pattern_row.ensures in
    (cells_inside c.args.m _ c.requires.0 _ _ row cells, rows_alike c.args.m _ c.requires.0 _ _ row cells)

pub returns : goal.returns
returns c = λ t.
    rows_more c.args.m _ c.requires.0 _ _ c.row_cells.ensures c.pattern_row.ensures c.requires.1
    (c.row_carries.ensures t)
