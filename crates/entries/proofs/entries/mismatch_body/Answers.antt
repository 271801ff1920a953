-- `entries::mismatch_body` meets its contract: the window's corner is of bytes, and the cells are those of the two
-- positions.
-- Assumes nothing.
use Rattle.entries.proofs.entries.mismatch_body.Goals as goal

pub returns : goal.returns
returns c = rw (c.cell_of.ensures, c.cell_of-2.ensures)
