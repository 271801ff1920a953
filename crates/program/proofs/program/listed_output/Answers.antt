-- `program::listed_output` meets its contract: the lines are written at the start of the buffer, which has room for
-- them.
-- Assumes nothing.
use Rattle.std.proofs.Common.{◌≡◌, arith, length}
use Rattle.printing.specs.Lines.Front.{lines_front}
use Rattle.program.proofs.Room.{long}
use Rattle.program.proofs.program.listed_output.Goals as goal

pub returns : goal.returns
returns c =
    let room : 262144 ≡ length c.table-bytes.result = long _ _ c.table-bytes.ensures in
    lines_front _ _ _ _ c.requires.0 (omega (arith, c.requires.1, room)) c.write_lines-length.ensures
