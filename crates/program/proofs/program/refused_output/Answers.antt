-- `program::refused_output` meets its contract: the refusal's line is written at the start of the buffer, which has
-- room for it.
-- Assumes nothing.
use Rattle.std.proofs.Common.{◌≡◌, arith, length}
use Rattle.printing.specs.Lines.Writing.{refusal_length}
use Rattle.printing.specs.Lines.Front.{refusal_front}
use Rattle.program.proofs.Room.{long}
use Rattle.program.proofs.program.refused_output.Goals as goal
use Rattle.program.proofs.program.refused_output.Goals.{After-table-bytes}

room : (c : After-table-bytes) → 262144 ≡ length c.table-bytes.result
room c = long _ _ c.table-bytes.ensures

pub write_refusal-length-requires : goal.write_refusal-length-requires
write_refusal-length-requires c =
    omega (arith, refusal_length c.from.result, room (goal.at.write_refusal-length-requires c).After-table-bytes)

pub returns : goal.returns
returns c =
    refusal_front _ _ _ _ _ (omega (arith, room (goal.at.returns c).After-table-bytes)) c.from.ensures
    c.write_refusal-length.ensures.end c.write_refusal-length.ensures.output_after
