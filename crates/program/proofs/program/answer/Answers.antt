-- `program::answer` meets its contract: refused by the input, its number is the program's; else what is searched is
-- printed.
-- Assumes nothing.
use Rattle.refusals.specs.Said.Laws.{passed_said}
use Rattle.input.specs.Input.Accepted.{input_passed}
use Rattle.program.specs.Program.Searched.{counted, refused_before}
use Rattle.program.proofs.program.answer.Goals as goal

pub searched_output-requires : goal.searched_output-requires
searched_output-requires c = input_passed _ _ (passed_said _ _ c.in-Ok.is c.input_outcome.ensures)

pub returns-in-Err : goal.returns-in-Err
returns-in-Err c =
    let all = counted _ _ _ (refused_before _ _ _ c.in-Err.is c.input_outcome.ensures _ _ c.refused_output.ensures) in
    record { prefix_len = all.0; output = all.1 }

pub returns-in-Ok : goal.returns-in-Ok
returns-in-Ok c =
    let all = counted _ _ _ c.searched_output.ensures in
    record { prefix_len = all.0; output = all.1 }
