-- `rooms::flags_room_outcome` meets its contract: where 2, 3, 4 refuse nothing there are windows to count.
-- Assumes nothing.
use Rattle.std.proofs.Common.{sym}
use Rattle.shapes.specs.Questions.{question_in}
use Rattle.shapes.specs.Questions.Laws.{posed}
use Rattle.shapes.specs.Shapes.Laws.{windows_ask}
use Rattle.rooms.proofs.rooms.flags_room_outcome.Goals as goal

pub windows-requires : goal.windows-requires
windows-requires c =
    windows_ask _ _ _ _
    (posed (question_in c.args.q) _ (sym c.in_ok-question_outcome.ensures)).shape.sized
