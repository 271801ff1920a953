-- `rooms::room_outcome` meets its contract: where 2, 3, 4 refuse nothing the sides are small, and 9 and 10 are asked of
-- them.
-- Assumes nothing.
use Rattle.std.proofs.Common.{sym}
use Rattle.shapes.specs.Questions.{question_in}
use Rattle.shapes.specs.Questions.Laws.{posed}
use Rattle.shapes.specs.Shapes.Laws.{windows_ask}
use Rattle.rooms.proofs.rooms.room_outcome.Goals as goal

pub links_outcome-requires : goal.links_outcome-requires
links_outcome-requires c =
    let s = (posed (question_in c.args.q) _ (sym c.in_ok-question_outcome.ensures)).shape.sized in
    (s.sides.rows_good.small, s.sides.width_good.small)

pub windows_outcome-requires : goal.windows_outcome-requires
windows_outcome-requires c =
    windows_ask _ _ _ _
    (posed (question_in c.args.q) _ (sym c.in_ok-question_outcome.ensures)).shape.sized
