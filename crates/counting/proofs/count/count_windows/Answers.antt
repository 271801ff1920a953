-- `count::count_windows` meets its contract: refused as its outcome says, nothing is written; else it counts.
-- Assumes nothing.
use Rattle.std.proofs.Common.{◌≡◌, Err, sym, rules}
use Rattle.shapes.specs.Questions.{Question, question_in}
use Rattle.flags.specs.Flags.{Work, working}
use Rattle.rooms.specs.Rooms.Laws.{room_passed}
use Rattle.counting.specs.Count.{count_stopped, count_accepts}
use Rattle.counting.proofs.count.count_windows.Goals as goal
use Rattle.counting.proofs.count.count_windows.Goals.{Start}

-- what is asked, and what is lent
abbrev asking : Start → Question
asking o = question_in o.args.q

abbrev lending : Start → Work
lending o = let a = o.args in working a.links.now a.counts.now a.flags.now

pub returns-in_err-room_outcome-clause-answer : goal.returns-in_err-room_outcome-clause-answer
returns-in_err-room_outcome-clause-answer c =
    let o = (goal.at.returns-in_err-room_outcome-clause-answer c).Start in
    let is : c.from_residual.result ≡ Err c.in_err-room_outcome.field-0.0 = search rules in
    rw is (count_stopped (asking o) (lending o) _ c.in_err-room_outcome.ensures)

pub count_laid-totals-requires : goal.count_laid-totals-requires
count_laid-totals-requires c = room_passed _ _ _ (sym c.in_ok-room_outcome.ensures)

pub returns-clause-answer : goal.returns-clause-answer
returns-clause-answer c =
    let o = (goal.at.returns-clause-answer c).Start in
    let counted = c.count_laid-totals.ensures in
    count_accepts (asking o) (lending o) c.in_ok-room_outcome.ensures _ _ counted.buffers counted.totals
