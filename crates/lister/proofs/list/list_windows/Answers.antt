-- `list::list_windows` meets its contract: refused as its outcome says, nothing is written; else the flags decide.
-- Assumes nothing.
use Rattle.std.proofs.Common.{◌≡◌, Err, sym, ◌∙◌, rules}
use Rattle.shapes.specs.Questions.{Question, question_in}
use Rattle.rooms.specs.Rooms.Laws.{flags_room_passed}
use Rattle.lister.specs.Steps.{list_stopped, list_goes_on}
use Rattle.lister.proofs.list.list_windows.Goals as goal
use Rattle.lister.proofs.list.list_windows.Goals.{Start}

-- what is asked
abbrev asking : Start → Question
asking o = question_in o.args.q

pub returns-in_err-flags_room_outcome-clause-answer : goal.returns-in_err-flags_room_outcome-clause-answer
returns-in_err-flags_room_outcome-clause-answer c =
    let q = asking (goal.at.returns-in_err-flags_room_outcome-clause-answer c).Start in
    let why = c.in_err-flags_room_outcome.field-0.0 in
    let is : c.from_residual.result ≡ Err why = search rules in
    rw is (list_stopped q c.args.flags.now c.args.listing.now why c.in_err-flags_room_outcome.ensures)

pub list_posed-requires : goal.list_posed-requires
list_posed-requires c = flags_room_passed _ _ _ (sym c.in_ok-flags_room_outcome.ensures)

pub returns-clause-answer : goal.returns-clause-answer
returns-clause-answer c =
    let q = asking (goal.at.returns-clause-answer c).Start in
    c.list_posed.ensures ∙ list_goes_on q c.args.flags.now c.args.listing.now c.in_ok-flags_room_outcome.ensures
