-- `search::search` meets its contract: refused as its outcome says, nothing is written; else the rest of the chain is
-- 11 or nothing (`search_windows`).
-- Assumes nothing.
use Rattle.std.proofs.Common.{◌≡◌, Err, refl, sym, ◌∙◌, rules}
use Rattle.shapes.specs.Questions.{Question, question_in}
use Rattle.searched.specs.Search.{Lent, lend}
use Rattle.searched.specs.Search.Accepted.{search_stopped, search_goes}
use Rattle.rooms.specs.Rooms.Laws.{room_passed}
use Rattle.search.proofs.search.search.Goals as goal
use Rattle.search.proofs.search.search.Goals.{Start}

-- what is asked, and what is lent
abbrev asking : Start → Question
asking o = question_in o.args.q

abbrev lending : Start → Lent
lending o = let a = o.args in lend a.links.now a.counts.now a.flags.now a.listing.now

pub returns-in_err-room_outcome-clause-answer : goal.returns-in_err-room_outcome-clause-answer
returns-in_err-room_outcome-clause-answer c =
    let o = (goal.at.returns-in_err-room_outcome-clause-answer c).Start in
    let why = c.in_err-room_outcome.field-0.0 in
    let is : c.from_residual.result ≡ Err why = search rules in
    rw is (search_stopped (asking o) (lending o) (Err why) why refl c.in_err-room_outcome.ensures)

pub search_windows-requires : goal.search_windows-requires
search_windows-requires c = room_passed _ _ _ (sym c.in_ok-room_outcome.ensures)

pub returns-clause-answer : goal.returns-clause-answer
returns-clause-answer c =
    let o = (goal.at.returns-clause-answer c).Start in
    c.search_windows.ensures ∙ search_goes (asking o) (lending o) (sym c.in_ok-room_outcome.ensures)
