-- `every::search_scales` meets its contract: refused as its outcome says, nothing is written; else there is room for
-- the search at every scale (`every_passed`), and that is what is done.
-- Assumes nothing.
use Rattle.std.proofs.Common.{◌≡◌, Err, refl, sym, ◌∙◌, rules}
use Rattle.shapes.specs.Questions.{Question, question_in}
use Rattle.searched.specs.Search.{Lent, lend}
use Rattle.scaled.specs.Scaled.Fit.{every_passed}
use Rattle.scaled.specs.Scaled.Outcome.{every_stopped, every_goes}
use Rattle.scales.proofs.every.search_scales.Goals as goal
use Rattle.scales.proofs.every.search_scales.Goals.{Start}

-- what is asked, and what is lent
abbrev asking : Start → Question
asking o = question_in o.args.q

abbrev lending : Start → Lent
lending o = let a = o.args in lend a.links.now a.counts.now a.flags.now a.listing.now

pub returns-in_err-every_room_outcome-clause-answer : goal.returns-in_err-every_room_outcome-clause-answer
returns-in_err-every_room_outcome-clause-answer c =
    let o = (goal.at.returns-in_err-every_room_outcome-clause-answer c).Start in
    let why = c.in_err-every_room_outcome.field-0.0 in
    let is : c.from_residual.result ≡ Err why = search rules in
    rw is (every_stopped (asking o) (lending o) (Err why) why refl c.in_err-every_room_outcome.ensures)

pub search_every-requires : goal.search_every-requires
search_every-requires c = every_passed _ _ _ (sym c.in_ok-every_room_outcome.ensures)

pub returns-clause-answer : goal.returns-clause-answer
returns-clause-answer c =
    let o = (goal.at.returns-clause-answer c).Start in
    c.search_every.ensures ∙ every_goes (asking o) (lending o) (sym c.in_ok-every_room_outcome.ensures)
