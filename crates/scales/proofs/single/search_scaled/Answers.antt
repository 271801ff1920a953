-- `single::search_scaled` meets its contract: refused as its outcome says, nothing is written; else there is room for
-- the search for the enlarged pattern (`scaled_passed`), and that is what is done.
-- Assumes nothing.
use Rattle.std.proofs.Common.{◌≡◌, Err, refl, sym, ◌∙◌, rules}
use Rattle.shapes.specs.Questions.{Question, question_in}
use Rattle.searched.specs.Search.{Lent, lend}
use Rattle.scaled.specs.Scaled.Fit.{scaled_passed}
use Rattle.scaled.specs.Scaled.Outcome.{scaled-stopped, scaled_goes}
use Rattle.scales.proofs.single.search_scaled.Goals as goal
use Rattle.scales.proofs.single.search_scaled.Goals.{Start}

-- what is asked, and what is lent
abbrev asking : Start → Question
asking o = question_in o.args.q

abbrev lending : Start → Lent
lending o = let a = o.args in lend a.links.now a.counts.now a.flags.now a.listing.now

pub returns-in_err-scaled_room_outcome-clause-answer : goal.returns-in_err-scaled_room_outcome-clause-answer
returns-in_err-scaled_room_outcome-clause-answer c =
    let o = (goal.at.returns-in_err-scaled_room_outcome-clause-answer c).Start in
    let why = c.in_err-scaled_room_outcome.field-0.0 in
    let is : c.from_residual.result ≡ Err why = search rules in
    rw is
    (scaled-stopped c.args.scale (asking o) (lending o) (Err why) why refl c.in_err-scaled_room_outcome.ensures)

pub search_enlarged-requires : goal.search_enlarged-requires
search_enlarged-requires c = scaled_passed _ _ _ _ (sym c.in_ok-scaled_room_outcome.ensures)

pub returns-clause-answer : goal.returns-clause-answer
returns-clause-answer c =
    let o = (goal.at.returns-clause-answer c).Start in
    c.search_enlarged.ensures
    ∙ scaled_goes c.args.scale (asking o) (lending o) (sym c.in_ok-scaled_room_outcome.ensures)
