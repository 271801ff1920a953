-- `check::check` meets its contract: refused as the shape's own check says, with nothing besides; else the walk's
-- answer is the check's.
-- Assumes nothing.
use Rattle.std.proofs.Common.{sym}
use Rattle.shapes.specs.Questions.{Question, question_in}
use Rattle.shapes.specs.Questions.Laws.{posed}
use Rattle.verify.specs.Answers.{check_walked}
use Rattle.verify.proofs.check.check.Goals as goal
use Rattle.verify.proofs.check.check.Goals.{Start}

-- what is asked
abbrev asking : Start → Question
asking o = question_in o.args.q

pub check_listing-requires : goal.check_listing-requires
check_listing-requires c =
    posed (asking (goal.at.check_listing-requires c).Start) _ (sym c.in_ok-question_outcome.ensures)

pub returns-clause-answer : goal.returns-clause-answer
returns-clause-answer c =
    check_walked (asking (goal.at.returns-clause-answer c).Start) c.args.listing.now c.check_listing.result
    (sym c.in_ok-question_outcome.ensures) c.check_listing.ensures
