-- `Question::question_outcome` meets its contract: what is said of the cells stands between 2 and 4.
-- Assumes nothing.
use Rattle.std.proofs.Common.{◌∙◌, ap}
use Rattle.refusals.specs.Said.{Said, ◌then◌}
use Rattle.shapes.specs.Questions.{shape_said, sides_said, size_said}
use Rattle.shapes.proofs.question.Question.question_outcome.Goals as goal

pub returns : goal.returns
unfolding shape_said
returns c =
    let s = c.args.self.shape in
    c.in_order.ensures ∙ ap (λ (a : Said). sides_said s then a then size_said s) c.cells_outcome.ensures
