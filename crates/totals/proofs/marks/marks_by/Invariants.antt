-- What holds each time the loop of `marks::marks_by` begins a round; `Answers.antt` says why.
use Rattle.sets.specs.Symbols.Marking.{MarksBelow}
use Rattle.totals.proofs.marks.marks_by.Given as goal

abbrev pub invariant-loop-v : goal.invariant-loop-v
invariant-loop-v g l = MarksBelow (g.P.Pattern.cells l.pattern) l.v l.marks
