-- What holds each time the loop of `marks::marks_of` begins a round; `Answers.antt` says why.
use Rattle.std.proofs.Common.{take}
use Rattle.sets.specs.Symbols.{MarksOf}
use Rattle.marking.proofs.marks.marks_of.Given as goal

abbrev pub invariant-loop-v : goal.invariant-loop-v
invariant-loop-v l = MarksOf (take l.v-index l.pattern) l.marks
