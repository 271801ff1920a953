-- What holds each time the loop of `every::count_scales` begins a round; `Answers.antt` says why.
use Rattle.shapes.specs.Questions.{question_in}
use Rattle.flags.specs.Flags.{working}
use Rattle.scales.specs.Every.{CountedTo}
use Rattle.scales.proofs.every.count_scales.Given as goal

abbrev pub invariant-loop-k : goal.invariant-loop-k
invariant-loop-k l =
    CountedTo (question_in l.q) (working l.initial.links l.initial.counts l.initial.flags) l.k
    (working l.links l.counts l.flags) l.sums
