-- What holds each time the loop of `every::list_scales` begins a round; `Answers.antt` says why.
use Rattle.shapes.specs.Questions.{question_in}
use Rattle.flags.specs.Flags.{working}
use Rattle.scales.specs.Every.{ListedTo}
use Rattle.scales.proofs.every.list_scales.Given as goal

abbrev pub invariant-loop-k : goal.invariant-loop-k
invariant-loop-k l =
    ListedTo (question_in l.q) (working l.initial.links l.initial.counts l.initial.flags) l.initial.listing
    l.k (working l.links l.counts l.flags) l.listing l.at
