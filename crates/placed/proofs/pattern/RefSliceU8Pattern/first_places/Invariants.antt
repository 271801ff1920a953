-- What holds each time a loop of `first_places` of a slice begins a round; `Answers.antt` says why.
use Rattle.placed.proofs.Firsts.{FirstsFrom}
use Rattle.placed.proofs.pattern.RefSliceU8Pattern.first_places.Given as goal

abbrev pub invariant-loop-p : goal.invariant-loop-p
invariant-loop-p l = FirstsFrom l.self l.p l.first
