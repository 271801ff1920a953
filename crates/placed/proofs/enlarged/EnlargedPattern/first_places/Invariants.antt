-- What holds each time a loop of `first_places` of an enlargement begins a round; `Answers.antt` says why.
use Rattle.placed.proofs.Laid.{LaidTo}
use Rattle.placed.proofs.enlarged.EnlargedPattern.first_places.Given as goal

abbrev pub invariant-loop-p : goal.invariant-loop-p
invariant-loop-p l = LaidTo l.self.scale l.self.height l.self.width l.initial.first l.p-index l.first
