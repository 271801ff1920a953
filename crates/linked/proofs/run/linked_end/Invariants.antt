-- What holds each time a loop of `run::linked_end` begins a round; `Answers.antt` says why.
use Rattle.linked.specs.Run.{Compared}
use Rattle.linked.proofs.run.linked_end.Given as goal

abbrev pub invariant-loop-p : goal.invariant-loop-p
invariant-loop-p g l = Compared (g.P.Pattern.cells l.pattern) l.links l.start l.from l.p
