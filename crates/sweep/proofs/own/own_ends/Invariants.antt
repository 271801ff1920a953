-- What holds each time a loop of `own::own_ends` begins a round; `Answers.antt` says why.
use Rattle.sweep.specs.Sweep.Own.{OwnRun}
use Rattle.sweep.proofs.own.own_ends.Given as goal

abbrev pub invariant-loop-top : goal.invariant-loop-top
invariant-loop-top g l =
    OwnRun (g.P.Pattern.cells l.pattern) l.height l.width l.rows l.last l.own l.run l.top
