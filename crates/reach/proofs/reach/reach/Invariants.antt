-- What holds each time a loop of `reach::reach` begins a round; `Answers.antt` says why.
use Rattle.reach.specs.Reach.Laws.{PartsTo}
use Rattle.reach.proofs.reach.reach.Given as goal

abbrev pub invariant-loop-row : goal.invariant-loop-row
invariant-loop-row g l =
    PartsTo (g.T.Pattern.cells l.text) l.s (g.P.Pattern.cells l.pattern) l.top l.height l.row l.column l.last
