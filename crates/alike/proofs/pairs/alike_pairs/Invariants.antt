-- What holds each time a loop of `pairs::alike_pairs` begins a round; `Answers.antt` says why.
use Rattle.std.proofs.Common.{◌≤◌}
use Rattle.alike.specs.Pairs.{AlikePairs}
use Rattle.alike.proofs.pairs.alike_pairs.Given as goal

abbrev pub invariant-loop-q : goal.invariant-loop-q
invariant-loop-q g l = record {
  few : l.n ≤ 8;
  alike : AlikePairs (g.P.Pattern.cells l.pattern) l.columns l.width l.pairs;
}
