-- What holds each time a loop of `rows::part_end` begins a round, and what falls; `Answers.antt` says why.
use Rattle.std.proofs.Common.{◌+◌, ◌-◌}
use Rattle.rows.specs.Rows.{PassedPart}
use Rattle.rows.proofs.rows.part_end.Given as goal

abbrev pub invariant-loop-j : goal.invariant-loop-j
invariant-loop-j g l =
    record {
      passed : PassedPart (g.P.Pattern.cells l.pattern) (g.T.Pattern.cells l.text) l.begin l.n l.initial.last l.start
          l.from l.j l.last;
      onward : g.P.Pattern.Onward l.pattern l.b (l.from + l.j);
    }

abbrev pub decreases-loop-j : goal.decreases-loop-j
decreases-loop-j g l = l.n - l.j
