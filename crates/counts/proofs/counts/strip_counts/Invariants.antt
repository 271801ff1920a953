-- What holds each time the loop of `counts::strip_counts` begins a round; `Answers.antt` says why.
use Rattle.std.proofs.Common.{◌≡◌, ◌+◌, ◌*◌, ◌<◌}
use Rattle.theory.specs.Store.{stored}
use Rattle.occurrences.specs.Occurrences.{Tracks}
use Rattle.shapes.specs.Shapes.{across}
use Rattle.counts.specs.Counts.{strip_cells, count_in}
use Rattle.counts.proofs.counts.strip_counts.Given as goal

abbrev pub invariant-loop-top : goal.invariant-loop-top
invariant-loop-top l = record {
  tracks : l.top < l.height → Tracks l.occurrences (strip_cells l.text l.s l.top l.left l.s.height);
  written : l.counts ≡ stored (count_in l.text l.s) (λ k. k * across l.s + l.left) l.top l.initial.counts;
}
