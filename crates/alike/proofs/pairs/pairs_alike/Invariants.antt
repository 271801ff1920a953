-- What holds each time a loop of `pairs::pairs_alike` begins a round; `Answers.antt` says why.
use Rattle.std.proofs.Common.{◌≡◌, not, ◌+◌}
use Rattle.theory.specs.Count.{count}
use Rattle.alike.specs.Pairs.{alike_at}
use Rattle.alike.proofs.pairs.pairs_alike.Given as goal

abbrev pub invariant-loop-pair : goal.invariant-loop-pair
invariant-loop-pair l =
    l.unlike ≡ count (λ j. not (alike_at l.text l.corner l.pairs (l.from + j))) l.pair-index
