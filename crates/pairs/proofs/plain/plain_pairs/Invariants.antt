-- What holds each time a loop of `plain::plain_pairs` begins a round; `Answers.antt` says why.
use Rattle.std.proofs.Common.{◌≡◌, ◌+◌, ◌*◌}
use Rattle.pairs.specs.Pairs.Plain.{PlainTo}
use Rattle.pairs.proofs.plain.plain_pairs.Given as goal

abbrev pub invariant-loop-k : goal.invariant-loop-k
invariant-loop-k l =
    (l.end ≡ l.at + 3 * l.k)
    × PlainTo l.text l.carried l.corner l.offsets l.base l.symbols l.listing l.at l.initial.given l.k l.end l.given
