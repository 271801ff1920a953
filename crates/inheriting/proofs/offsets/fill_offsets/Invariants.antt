-- What holds each time a loop of `offsets::fill_offsets` begins a round; `Answers.antt` says why.
use Rattle.inheriting.specs.Offsets.{OffsetsUpTo}
use Rattle.inheriting.proofs.offsets.fill_offsets.Given as goal

abbrev pub invariant-loop-a : goal.invariant-loop-a
invariant-loop-a l = OffsetsUpTo l.columns l.width l.symbols l.first l.a-index l.offsets
