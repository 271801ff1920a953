-- What holds each time a loop of `repeats` of a slice begins a round.
use Rattle.placed.specs.Blocks.{AlikeFrom}
use Rattle.placed.proofs.pattern.RefSliceU8Pattern.repeats.Given as goal

abbrev pub invariant-loop-n : goal.invariant-loop-n
invariant-loop-n l = AlikeFrom l.self l.p l.n
