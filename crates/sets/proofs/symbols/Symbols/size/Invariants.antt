-- What holds each time the loop of `Symbols::size` begins a round; `Answers.antt` says why.
use Rattle.std.proofs.Common.{◌≡◌, ◌*◌}
use Rattle.theory.specs.Count.{count}
use Rattle.sets.specs.Symbols.{has}
use Rattle.sets.proofs.symbols.Symbols.size.Given as goal

abbrev pub invariant-loop-w : goal.invariant-loop-w
invariant-loop-w l = l.n ≡ count (has l.fn.self) (64 * l.w-index)
