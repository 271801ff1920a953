-- What holds each time the loop of `symbols::list_symbols` begins a round, and what falls; `Answers.antt` says why.
use Rattle.std.proofs.Common.{length}
use Rattle.theory.specs.Count.{members}
use Rattle.sets.specs.Symbols.{has}
use Rattle.sets.specs.Symbols.Listed.{Listed}
use Rattle.sets.proofs.symbols.list_symbols.Given as goal

abbrev pub invariant-loop-symbol : goal.invariant-loop-symbol
invariant-loop-symbol l = Listed l.initial.rest l.rest l.initial.listed l.k l.listed

abbrev pub decreases-loop-symbol : goal.decreases-loop-symbol
decreases-loop-symbol l = length (members (has l.rest) 256)
