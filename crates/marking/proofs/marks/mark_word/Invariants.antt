-- What holds each time the loop of `marks::mark_word` begins a round; `Answers.antt` says why.
use Rattle.std.proofs.Common.{◌≡◌, ◌+◌, ◌-◌}
use Rattle.sets.specs.Symbols.{word_with_mark}
use Rattle.marking.proofs.marks.mark_word.Given as goal

abbrev pub invariant-loop-k : goal.invariant-loop-k
invariant-loop-k l = l.w ≡ word_with_mark l.marks (l.from + l.k) (64 - l.k)
