-- What holds each time the loop of `Symbols::lowest` begins a round; `Answers.antt` says why.
use Rattle.std.proofs.Common.{◌≡◌, ◌<◌, ℕ, get_or}
use Rattle.sets.proofs.symbols.Symbols.lowest.Given as goal

abbrev pub invariant-loop-i : goal.invariant-loop-i
invariant-loop-i l = (j : ℕ) → j < l.i → get_or l.fn.self.words j 0 ≡ 0
