-- What holds each time a loop of `compose::chain_columns` begins a round; `Answers.antt` says why.
use Rattle.std.proofs.Common.{◌≡◌, ℕ, ◌<◌, length, get_or}
use Rattle.theory.specs.Columns.{through}
use Rattle.composing.proofs.compose.chain_columns.Given as goal

abbrev pub invariant-loop-a : goal.invariant-loop-a
invariant-loop-a l = (length l.r ≡ 256) × ((k : ℕ) → k < l.a → get_or l.r k 0 ≡ through l.g (get_or l.f k 0))
