-- What holds each time a loop of `bijections::leads_back` begins a round; `Answers.antt` says why.
use Rattle.std.proofs.Common.{ℕ, ◌<◌, get_or}
use Rattle.theory.specs.Columns.{Back}
use Rattle.mapping.proofs.bijections.leads_back.Given as goal

abbrev pub invariant-loop-a : goal.invariant-loop-a
invariant-loop-a l = (k : ℕ) → k < l.a → Back l.g (get_or l.f k 0) k
