-- What holds each time a loop of `carries::row_carries` begins a round, and what falls; `Answers.antt` says why.
use Rattle.std.proofs.Common.{◌-◌, ◌≤◌, length}
use Rattle.inheriting.specs.Carries.{RowCarried}
use Rattle.carrying.proofs.carries.row_carries.Given as goal

abbrev pub invariant-loop-j : goal.invariant-loop-j
invariant-loop-j l = (l.j ≤ length l.row) × RowCarried l.m l.row l.cells l.j

abbrev pub decreases-loop-j : goal.decreases-loop-j
decreases-loop-j l = length l.row - l.j
