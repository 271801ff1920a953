-- What holds each time a loop of `carries::rows_carry` begins a round; `Answers.antt` says why.
use Rattle.inheriting.specs.Carries.{RowsCarried}
use Rattle.carrying.proofs.carries.rows_carry.Given as goal

abbrev pub invariant-loop-i : goal.invariant-loop-i
invariant-loop-i l = RowsCarried l.m l.i
