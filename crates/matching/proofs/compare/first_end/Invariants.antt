-- What holds each time a loop of `compare::first_end` begins a round; `Answers.antt` says why.
use Rattle.matching.specs.Compare.Ends.{RowsAgree}
use Rattle.matching.proofs.compare.first_end.Given as goal

abbrev pub invariant-loop-i : goal.invariant-loop-i
invariant-loop-i l = let w = l.fn.c.window in RowsAgree w.text.now w.place l.fn.c.pattern.now l.i l.from l.last
