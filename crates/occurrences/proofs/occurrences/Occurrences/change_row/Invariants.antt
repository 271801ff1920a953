-- What holds each time the loop of `Occurrences::change_row` begins a round, and what falls; `Answers.antt` says why.
use Rattle.std.proofs.Common.{not, eqb, length}
use Rattle.occurrences.specs.Occurrences.{Underway, occurrences_of}
use Rattle.occurrences.proofs.occurrences.Occurrences.change_row.Given as goal

abbrev pub invariant-loop-rest : goal.invariant-loop-rest
invariant-loop-rest g l =
    Underway (not (eqb g.row.ENTERS 0)) l.fn.self l.row (occurrences_of l.self.of l.size) l.rest

abbrev pub decreases-loop-rest : goal.decreases-loop-rest
decreases-loop-rest g l = length l.rest
