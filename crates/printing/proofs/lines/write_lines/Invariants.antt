-- What holds each time a loop of `lines::write_lines` begins a round, and what falls; `Answers.antt` says why.
use Rattle.std.proofs.Common.{◌-◌, length}
use Rattle.printing.specs.Lines.Writing.{PrintedTo}
use Rattle.printing.proofs.lines.write_lines.Given as goal

abbrev pub invariant-loop-next : goal.invariant-loop-next
invariant-loop-next l = PrintedTo l.listing l.initial.output l.at l.output l.end l.cursor.at

abbrev pub decreases-loop-next : goal.decreases-loop-next
decreases-loop-next l = length l.listing - l.cursor.at
