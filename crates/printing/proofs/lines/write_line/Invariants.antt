-- What holds each time a loop of `lines::write_line` begins a round; `Answers.antt` says why.
use Rattle.std.proofs.Common.{◌+◌, length, drop}
use Rattle.theory.specs.Written.{written}
use Rattle.theory.specs.Pieces.{Left}
use Rattle.printing.specs.Lines.{line_of}
use Rattle.printing.proofs.lines.write_line.Given as goal

abbrev pub invariant-loop-b : goal.invariant-loop-b
invariant-loop-b l =
    Left (written l.initial.output l.at (line_of l.bytes)) (l.at + length (line_of l.bytes)) l.output l.end
    (line_of (drop l.b-index l.bytes))
