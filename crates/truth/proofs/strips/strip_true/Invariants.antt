-- What holds each time a loop of `strips::strip_true` begins a round; `Answers.antt` says why.
use Rattle.sieve.specs.Sieve.{SpoilerOf}
use Rattle.sweep.specs.Sweep.{RunAt, SweepAt, column_strip}
use Rattle.truth.specs.Truth.{TrueTo}
use Rattle.truth.proofs.strips.strip_true.Given as goal

abbrev pub invariant-loop-top : goal.invariant-loop-top
invariant-loop-top g l =
    let pattern = g.P.Pattern.cells l.pattern in
    record {
      sweep : SweepAt l.text l.s pattern l.first l.own;
      run : RunAt l.text (column_strip l.s l.left) pattern l.last l.run l.top l.s.height;
      spoiler : SpoilerOf pattern l.s.columns l.s.width l.spoiler;
      so_far : TrueTo l.text pattern l.s l.left l.flags l.top;
    }
