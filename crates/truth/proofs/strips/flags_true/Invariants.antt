-- What holds each time a loop of `strips::flags_true` begins a round; `Answers.antt` says why.
use Rattle.sieve.specs.Sieve.{SpoilerOf}
use Rattle.sweep.specs.Sweep.{SweepAt}
use Rattle.truth.specs.Truth.{StripsTrue}
use Rattle.truth.proofs.strips.flags_true.Given as goal

abbrev pub invariant-loop-left : goal.invariant-loop-left
invariant-loop-left g l =
    let pattern = g.P.Pattern.cells l.pattern in
    record {
      sweep : SweepAt l.text l.s pattern l.first l.own;
      spoiler : SpoilerOf pattern l.s.columns l.s.width l.spoiler;
      so_far : StripsTrue l.text pattern l.s l.flags l.left;
    }
