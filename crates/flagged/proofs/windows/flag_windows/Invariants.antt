-- What holds each time a loop of `windows::flag_windows` begins a round; `Answers.antt` says why.
use Rattle.std.proofs.Common.{◌≡◌, ◌+◌, ◌*◌}
use Rattle.theory.specs.Store.{stored_rows}
use Rattle.shapes.specs.Shapes.{across, down}
use Rattle.sweep.specs.Sweep.{OwnSoFar}
use Rattle.flags.specs.Flags.Strips.{flag_of}
use Rattle.flagging.specs.Links.{RestKept}
use Rattle.flagged.proofs.windows.flag_windows.Given as goal

abbrev pub invariant-loop-left : goal.invariant-loop-left
invariant-loop-left g l =
    let pattern = g.P.Pattern.cells l.pattern in
    record {
      written : l.flags ≡ stored_rows (flag_of l.text pattern l.s) (λ left top. top * across l.s + left) l.left
          (down l.s) l.initial.flags;
      kept : RestKept (l.s.rows * l.s.width) l.initial.links l.links;
      owns : OwnSoFar pattern l.s.width (down l.s) l.own;
    }
