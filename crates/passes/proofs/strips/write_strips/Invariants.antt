-- What holds each time the loop of `strips::write_strips` begins a round; `Answers.antt` says why.
use Rattle.std.proofs.Common.{◌*◌}
use Rattle.shapes.specs.Shapes.{across, down}
use Rattle.sweep.specs.Sweep.{SweepAt}
use Rattle.listing.specs.Entries.Put.{Heads, Puts}
use Rattle.passes.specs.Strips.{piece_of, RefusedIn}
use Rattle.passes.proofs.strips.write_strips.Given as goal

abbrev pub invariant-loop-left : goal.invariant-loop-left
invariant-loop-left g l =
    let cells = g.P.Pattern.cells l.pattern in
    let piece = piece_of l.text cells l.s in record {
      sweep : SweepAt l.text l.s cells l.first l.own;
      heads : Heads piece (across l.s) (down l.s) l.left l.heads;
      puts : Puts piece (down l.s * across l.s) (RefusedIn l.flags (across l.s) (down l.s) l.left) l.initial.listing
          l.listing;
    }
