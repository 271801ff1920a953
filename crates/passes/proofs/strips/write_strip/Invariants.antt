-- What holds each time the loop of `strips::write_strip` begins a round; `Answers.antt` says why.
use Rattle.std.proofs.Common.{◌*◌}
use Rattle.shapes.specs.Shapes.{across, down}
use Rattle.listing.specs.Entries.Put.{HeadsTo, Puts}
use Rattle.sweep.specs.Sweep.{SweepAt, RunAt}
use Rattle.sweep.specs.Sweep.{column_strip}
use Rattle.passes.specs.Strips.{piece_of, RefusedHere}
use Rattle.passes.proofs.strips.write_strip.Given as goal

abbrev pub invariant-loop-top : goal.invariant-loop-top
invariant-loop-top g l =
    let cells = g.P.Pattern.cells l.pattern in
    let piece = piece_of l.text cells l.s in record {
      sweep : SweepAt l.text l.s cells l.first l.own;
      run : RunAt l.text (column_strip l.s l.left) cells l.last l.run l.top l.s.height;
      heads : HeadsTo piece (across l.s) (down l.s) l.left l.top l.heads;
      puts : Puts piece (down l.s * across l.s) (RefusedHere l.flags (across l.s) l.left l.top) l.initial.listing
          l.listing;
    }
