-- What holds each time the loop of `found::write_row` begins a round; `Answers.antt` says why.
use Rattle.std.proofs.Common.{◌≡◌, ◌+◌, ◌*◌}
use Rattle.shapes.specs.Shapes.{across, down}
use Rattle.listing.specs.Entries.Put.{Puts, start_of}
use Rattle.passes.specs.Strips.{piece_of, FoundIn}
use Rattle.passes.proofs.found.write_row.Given as goal

abbrev pub invariant-loop-left : goal.invariant-loop-left
invariant-loop-left g l =
    let piece = piece_of l.text (g.P.Pattern.cells l.pattern) l.s in
    let first = l.fn.top * across l.s in record {
      place : l.at ≡ start_of piece (first + l.left);
      puts : Puts piece (down l.s * across l.s) (FoundIn l.flags first (first + l.left)) l.initial.listing l.listing;
    }
