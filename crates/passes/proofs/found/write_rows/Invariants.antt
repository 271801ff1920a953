-- What holds each time the loop of `found::write_rows` begins a round; `Answers.antt` says why.
use Rattle.std.proofs.Common.{◌≡◌, ◌*◌}
use Rattle.shapes.specs.Shapes.{across, down}
use Rattle.listing.specs.Entries.Put.{Puts, Heads, start_of}
use Rattle.passes.specs.Strips.{piece_of, FoundIn}
use Rattle.passes.proofs.found.write_rows.Given as goal

abbrev pub invariant-loop-top : goal.invariant-loop-top
invariant-loop-top g l =
    let piece = piece_of l.text (g.P.Pattern.cells l.pattern) l.s in record {
      place : l.at ≡ start_of piece (l.top * across l.s);
      heads : Heads piece (across l.s) l.top 0 l.heads;
      puts : Puts piece (down l.s * across l.s) (FoundIn l.flags 0 (l.top * across l.s)) l.initial.listing l.listing;
    }
