-- What holds each time the loop of `entries::write_pairs` begins a round; `Answers.antt` says why.
use Rattle.std.proofs.Common.{◌+◌, length, drop}
use Rattle.theory.specs.Written.{written}
use Rattle.theory.specs.Pieces.{Left}
use Rattle.sets.specs.Symbols.{symbols_of}
use Rattle.entries.specs.Listing.Entries.{images_at}
use Rattle.entries.specs.Listing.Pairs.{pair_bytes}
use Rattle.entries.proofs.entries.write_pairs.Given as goal

abbrev pub invariant-loop-place : goal.invariant-loop-place
invariant-loop-place g l =
    let cells = g.P.Pattern.cells l.fn.pattern in
    let bytes = pair_bytes (images_at l.fn.w.text.now l.fn.w.place cells) in
    Left (written l.initial.listing l.fn.at (bytes (symbols_of cells))) (l.fn.at + length (bytes (symbols_of cells)))
    l.listing l.end (bytes (drop l.place-index (symbols_of cells)))
