-- `entries::write_found` meets its contract: the found record, and behind it the pairs (`found_bytes`).
-- Assumes nothing.
use Rattle.theory.specs.Pieces.{first_room, second_room, both-written}
use Rattle.listing.specs.Records.{bytes_of}
use Rattle.listing.specs.declared.records.Record.TheVariants.{Found}
use Rattle.sets.specs.Symbols.{symbols_of}
use Rattle.entries.specs.Listing.Entries.{images_at}
use Rattle.entries.specs.Listing.Pairs.{pair_bytes, found_bytes}
use Rattle.entries.proofs.entries.write_found.Goals as goal

pub write_record-next-requires : goal.write_record-next-requires
write_record-next-requires g c =
    let a = c.args in
    let cells = g.P.Pattern.cells a.pattern in
    first_room a.listing.now a.at (bytes_of (Found a.w.place.row a.w.place.column))
    (pair_bytes (images_at a.w.text.now a.w.place cells) (symbols_of cells)) _ (found_bytes a.w.text.now a.w.place
    cells) c.requires.3

pub write_pairs-requires : goal.write_pairs-requires
write_pairs-requires g c =
    let a = c.args in
    let cells = g.P.Pattern.cells a.pattern in
    let found = c.write_record-next.ensures in (
      c.requires.1,
      c.requires.2,
      second_room a.listing.now a.at (bytes_of (Found a.w.place.row a.w.place.column))
          (pair_bytes (images_at a.w.text.now a.w.place cells) (symbols_of cells)) _ (found_bytes a.w.text.now
          a.w.place cells)
          c.requires.3 _ _ found.listing_after found.end,
    )

pub returns : goal.returns
returns g c =
    let a = c.args in
    let cells = g.P.Pattern.cells a.pattern in
    let found = c.write_record-next.ensures in
    let pairs = c.write_pairs.ensures in
    let all = both-written a.listing.now a.at (bytes_of (Found a.w.place.row a.w.place.column))
    (pair_bytes (images_at a.w.text.now a.w.place cells) (symbols_of cells)) _ (found_bytes a.w.text.now a.w.place
    cells)
    c.requires.3 _ _ found.listing_after found.end _ _ pairs.listing_after pairs.end in
    record { end = all.0; listing_after = all.1 }
