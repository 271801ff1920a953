-- `writing::write_listing` meets its contract: the records of all windows, and behind them the closing, are the whole
-- listing (`listing_whole`).
-- Assumes nothing.
use Rattle.writer.specs.Whole.{windows_room, closing_room, listing_whole}
use Rattle.writer.proofs.writing.write_listing.Goals as goal

pub write_windows-at-requires : goal.write_windows-at-requires
write_windows-at-requires g c = (
  c.requires.0,
  c.requires.4,
  windows_room _ _ c.args.s _ _ c.requires.1 c.requires.2 _ c.requires.3,
)

pub write_record-requires : goal.write_record-requires
write_record-requires g c =
    let e = c.write_windows-at.ensures in
    closing_room _ _ c.args.s _ _ c.requires.1 c.requires.2 _ c.requires.3 _ _ e.end e.listing_after

pub returns : goal.returns
returns g c =
    let e = c.write_windows-at.ensures in
    listing_whole _ _ c.args.s _ _ c.requires.1 c.requires.2 _ c.requires.3 _ _ e.end e.listing_after _
    c.write_record.ensures.listing_after
