-- `reader::Cursor::read_kind` meets its contract: where fewer bytes are left than the kind has, the record is cut
-- (`kind_cut`); else the bytes behind the kind are those of the record that `record_at` answers (`kind_whole`).
-- Assumes nothing.
use Rattle.std.proofs.Common.{arith}
use Rattle.reading.specs.Reader.Reading.{kind_cut, kind_whole}
use Rattle.reading.proofs.reader.Cursor.read_kind.Goals as goal

pub returns-then-listing-at : goal.returns-then-listing-at
returns-then-listing-at c = kind_cut _ _ c.args.kind c.requires (omega arith)

pub returns : goal.returns
returns c =
    rw c.size-size.ensures (kind_whole _ _ c.args.kind _ c.requires (omega arith) c.record_at-item.ensures)
