-- `reader::Cursor::read` meets its contract: at or past the end it answers 15 (`reads_spent`); else the byte at the
-- cursor is that of a kind, of which `read_kind` ensures what is asked, or of none (`reads_unknown`).
-- Assumes nothing.
use Rattle.std.proofs.Common.{refl}
use Rattle.reading.specs.Reader.Reading.{reads_spent, reads_unknown}
use Rattle.reading.proofs.reader.Cursor.read.Goals as goal

pub returns-then-listing-at : goal.returns-then-listing-at
returns-then-listing-at c = reads_spent _ _ c.if-listing-at.true

pub returns-in_default : goal.returns-in_default
returns-in_default c = reads_unknown _ _ _ (record { inside = c.if-listing-at.false; kind_is = refl })
    c.in_default.ensures.1
