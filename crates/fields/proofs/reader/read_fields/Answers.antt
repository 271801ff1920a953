-- `reader::read_fields` meets its contract: a record is the one that has its bytes (`fields_whole`).
-- Assumes nothing.
use Rattle.std.proofs.Common.{sym, ap, ◌∙◌}
use Rattle.reading.specs.Reader.{Read, read_said}
use Rattle.fields.specs.Reader.{fields_by}
use Rattle.fields.specs.Reader.Laws.{fields_whole}
use Rattle.fields.proofs.reader.read_fields.Goals as goal

pub returns-in-Ok : goal.returns-in-Ok
returns-in-Ok c =
    c.fields_of.ensures ∙ fields_whole c.in-Ok.item c.in-Ok.field-0-1.at c.args.old
    ∙ sym (ap (λ (r : Read). fields_by (read_said r) c.args.old) c.in-Ok.is)
