-- `Occurrences::replace_row` meets its contract: of rows that are alike, what is tracked does not depend on the order; of
-- others the one leaves and then the other enters.
-- Assumes nothing.
use Rattle.std.specs.Cmp.Lexicographic.{same_text}
use Rattle.occurrences.specs.Occurrences.Laws.{alike_replaced}
use Rattle.occurrences.proofs.occurrences.Occurrences.replace_row.Goals as goal

pub returns-then-eq : goal.returns-then-eq
returns-then-eq c = alike_replaced _ _ _ (same_text _ _ c.if-eq.ensures)
