-- `Occurrences::change_row` meets its contract. The invariant: what is left of the row may still be dealt with, and
-- with it the whole row is. Each round deals with two symbols.
-- Assumes nothing.
use Rattle.occurrences.specs.Occurrences.Laws.{underway_two}
use Rattle.occurrences.proofs.occurrences.Occurrences.change_row.Goals as goal

pub loop-rest-preserved : goal.loop-rest-preserved
loop-rest-preserved g c =
    underway_two _ _ _ _ _ _ _ c.in-len2-up.len_at_least c.loop-rest.invariant c.change-size.ensures
    c.change-size-in-len2-up.ensures
