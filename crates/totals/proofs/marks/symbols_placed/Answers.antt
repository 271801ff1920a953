-- `marks::symbols_placed` meets its contract: the marks are the pattern's, whichever way they were found, so the set
-- of what is marked is that of its symbols (`marked_set`).
-- Assumes nothing.
use Rattle.std.proofs.Common.{◌∙◌}
use Rattle.sets.specs.Symbols.Marking.{marks_bits, marked_set}
use Rattle.totals.proofs.marks.symbols_placed.Goals as goal

pub symbols_marked-requires : goal.symbols_marked-requires
symbols_marked-requires g c = marks_bits _ _ c.marks_by-marks.ensures.marks

pub returns-clause-set : goal.returns-clause-set
returns-clause-set g c = c.symbols_marked.ensures ∙ marked_set _ _ c.marks_by-marks.ensures.marks
