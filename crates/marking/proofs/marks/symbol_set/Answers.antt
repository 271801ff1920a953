-- `marks::symbol_set` meets its contract: the marks are the pattern's, so the set of what is marked is that of its
-- symbols (`marked_set`).
-- Assumes nothing.
use Rattle.std.proofs.Common.{◌∙◌}
use Rattle.sets.specs.Symbols.Marking.{marks_bits, marked_set}
use Rattle.marking.proofs.marks.symbol_set.Goals as goal

pub symbols_marked-requires : goal.symbols_marked-requires
symbols_marked-requires c = marks_bits _ _ c.marks_of-marks.ensures

pub returns : goal.returns
returns c = c.symbols_marked.ensures ∙ marked_set _ _ c.marks_of-marks.ensures
