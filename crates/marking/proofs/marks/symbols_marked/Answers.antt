-- `marks::symbols_marked` meets its contract: four words of 64 marks are the set of what is marked (`marked_words`).
-- Assumes nothing.
use Rattle.sets.specs.Symbols.Marking.{marked_words}
use Rattle.marking.proofs.marks.symbols_marked.Goals as goal

pub returns : goal.returns
returns c =
    marked_words _ _ _ _ _ c.mark_word.ensures c.mark_word-2.ensures c.mark_word-3.ensures
    c.mark_word-4.ensures
