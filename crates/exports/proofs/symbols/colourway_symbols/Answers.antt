-- The words are those of the set that `symbol_set` answers.
-- Assumes nothing.
use Rattle.std.proofs.Common.{◌∙◌, ap}
use Rattle.values.specs.Symbols.{word_list}
use Rattle.exports.proofs.symbols.colourway_symbols.Goals as goal

pub returns : goal.returns
returns c = c.words_of.ensures ∙ ap word_list c.symbol_set.ensures
