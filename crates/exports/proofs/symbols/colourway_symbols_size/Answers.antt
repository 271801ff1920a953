-- `size` answers it of the set that the words hold.
-- Assumes nothing.
use Rattle.std.proofs.Common.{◌∙◌, ap}
use Rattle.sets.specs.Symbols.{size_of}
use Rattle.exports.proofs.symbols.colourway_symbols_size.Goals as goal

pub returns : goal.returns
returns c = c.size.ensures ∙ ap size_of c.symbols_in.ensures
