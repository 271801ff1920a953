-- `symbols::colourway_symbols_lowest` meets its contract: `lowest` answers of the set that the words hold, and none is 256.
-- Assumes nothing.
use Rattle.std.proofs.Common.{◌∙◌, ap, sym}
use Rattle.sets.specs.Symbols.{symbol_number, lowest_of}
use Rattle.exports.proofs.symbols.colourway_symbols_lowest.Goals as goal

pub returns-in-Some : goal.returns-in-Some
returns-in-Some c =
    c.from.ensures ∙ ap symbol_number (sym c.in-Some.is) ∙ c.lowest.ensures ∙ ap lowest_of c.symbols_in.ensures

pub returns-in-None : goal.returns-in-None
returns-in-None c = ap symbol_number (sym c.in-None.is) ∙ c.lowest.ensures ∙ ap lowest_of c.symbols_in.ensures
