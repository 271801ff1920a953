-- The words are those of the set that `without` makes of the set that the words held.
-- Assumes nothing.
use Rattle.std.proofs.Common.{◌∙◌, ap}
use Rattle.sets.specs.Symbols.{without_symbol}
use Rattle.sets.specs.declared.symbols.Symbols.{Symbols}
use Rattle.values.specs.Symbols.{word_list}
use Rattle.exports.proofs.symbols.colourway_symbols_without.Goals as goal

pub returns : goal.returns
returns c =
    let v = c.args.v in
    let held = ap (λ (s : Symbols). without_symbol s v) c.symbols_in.ensures in
    c.words_of.ensures ∙ ap word_list (c.without.ensures ∙ held)
