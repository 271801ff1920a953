-- How a set of symbols passes to Rust and C: as four words.
-- Assumes nothing.
use Rattle.std.specs.Prelude.{ℕ, List}
use Rattle.sets.specs.Symbols.{with_words}
use Rattle.sets.specs.declared.symbols.Symbols.{Symbols}

-- a set's words, lowest symbols first
abbrev pub word_list : Symbols → List ℕ
word_list s = s.words

-- the set that has these words
abbrev pub symbols_of_words : List ℕ → Symbols
symbols_of_words words = with_words words
