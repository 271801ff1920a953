-- The set of a pattern's symbols: which symbols are in it, and that its size is the number of different symbols in the
-- pattern.
-- Assumes nothing.
use Rattle.std.specs.Prelude.{◌≡◌, true, List, ℕ, ◌≤◌, ◌<◌, length, get_or}
use Rattle.std.proofs.Common.{sym, ap, ◌∙◌, arith}
use Rattle.theory.specs.Count.{members}
use Rattle.theory.specs.Count.Laws.{count_ext, count_le, length-members, members_ext, members_pass}
use Rattle.cells.specs.Windows.{window_cells}
use Rattle.cells.specs.Windows.Laws.{cells_byte}
use Rattle.occurrences.specs.Distinct.{contains, distinct}
use Rattle.occurrences.specs.Distinct.Sets.{distinct_count}
use Rattle.sets.specs.declared.symbols.Symbols.{Symbols}
use Rattle.sets.specs.Symbols.{has, set_of_symbols, symbols_of, size_of}
use Rattle.sets.specs.Symbols.Blocks.{has_set}

-- a symbol is in the set of a pattern exactly if the pattern has it
pub has_symbol_set : (xs : List ℕ) (v : ℕ) → v < 256 → has (set_of_symbols xs) v ≡ contains xs v
has_symbol_set xs v h = has_set (contains xs) v h

-- so the symbols of the set, rising, are the pattern's
pub members-set_of_symbols : (xs : List ℕ) (s : Symbols) → s ≡ set_of_symbols xs → members (has s) 256 ≡ symbols_of xs
members-set_of_symbols xs s e =
    members_ext (has s) (contains xs) 256 (λ v h. ap (λ (t : Symbols). has t v) e ∙ has_symbol_set xs v h)

-- the size is the number of different symbols
pub size_distinct : (xs : List ℕ) → ((i : ℕ) → i < length xs → get_or xs i 0 < 256) → size_of (set_of_symbols xs) ≡ distinct xs
size_distinct xs h = count_ext (has (set_of_symbols xs)) (contains xs) 256 (has_symbol_set xs) ∙ distinct_count xs 256 h

-- a window's distinct count is the size of its symbol set
pub window_size : (text : List ℕ) (columns row column height width : ℕ) → ((k : ℕ) → get_or text k 0 < 256)
    → distinct (window_cells text columns row column height width)
    ≡ size_of (set_of_symbols (window_cells text columns row column height width))
window_size text columns row column height width bytes =
    sym (size_distinct (window_cells text columns row column height width)
    (cells_byte text columns row column height width bytes))

-- there are at most 256 symbols
pub listed_few : (pattern symbols : List ℕ) → symbols ≡ symbols_of pattern → length symbols ≤ 256
listed_few pattern symbols e =
    rw e (omega (arith, length-members (contains pattern) 256, count_le (contains pattern) 256))

-- a listed symbol is a byte, and the pattern has it
pub listed_symbol : (pattern listed : List ℕ) → listed ≡ symbols_of pattern → (k : ℕ) → k < length listed
    → (get_or listed k 0 < 256) × (contains pattern (get_or listed k 0) ≡ true)
listed_symbol pattern listed e k h = rw e (members_pass (contains pattern) 256 k (rw e at h))
