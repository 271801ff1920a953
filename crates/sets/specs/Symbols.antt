-- Document 01's set of the numbers in a motif: 256 bits in four words.
-- Assumes nothing.
pub mod Words
pub mod Blocks
pub mod Patterns
pub mod Taken
pub mod Listed
pub mod Marking
use Rattle.std.specs.Prelude.{◌≡◌, Bool, true, false, List, [], ◌∷◌, ℕ, zero, suc, ◌+◌, ◌*◌, ◌/◌, ◌%◌, ◌^◌, ◌≤◌, ◌<◌, eqb, length, get_or}
use Rattle.std.specs.Prelude.{Option, Some, None}
use Rattle.theory.specs.Test.{pick}
use Rattle.theory.specs.Table.{table}
use Rattle.theory.specs.First.{first}
use Rattle.theory.specs.Count.{count, members}
use Rattle.occurrences.specs.Distinct.{contains}
use Rattle.sets.specs.declared.symbols.Symbols.{Symbols}

-- bit k of a word is 1
pub bit_of : ℕ → ℕ → Bool
bit_of w k = eqb (w / 2 ^ k % 2) 1

-- the word whose n lowest bits are 1 where P holds, and no other
pub word_of : (ℕ → Bool) → ℕ → ℕ
word_of P zero = 0
word_of P (suc n) = pick (P zero) 1 0 + 2 * word_of (λ k. P (suc k)) n

-- a set by its words
abbrev pub with_words : List ℕ → Symbols
with_words ws = record { words = ws }

-- word i of a set: symbols 64 i to 64 i + 63. There are four.
pub word_in : Symbols → ℕ → ℕ
word_in s i = get_or s.words i 0

-- symbol v is in the set
pub has : Symbols → ℕ → Bool
has s v = bit_of (word_in s (v / 64)) (v % 64)

-- the set of the symbols with P
pub set_of : (ℕ → Bool) → Symbols
set_of P = record { words = table (λ i. word_of (λ k. P (64 * i + k)) 64) 4 }

-- the set of a list's symbols
abbrev pub set_of_symbols : List ℕ → Symbols
set_of_symbols xs = set_of (contains xs)

-- the symbols of a pattern, rising
abbrev pub symbols_of : List ℕ → List ℕ
symbols_of pattern = members (contains pattern) 256

-- how many symbols are in the set
abbrev pub size_of : Symbols → ℕ
size_of s = count (has s) 256

-- the lowest one, or 256 where there is none
abbrev pub lowest_of : Symbols → ℕ
lowest_of s = first (has s) 256

-- a symbol as a number: 256 for none
abbrev pub symbol_number : Option ℕ → ℕ
symbol_number (Some v) = v
symbol_number None = 256

-- the set without v
abbrev pub without_symbol : Symbols → ℕ → Symbols
without_symbol s v = set_of (λ u. pick (eqb u v) false (has s u))

-- the first n symbols that 'the lowest, then the set without it' gives, for n up to the set's size
unfoldable pub taken : ℕ → Symbols → List ℕ
taken zero s = []
taken (suc n) s = lowest_of s ∷ taken n (without_symbol s (lowest_of s))

-- What the inner functions' contracts cite.

-- a table with an entry for each symbol, all 0 or 1
pub record Marks (marks : List ℕ) : Type 0 where
  pub long : length marks ≡ 256
  pub bits : (v : ℕ) → v < 256 → get_or marks v 0 ≤ 1

-- the entry is 1 exactly for the symbols that the list has
pub record MarksOf (xs marks : List ℕ) : Type 0 where
  pub long : length marks ≡ 256
  pub each : (v : ℕ) → v < 256 → get_or marks v 0 ≡ pick (contains xs v) 1 0

-- a table with an entry for each symbol: for those that the list has, a place where the symbol stands
pub record PlacesOf (xs places : List ℕ) : Type 0 where
  pub long : length places ≡ 256
  pub each : (k : ℕ) → k < length xs
      → (get_or places (get_or xs k 0) 0 < length xs) × (get_or xs (get_or places (get_or xs k 0) 0) 0 ≡ get_or xs k 0)

-- n marks from place `at` on as a word, the first as its lowest bit
pub word_with_mark : List ℕ → ℕ → ℕ → ℕ
word_with_mark marks at n = word_of (λ k. eqb (get_or marks (at + k) 0) 1) n
