-- Document 01's output: 'a record a line, its bytes in decimal with one space between, line feed. A refusal prints the
-- word refused, one space and the number, alone on a line.' Bytes are ASCII: 32 is the space, 10 the line feed.
-- Assumes nothing.
pub mod Writing
pub mod Unique
pub mod Front
use Rattle.std.specs.Prelude.{◌≡◌, List, [], ◌∷◌, ◌++◌, ℕ, ◌+◌, length}
use Rattle.theory.specs.Written.{written}
use Rattle.listing.specs.Records.{bytes_of}
use Rattle.listing.specs.Entries.{bytes_all}
use Rattle.listing.specs.declared.records.Record.{Record}
use Rattle.printing.specs.Decimal.{decimal}

-- bytes in decimal with one space between, and the line feed
unfoldable pub line_of : List ℕ → List ℕ
line_of [] = 10 ∷ []
line_of (b ∷ []) = decimal b ++ (10 ∷ [])
line_of (b ∷ c ∷ bytes) = decimal b ++ (32 ∷ []) ++ line_of (c ∷ bytes)

-- a record a line
unfoldable pub lines_of : List Record → List ℕ
lines_of [] = []
lines_of (r ∷ rs) = line_of (bytes_of r) ++ lines_of rs

-- the word refused and one space
abbrev pub refused_word : List ℕ
refused_word = 114 ∷ 101 ∷ 102 ∷ 117 ∷ 115 ∷ 101 ∷ 100 ∷ 32 ∷ []

-- a refusal: the word, one space, the number, alone on a line
unfoldable pub refusal_line : ℕ → List ℕ
refusal_line number = refused_word ++ (decimal number ++ (10 ∷ []))

-- What the contracts cite.

-- a listing that holds the bytes of records and nothing else
pub record Recorded (listing : List ℕ) : Type 0 where
  pub records : List Record
  pub bytes_are : listing ≡ bytes_all records

-- a buffer once the lines of a listing's records are written at a place, and the place after them
pub record Printed (listing old : List ℕ) (at : ℕ) (new : List ℕ) (end : ℕ) : Type 0 where
  pub end_is : (records : List Record) → listing ≡ bytes_all records → end ≡ at + length (lines_of records)
  pub output_is : (records : List Record) → listing ≡ bytes_all records → new ≡ written old at (lines_of records)
