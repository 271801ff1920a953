-- What stands in a listing for one window, as records and as bytes: the records of an answer, be it the search's own or
-- another that is true.
-- Assumes nothing.
pub mod Laws
pub mod Put
use Rattle.std.specs.Prelude.{◌≡◌, Bool, true, false, List, [], ◌∷◌, ◌++◌, ◌↔◌, ℕ, ◌/◌, ◌%◌, ◌<◌, length, get_or}
use Rattle.theory.specs.Count.{Entry, Rising}
use Rattle.theory.specs.Match.{Maps, Answer, matched, mismatched}
use Rattle.listing.specs.Records.{bytes_of}
use Rattle.listing.specs.declared.records.Place.{Place}
use Rattle.listing.specs.declared.records.MismatchBody.{MismatchBody}
use Rattle.listing.specs.declared.records.Side.{Side}
use Rattle.listing.specs.declared.records.Side.TheVariants.{Pattern, Window}
use Rattle.listing.specs.declared.records.Record.{Record}
use Rattle.listing.specs.declared.records.Record.TheVariants.{Found, Pair, Mismatch}

-- the bytes of records, one after another
unfoldable pub bytes_all : List Record → List ℕ
bytes_all [] = []
bytes_all (r ∷ rs) = bytes_of r ++ bytes_all rs

-- a pair for each symbol of a list, with its image
unfoldable pub pairs_of : (ℕ → ℕ) → List ℕ → List Record
pairs_of image [] = []
pairs_of image (a ∷ symbols) = Pair a (image a) ∷ pairs_of image symbols

-- a cell of the pattern, by its position row by row
abbrev pub cell_at : ℕ → ℕ → Place
cell_at width p = record { row = p / width; column = p % width }

-- the window at (row, column) and the cells at two positions of a pattern of that width
abbrev pub mismatch_body_at : ℕ → ℕ → ℕ → ℕ → ℕ → MismatchBody
mismatch_body_at row column width q p =
    record { window = record { row = row; column = column }; earlier = cell_at width q; later = cell_at width p }

-- the side by whether the two cells are alike in the pattern
abbrev pub side_alike : Bool → Side
side_alike true = Pattern
side_alike false = Window

-- and the other way
abbrev pub in_pattern : Side → Bool
in_pattern Pattern = true
in_pattern Window = false

-- kind 3 where the two cells are alike in the pattern only, kind 4 where alike in the window only
abbrev pub mismatch_record : Bool → MismatchBody → Record
mismatch_record alike body = Mismatch (side_alike alike) body

-- the records of the window at (row, column) with that answer: found, and a pair for each of the pattern's symbols; or
-- the mismatch
unfoldable pub entry_of : ℕ → ℕ → ℕ → List ℕ → (ℕ → ℕ) → Answer → List Record
entry_of row column width symbols image matched = Found row column ∷ pairs_of image symbols
entry_of row column width symbols image (mismatched side q p) =
    mismatch_record side (mismatch_body_at row column width q p) ∷ []

-- a found window's pairs are right: one for each symbol of the pattern, rising, and their images carry the pattern onto
-- the window w, one-to-one
pub record RightPairs (pattern : List ℕ) (w : ℕ → ℕ) (n : ℕ) (symbols : List ℕ) (image : ℕ → ℕ) : Type 0 where
  pub rising : Rising symbols
  pub just : (a : ℕ) → Entry symbols a ↔ ((p : ℕ) × (p < length pattern) × (get_or pattern p 0 ≡ a))
  pub maps : Maps (λ p. get_or pattern p 0) w n image
