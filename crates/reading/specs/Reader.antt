-- Document 01's reader: a record with the cursor after it, or 6 for an unknown kind or a cut record, or 15.
-- Assumes nothing.
pub mod Reading
pub mod Answers
pub mod RoundTrip
use Rattle.std.proofs.Common.{◌≡◌, Bool, List, [], ◌∷◌, ℕ, zero, suc, ◌+◌, ◌<◌, ltb, leb, length, get_or, take, drop}
use Rattle.std.proofs.Common.{Result}
use Rattle.theory.specs.Test.{both}
use Rattle.refusals.specs.Said.{Said, accepts, ◌then◌, check_with, answer_said}
use Rattle.refusals.specs.declared.refusals.Refusal.{Refusal}
use Rattle.listing.specs.Records.{bytes_of, kind_size}
use Rattle.listing.specs.declared.records.Record.{Record}
use Rattle.reading.specs.declared.reader.Cursor.{Cursor}

-- what the reader answers: a whole record with the cursor after it, or the refusal
abbrev pub Read : Type 0
Read = Result (Record × Cursor) Refusal

-- document 01's number and values of an answer: the place after the record and the record's bytes; of a refusal its
-- number and the cursor's place
abbrev pub read_said : Read → Said
read_said = answer_said (λ (whole : Record × Cursor). whole.1.at ∷ bytes_of whole.0)

-- how long the record at a place is, by its kind
abbrev pub size_at : List ℕ → ℕ → ℕ
size_at listing at = kind_size (get_or listing at 0)

-- a whole record stands there: its kind is known and its bytes are all in the listing
abbrev pub whole_at : List ℕ → ℕ → Bool
whole_at listing at = both (ltb 0 (size_at listing at)) (leb (at + size_at listing at) (length listing))

-- the place after the record at a place, and its bytes: the listing's next bytes, as many as the record has
abbrev pub whole_values : List ℕ → ℕ → List ℕ
whole_values listing at = (at + size_at listing at) ∷ take (size_at listing at) (drop at listing)

-- 15 at or past the end, then 6, both with the place; else the record
unfoldable pub cursor_said : List ℕ → ℕ → Said
cursor_said listing at =
    check_with (ltb at (length listing)) 15 (at ∷ []) then check_with (whole_at listing at) 6 (at ∷ []) then accepts
    (whole_values listing at)

-- What the inner functions' contracts cite: a byte of that kind stands at the place.
pub record KindAt (listing : List ℕ) (at kind : ℕ) : Type 0 where
  pub inside : at < length listing
  pub kind_is : get_or listing at 0 ≡ kind

-- the n bytes that stand k places behind `at`, and on. On a size that is written out it computes to the loads
-- themselves.
abbrev pub bytes_from : List ℕ → ℕ → ℕ → ℕ → List ℕ
bytes_from listing at k zero = []
bytes_from listing at k (suc n) = get_or listing (at + k) 0 ∷ bytes_from listing at (suc k) n
