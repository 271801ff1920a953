-- What an answer of the reader says. Number and values determine it, so two answers for one place are the same
-- (`reads_is`); a whole record stands in the listing byte for byte (`read_whole`); and a refusal says why there is none
-- (`read_refused`). Number and values are taken back to the answer, by a function of each: so no two records have the
-- same bytes.
-- Assumes nothing.
use Rattle.std.proofs.Common.{◌≡◌, refl, Bool, true, false, List, [], ◌∷◌, ℕ, ◌+◌, ◌≤◌, ◌<◌, ltb, length, get_or, take}
use Rattle.std.proofs.Common.{drop, Ok, Err, sym, ◌∙◌, ap, div-add-mod', arith, length-drop, length-take-le}
use Rattle.theory.specs.Test.{Tested, holds, fails}
use Rattle.theory.specs.Test.Laws.{lt_tested, says_true}
use Rattle.refusals.specs.Refusals.Laws.{refusal_by, refusal_by_lem}
use Rattle.refusals.specs.Refusals.{number_of, values_of}
use Rattle.refusals.specs.Said.{Said, accepts, refuses, ◌then◌, check_with, said_values, refusal_said}
use Rattle.refusals.specs.Said.Laws.{not_accepted, check_passed}
use Rattle.refusals.specs.declared.refusals.Refusal.{Refusal}
use Rattle.refusals.specs.declared.refusals.Refusal.TheVariants.{ListingForm, CursorSpent}
use Rattle.listing.specs.Records.{bytes_of, record_from_bytes}
use Rattle.reading.specs.Reader.{Read, read_said, size_at, whole_at, whole_values, cursor_said}
use Rattle.reading.specs.Reader.Reading.{HasRecord, whole_tested, has_inside, said_whole, reads_spent, reads_form}
use Rattle.listing.specs.declared.records.Side.TheVariants.{Pattern, Window}
use Rattle.listing.specs.declared.records.Record.{Record}
use Rattle.listing.specs.declared.records.Record.TheVariants.{Found, Pair, Mismatch}
use Rattle.listing.specs.declared.records.Record.TheVariants.{Closing}
use Rattle.reading.specs.declared.reader.Cursor.{Cursor}

-- ---- a record by its bytes

-- it is the record that has them
pub record_of : (r : Record) → record_from_bytes (bytes_of r) ≡ r
unfolding record_from_bytes
record_of (Found row column) = refl
record_of (Pair pattern text) = refl
record_of (Mismatch Pattern body) = refl
record_of (Mismatch Window body) = refl
record_of (Closing found refused) = rw (div-add-mod' found 256, div-add-mod' refused 256)

-- no two records have the same bytes
pub bytes_injective : (r s : Record) → bytes_of r ≡ bytes_of s → r ≡ s
bytes_injective r s e = sym (record_of r) ∙ ap record_from_bytes e ∙ record_of s

-- ---- an answer by what it says

-- by its number and values
read_by : Said → Read
read_by (accepts v) = Ok (record_from_bytes (drop 1 v), record { at = get_or v 0 0 })
read_by (refuses n v) = Err (refusal_by n v)

-- the reader's refusals return the place
cursor_place : (listing : List ℕ) (at : ℕ) (why : Refusal) → refusal_said why ≡ cursor_said listing at
    → values_of why ≡ at ∷ []
unfolding cursor_said
cursor_place listing at why e = go (ltb at (length listing)) (whole_at listing at) e
  where
    go : (a b : Bool) → refusal_said why ≡ check_with a 15 (at ∷ []) then check_with b 6 (at ∷ []) then accepts
        (whole_values listing at) → values_of why ≡ at ∷ []
    go true true e = absurd (not_accepted (number_of why) (values_of why) (whole_values listing at) e)
    go true false e = ap said_values e
    go false b e = ap said_values e

read_by_lem : (listing : List ℕ) (at : ℕ) (q : Read) → read_said q ≡ cursor_said listing at
    → q ≡ read_by (cursor_said listing at)
unfolding read_by
read_by_lem listing at (Ok (r, next)) h = sym (ap read_by (sym h) ∙ ap (λ (s : Record). Ok (s, next)) (record_of r))
read_by_lem listing at (Err why) h =
    sym (ap read_by (sym h) ∙ ap Err (refusal_by_lem why at (cursor_place listing at why h)))

-- what reading at a place answers is determined
pub reads_is : (listing : List ℕ) (at : ℕ) (p q : Read) → read_said p ≡ cursor_said listing at
    → read_said q ≡ cursor_said listing at → p ≡ q
reads_is listing at p q h k = read_by_lem listing at p h ∙ sym (read_by_lem listing at q k)

-- ---- what a caller of the reader learns

-- a whole record: its bytes stand at the place, inside the listing, and the next cursor is behind them
pub record WholeAt (listing : List ℕ) (at : ℕ) (r : Record) (next : Cursor) : Type 0 where
  pub inside : at < length listing
  pub next_is : next.at ≡ at + length (bytes_of r)
  pub bytes_are : take (length (bytes_of r)) (drop at listing) ≡ bytes_of r
  pub within : next.at ≤ length listing

-- a refusal: 15 at or past the end, 6 inside where no whole record stands, each with the place
pub data RefusedAt (listing : List ℕ) (at : ℕ) : Refusal → Type 0 where
  spent : length listing ≤ at → RefusedAt listing at (CursorSpent at)
  form : at < length listing → (HasRecord listing at → ⊥) → RefusedAt listing at (ListingForm at)

module _ (listing : List ℕ) (at : ℕ) where
  -- where reading is accepted, a whole record stands
  has_record : (values : List ℕ) → cursor_said listing at ≡ accepts values → HasRecord listing at
  unfolding cursor_said
  has_record values e =
      let a = check_passed (ltb at (length listing)) 15 (at ∷ [])
      (check_with (whole_at listing at) 6 (at ∷ []) then accepts (whole_values listing at)) values e in
      says_true (whole_tested listing at)
      (check_passed (whole_at listing at) 6 (at ∷ []) (accepts (whole_values listing at)) values a.1).0

  pub read_whole : (r : Record) (next : Cursor) → read_said (Ok (r, next)) ≡ cursor_said listing at
      → WholeAt listing at r next
  read_whole r next h =
      let has : HasRecord listing at = has_record (next.at ∷ bytes_of r) (sym h) in
      let both_are : next.at ∷ bytes_of r
      ≡ (at + size_at listing at) ∷ take (size_at listing at) (drop at listing) = ap said_values
      (h ∙ said_whole listing at has) in
      let after : next.at ≡ at + size_at listing at = cc in
      let bytes : bytes_of r ≡ take (size_at listing at) (drop at listing) = cc in
      let size : length (bytes_of r) ≡ size_at listing at =
      ap length bytes ∙ length-take-le (size_at listing at) (drop at listing)
      (rw length-drop (omega (arith, has.within))) in
      record {
        inside = has_inside listing at has;
        next_is = after ∙ ap (λ (n : ℕ). at + n) (sym size);
        bytes_are = rw size (sym bytes);
        within = omega (arith, has.within);
      }

  refused_by : {b c : Bool} (why : Refusal) → Tested (at < length listing) b → Tested (HasRecord listing at) c
      → read_said (Err why) ≡ cursor_said listing at → RefusedAt listing at why
  refused_by why (holds h) (holds r) q =
      absurd (not_accepted (number_of why) (values_of why) (whole_values listing at) (q ∙ said_whole listing at r))
  refused_by why (holds h) (fails n) q =
      let same : Err why ≡ Err (ListingForm at) = reads_is listing at _ _ q (reads_form listing at h n) in
      let why_is : why ≡ ListingForm at = cc in
      rw why_is (form h n)
  refused_by why (fails n) t q =
      let past : length listing ≤ at = omega arith in
      let same : Err why ≡ Err (CursorSpent at) = reads_is listing at _ _ q (reads_spent listing at past) in
      let why_is : why ≡ CursorSpent at = cc in
      rw why_is (spent past)

  pub read_refused : (why : Refusal) → read_said (Err why) ≡ cursor_said listing at → RefusedAt listing at why
  read_refused why q = refused_by why (lt_tested at (length listing)) (whole_tested listing at) q

  -- whatever the refusal, no whole record stands there
  refused_none_by : (why : Refusal) → RefusedAt listing at why → HasRecord listing at → ⊥
  refused_none_by why (spent h) r = let inside = has_inside listing at r in omega arith
  refused_none_by why (form h n) r = n r

  pub refused_none : (why : Refusal) → read_said (Err why) ≡ cursor_said listing at → HasRecord listing at → ⊥
  refused_none why q = refused_none_by why (read_refused why q)
