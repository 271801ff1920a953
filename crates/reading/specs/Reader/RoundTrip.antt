-- Reading what the writer wrote gives the record back, for every record and wherever it stands.
-- A record's first byte is its kind, and the kind says how many bytes the record has; so at the place where a record's
-- bytes begin a whole record stands, and its bytes are those. No two records have the same bytes (`bytes_injective`),
-- hence the answer is that record. No range is asked of a record's numbers: a closing's number is 256 times its high
-- byte and its low byte, however large it is.
-- Assumes nothing.
use Rattle.std.specs.Prelude.{◌≡◌, List, [], ◌∷◌, ◌++◌, ℕ, ◌+◌, ◌≤◌, ◌<◌, length, get_or, take, drop, Ok}
use Rattle.std.proofs.Common.{sym, ◌∙◌, ap, append_assoc, arith, length-append, length-take-le}
use Rattle.std.proofs.Math.Seq.{take-append_seam, drop-append_seam, get_or-append_seam}
use Rattle.theory.specs.Written.{written}
use Rattle.listing.specs.Records.{bytes_of, kind_of, kind_size}
use Rattle.listing.specs.Records.Kinds.{size_known, first_is, length_is}
use Rattle.listing.specs.Entries.{bytes_all}
use Rattle.listing.specs.Entries.Laws.{bytes_cons, bytes_append}
use Rattle.refusals.specs.Said.{accepts}
use Rattle.reading.specs.Reader.{Read, read_said, size_at, cursor_said}
use Rattle.reading.specs.Reader.Reading.{HasRecord, said_whole}
use Rattle.reading.specs.Reader.Answers.{reads_is}
use Rattle.listing.specs.declared.records.Side.TheVariants.{Pattern, Window}
use Rattle.listing.specs.declared.records.Record.{Record}
use Rattle.listing.specs.declared.records.Record.TheVariants.{Found, Pair, Mismatch}
use Rattle.listing.specs.declared.records.Record.TheVariants.{Closing}

-- ---- a record's bytes

-- a record has at least its kind
pub bytes_some : (r : Record) → 0 < length (bytes_of r)
bytes_some (Found row column) = omega arith
bytes_some (Pair pattern text) = omega arith
bytes_some (Mismatch Pattern body) = omega arith
bytes_some (Mismatch Window body) = omega arith
bytes_some (Closing found refused) = omega arith

-- and is as long as the kind says
pub size_is : (r : Record) → kind_size (get_or (bytes_of r) 0 0) ≡ length (bytes_of r)
size_is r = ap kind_size (first_is r) ∙ size_known (kind_of r) ∙ sym (length_is r)

-- ---- bytes in the middle of a listing

module _ (xs b ys : List ℕ) where
  -- their first byte is where they begin
  first_byte : 0 < length b → get_or (xs ++ b ++ ys) (length xs) 0 ≡ get_or b 0 0
  first_byte h = rw (append_assoc xs b ys) (head b h)
    where
      head : (b : List ℕ) → 0 < length b → get_or (xs ++ (b ++ ys)) (length xs) 0 ≡ get_or b 0 0
      head [] h = absurd (omega arith)
      head (y ∷ b) h = get_or-append_seam xs y (b ++ ys) 0

  middle : take (length b) (drop (length xs) (xs ++ b ++ ys)) ≡ b
  middle = rw (append_assoc xs b ys, drop-append_seam xs (b ++ ys), take-append_seam b ys)

  length_middle : length (xs ++ b ++ ys) ≡ length xs + length b + length ys
  length_middle = rw (length-append (xs ++ b) ys, length-append xs b)

-- ---- the round trip

module _ (xs ys : List ℕ) (r : Record) where
  size_there : size_at (xs ++ bytes_of r ++ ys) (length xs) ≡ length (bytes_of r)
  size_there = ap kind_size (first_byte xs (bytes_of r) ys (bytes_some r)) ∙ size_is r

  stands : HasRecord (xs ++ bytes_of r ++ ys) (length xs)
  stands =
      let some = bytes_some r in
      let size = size_there in
      let long = length_middle xs (bytes_of r) ys in
      record { known = omega arith; within = omega arith }

  -- where a record's bytes stand, reading gives the place after the record and its bytes
  pub round_trip_said : cursor_said (xs ++ bytes_of r ++ ys) (length xs)
      ≡ accepts ((length xs + length (bytes_of r)) ∷ bytes_of r)
  round_trip_said =
      said_whole (xs ++ bytes_of r ++ ys) (length xs) stands
      ∙ rw size_there (ap (λ (b : List ℕ). accepts ((length xs + length (bytes_of r)) ∷ b)) (middle xs (bytes_of r) ys))

  pub round_trip_reads : read_said (Ok (r, record { at = length xs + length (bytes_of r) }))
      ≡ cursor_said (xs ++ bytes_of r ++ ys) (length xs)
  round_trip_reads = sym round_trip_said

  -- whatever reading answers there is the record, with the cursor after it
  pub round_trip : (q : Read) → read_said q ≡ cursor_said (xs ++ bytes_of r ++ ys) (length xs)
      → q ≡ Ok (r, record { at = length xs + length (bytes_of r) })
  round_trip q h = reads_is (xs ++ bytes_of r ++ ys) (length xs) q _ h round_trip_reads

-- the same of a buffer that `write_record` leaves: reading at the place gives back what was written there
pub read_written : (l : List ℕ) (at : ℕ) (r : Record) → at + length (bytes_of r) ≤ length l → (q : Read)
    → read_said q ≡ cursor_said (written l at (bytes_of r)) at → q ≡ Ok (r, record { at = at + length (bytes_of r) })
unfolding written
read_written l at r h q k =
    let front : length (take at l) ≡ at = length-take-le at l (omega arith) in
    rw (← front) (round_trip (take at l) (drop (at + length (bytes_of r)) l) r q (rw front k))

-- and of the bytes of many records: reading where one begins gives it, and the place where the next one begins
pub records_read : (before after : List Record) (r : Record)
    → read_said (Ok (r, record { at = length (bytes_all before) + length (bytes_of r) }))
    ≡ cursor_said (bytes_all (before ++ (r ∷ after))) (length (bytes_all before))
records_read before after r =
    rw (bytes_append before (r ∷ after) ∙ ap (λ (xs : List ℕ). bytes_all before ++ xs) (bytes_cons r after)
    ∙ sym (append_assoc (bytes_all before) (bytes_of r) (bytes_all after)))
    (round_trip_reads (bytes_all before) (bytes_all after) r)
