-- Lines written piece by piece: the next number of a line, the next record of a listing, and how much room lines take.
-- Why it holds: what is left of a line is the line of the bytes that are left, and what is left of a listing is the
-- bytes of the records that are left.
-- Assumes nothing.
use Rattle.std.proofs.Common.{◌≡◌, refl, Bool, take, Ok, Err, sym, ap, ◌∙◌, add-one, add-zero, length-append}
use Rattle.std.proofs.Common.{length-drop, drop-drop, get_or-drop, List, [], ◌∷◌, ◌++◌, ℕ, suc, ◌+◌, ◌-◌, ◌*◌, ◌≤◌, ◌<◌}
use Rattle.std.proofs.Common.{arith, length, get_or, drop, drop_of_length-le}
use Rattle.std.proofs.Math.ListN.{get_or-append}
use Rattle.std.proofs.Math.Seq.{drop-cons, take-append_seam, drop-append_seam}
use Rattle.theory.specs.Test.{Tested, holds, fails}
use Rattle.theory.specs.Test.Laws.{lt_tested}
use Rattle.theory.specs.Written.{written}
use Rattle.listing.specs.Records.{bytes_of, kind_size}
use Rattle.refusals.specs.Said.{Said, said_values}
use Rattle.reading.specs.Reader.{Read, size_at, read_said, cursor_said}
use Rattle.reading.specs.Reader.Reading.{HasRecord, said_whole}
use Rattle.reading.specs.Reader.Answers.{read_whole, refused_none}
use Rattle.listing.specs.Entries.{bytes_all}
use Rattle.reading.specs.Reader.RoundTrip.{bytes_some, size_is}
use Rattle.theory.specs.Pieces.{Left, left_all, left_room, left_less, left_none}
use Rattle.listing.specs.declared.records.Record.{Record}
use Rattle.reading.specs.declared.reader.Cursor.{Cursor}
use Rattle.refusals.specs.declared.refusals.Refusal.{Refusal}
use Rattle.printing.specs.Decimal.{decimal}
use Rattle.printing.specs.Decimal.Laws.{at_most_three}
use Rattle.printing.specs.Lines.{line_of, lines_of, refused_word, refusal_line, Recorded, Printed}

-- ---- what is left, written in one piece

module _ {whole : List ℕ} {stop : ℕ} {output : List ℕ} {end : ℕ} {bytes : List ℕ} (h : Left whole stop output end bytes)
  where
    left_fits : end + length bytes ≤ length output
    left_fits = omega (arith, h.stop_is, h.room)

    left_over : (new : List ℕ) (next : ℕ) → new ≡ written output end bytes → next ≡ end + length bytes
        → (next ≡ stop) × (new ≡ whole)
    left_over new next n k = (k ∙ sym h.stop_is, n ∙ sym h.whole_is)

-- ---- the next number of a line

module _ (bytes : List ℕ) (i : ℕ) where
  line_more : i + 1 < length bytes
      → line_of (drop i bytes) ≡ decimal (get_or bytes i 0) ++ (32 ∷ []) ++ line_of (drop (i + 1) bytes)
  unfolding line_of
  line_more h =
      let first : drop i bytes ≡ get_or bytes i 0 ∷ drop (suc i) bytes = drop-cons bytes i 0 (omega arith) in
      let second : drop (suc i) bytes ≡ get_or bytes (suc i) 0 ∷ drop (suc (suc i)) bytes = drop-cons bytes (suc i) 0
      (omega arith) in
      rw (add-one i, first, second)

  line_last : i < length bytes → length bytes ≤ i + 1 → line_of (drop i bytes) ≡ decimal (get_or bytes i 0) ++ (10 ∷ [])
  unfolding line_of
  line_last h k =
      let past : length bytes ≤ suc i = omega arith in
      let first : drop i bytes ≡ get_or bytes i 0 ∷ drop (suc i) bytes = drop-cons bytes i 0 h in
      let none : drop (suc i) bytes ≡ [] = drop_of_length-le bytes past in
      rw (first, none)

module _ {whole : List ℕ} {stop : ℕ} (bytes output : List ℕ) (end i : ℕ)
    (h : Left whole stop output end (line_of (drop i bytes))) where
  -- a number that is not the last, with the space behind it: there is room for it, and then less is left
  module _ (more : i + 1 < length bytes) where
    next_parts : line_of (drop i bytes) ≡ (decimal (get_or bytes i 0) ++ (32 ∷ [])) ++ line_of (drop (i + 1) bytes)
    next_parts = line_more bytes i more

    pub number_room : end + length (decimal (get_or bytes i 0) ++ (32 ∷ [])) ≤ length output
    number_room =
        left_room output end _ h (decimal (get_or bytes i 0) ++ (32 ∷ [])) (line_of (drop (i + 1) bytes)) next_parts

    pub number_less : (new : List ℕ) (next : ℕ) → new ≡ written output end (decimal (get_or bytes i 0) ++ (32 ∷ []))
        → next ≡ end + length (decimal (get_or bytes i 0) ++ (32 ∷ []))
        → Left whole stop new next (line_of (drop (i + 1) bytes))
    number_less new next n k =
        left_less output end _ h (decimal (get_or bytes i 0) ++ (32 ∷ [])) (line_of (drop (i + 1) bytes)) next_parts new
        next n k

  -- the last number, with the line feed: there is room for it, and then nothing is left
  module _ (inside : i < length bytes) (last : length bytes ≤ i + 1) where
    pub last_room : end + length (decimal (get_or bytes i 0) ++ (10 ∷ [])) ≤ length output
    last_room = rw (line_last bytes i inside last) at (left_fits h)

    pub last_whole : (new : List ℕ) (next : ℕ) → new ≡ written output end (decimal (get_or bytes i 0) ++ (10 ∷ []))
        → next ≡ end + length (decimal (get_or bytes i 0) ++ (10 ∷ [])) → (next ≡ stop) × (new ≡ whole)
    last_whole new next n k =
        left_over h new next (rw (line_last bytes i inside last) n) (rw (line_last bytes i inside last) k)

-- ---- the next record of a listing

-- what the reader answers where a record stands: the place behind it, and no refusal
module _ (listing : List ℕ) (at : ℕ) (q : Read) (reads : read_said q ≡ cursor_said listing at) where
  pub whole_end : (r : Record) (next : Cursor) → q ≡ Ok (r, next) → HasRecord listing at → next.at ≡ at + size_at listing at
  whole_end r next e has =
      ap (λ (x : Said). get_or (said_values x) 0 0) (ap read_said (sym e) ∙ reads ∙ said_whole listing at has)

  whole_inside : (r : Record) (next : Cursor) → q ≡ Ok (r, next) → at < length listing
  whole_inside r next e = (read_whole listing at r next (rw e at reads)).inside

  pub no_refusal : (why : Refusal) → q ≡ Err why → HasRecord listing at → ⊥
  no_refusal why e has = refused_none listing at why (rw e at reads) has

module _ (listing : List ℕ) (place : ℕ) (r : Record) (rest : List Record)
    (here : drop place listing ≡ bytes_of r ++ bytes_all rest) where
  size_here : size_at listing place ≡ length (bytes_of r)
  size_here = ap kind_size first ∙ size_is r
    where
      first : get_or listing place 0 ≡ get_or (bytes_of r) 0 0
      first =
          ap (λ (n : ℕ). get_or listing n 0) (sym (add-zero place))
          ∙ sym (get_or-drop place listing 0 0)
          ∙ ap (λ (l : List ℕ). get_or l 0 0) here
          ∙ get_or-append (bytes_of r) (bytes_all rest) 0 0 (bytes_some r)

  fits_here : place + length (bytes_of r) ≤ length listing
  fits_here =
      omega (
        arith,
        bytes_some r,
        sym (length-drop place listing) ∙ ap length here
            ∙ length-append (bytes_of r) (bytes_all rest),
      )

  has_here : HasRecord listing place
  has_here = record { known = omega (arith, size_here, bytes_some r); within = omega (arith, size_here, fits_here) }

  module _ (next : ℕ) (e : next ≡ place + size_at listing place) where
    next_is : next ≡ place + length (bytes_of r)
    next_is = omega (arith, size_here)

    part_here : take (next - place) (drop place listing) ≡ bytes_of r
    part_here =
        let long : next - place ≡ length (bytes_of r) = omega (arith, next_is) in
        rw (long, here) (take-append_seam (bytes_of r) (bytes_all rest))

    after_here : drop next listing ≡ bytes_all rest
    after_here =
        ap (λ (n : ℕ). drop n listing) next_is
        ∙ sym (drop-drop (length (bytes_of r)) place listing)
        ∙ rw here (drop-append_seam (bytes_of r) (bytes_all rest))

-- ---- how much room lines take

-- at most four bytes for each byte of a line: three digits and the space or the line feed
line_length : (bytes : List ℕ) → 0 < length bytes → length (line_of bytes) ≤ 4 * length bytes
unfolding line_of
line_length [] h = absurd (omega arith)
line_length (b ∷ []) h = rw length-append (omega (arith, at_most_three b))
line_length (b ∷ c ∷ bytes) h =
    rw (length-append (decimal b ++ (32 ∷ [])) (line_of (c ∷ bytes)), length-append (decimal b) (32 ∷ []))
    (omega (arith, at_most_three b, line_length (c ∷ bytes) (omega arith)))

pub lines_length : (records : List Record) → length (lines_of records) ≤ 4 * length (bytes_all records)
unfolding lines_of bytes_all
lines_length [] = omega arith
lines_length (r ∷ rs) =
    rw (length-append (line_of (bytes_of r)) (lines_of rs), length-append (bytes_of r) (bytes_all rs))
    (omega (arith, line_length (bytes_of r) (bytes_some r), lines_length rs))

-- ---- a listing's lines, record by record

-- the records before a place of the listing are written, and those from there on are left
record Going (listing old : List ℕ) (at : ℕ) (records : List Record) (output : List ℕ) (end place : ℕ)
    (rest : List Record) : Type 0 where
  here : drop place listing ≡ bytes_all rest
  left : Left (written old at (lines_of records)) (at + length (lines_of records)) output end (lines_of rest)

-- the same whatever the records are: they are those that the listing holds
pub record PrintedTo (listing old : List ℕ) (at : ℕ) (output : List ℕ) (end place : ℕ) : Type 0 where
  pub inside : place ≤ length listing
  going : (records : List Record) → listing ≡ bytes_all records
      → (rest : List Record) × Going listing old at records output end place rest

-- where no bytes are, no records are
no_records : (rest : List Record) → bytes_all rest ≡ [] → rest ≡ []
unfolding bytes_all
no_records [] e = refl
no_records (r ∷ rest) e =
    absurd (omega (arith, bytes_some r, sym (length-append (bytes_of r) (bytes_all rest)) ∙ ap length e))

-- what is left of a listing that is not at its end is a record and the rest
module _ (listing old : List ℕ) (at : ℕ) (records : List Record) (output : List ℕ) (end place : ℕ)
    (more : place < length listing) where
  record Next (r : Record) (rest : List Record) : Type 0 where
    bytes_here : drop place listing ≡ bytes_of r ++ bytes_all rest
    lines_left : Left (written old at (lines_of records)) (at + length (lines_of records)) output end
        (line_of (bytes_of r) ++ lines_of rest)

  next_record : (rest : List Record) → Going listing old at records output end place rest
      → (r : Record) × (after : List Record) × Next r after
  unfolding bytes_all lines_of
  next_record [] g = absurd (omega (arith, sym (length-drop place listing) ∙ ap length g.here))
  next_record (r ∷ rest) g = (r, rest, record { bytes_here = g.here; lines_left = g.left })

module _ (listing old : List ℕ) (at : ℕ) where
  pub printed_none : at + 4 * length listing ≤ length old → PrintedTo listing old at old at 0
  printed_none room =
      record {
        inside = omega arith;
        going =
            λ records e. (
              records,
              record {
                here = e;
                left = left_all old at (lines_of records) (omega (
                  arith,
                  lines_length records,
                  ap length
                      e,
                ));
              },
            );
      }

  module _ (output : List ℕ) (end place : ℕ) (w : PrintedTo listing old at output end place) where
    -- the listing is at its end: all lines are written
    pub reached_all : length listing ≤ place → Printed listing old at output end
    unfolding lines_of
    reached_all past =
        record {
          end_is = λ records e. (over (w.going records e).1).1;
          output_is = λ records e. (over
              (w.going records e).1).0;
        }
      where
        over : {records rest : List Record} → Going listing old at records output end place rest
            → (output ≡ written old at (lines_of records)) × (end ≡ at + length (lines_of records))
        over {records} {rest} g =
            left_none output end (lines_of rest) g.left
            (ap lines_of (no_records rest (sym g.here ∙ drop_of_length-le listing past)))

    module _ (some : Recorded listing) where
      module _ (more : place < length listing) where
        next_of : (records : List Record) → listing ≡ bytes_all records
            → (r : Record) × (after : List Record) × Next listing old at records output end place more r after
        next_of records e =
            let g = w.going records e in next_record listing old at records output end place more g.0 g.1

        -- a record stands there
        pub record_here : HasRecord listing place
        record_here =
            let n = next_of some.records some.bytes_are in has_here listing place n.0 n.1 n.2.bytes_here

        module _ (next : ℕ) (e : next ≡ place + size_at listing place) where
          -- it ends inside
          pub next_inside : (place < next) × (next ≤ length listing)
          next_inside = (omega (arith, record_here.known), omega (arith, record_here.within))

          -- there is room for its line
          pub line_room : (0 < length (take (next - place) (drop place listing)))
              × (end + length (line_of (take (next - place) (drop place listing))) ≤ length output)
          line_room =
              let n = next_of some.records some.bytes_are in
              rw (part_here listing place n.0 n.1 n.2.bytes_here next e) (
                bytes_some n.0,
                left_room output end _ n.2.lines_left (line_of (bytes_of n.0)) (lines_of n.1)
                    refl,
              )

          -- and then the next record is reached
          pub printed_more : (new : List ℕ) (stop : ℕ)
              → stop ≡ end + length (line_of (take (next - place) (drop place listing)))
              → new ≡ written output end (line_of (take (next - place) (drop place listing)))
              → PrintedTo listing old at new stop next
          printed_more new stop k n = record { inside = next_inside.1; going = go }
            where
              go : (records : List Record) → listing ≡ bytes_all records
                  → (rest : List Record) × Going listing old at records new stop next rest
              go records f =
                  let m = next_of records f in
                  let part = part_here listing place m.0 m.1 m.2.bytes_here next e in (
                    m.1,
                    record {
                      here = after_here listing place m.0 m.1 m.2.bytes_here next e;
                      left =
                          left_less output end _ m.2.lines_left (line_of (bytes_of m.0)) (lines_of m.1) refl new
                          stop (rw part at n) (rw part at k);
                    },
                  )

-- the same by what the reader answers at the place
module _ (listing old : List ℕ) (at : ℕ) (output : List ℕ) (end place : ℕ) (w : PrintedTo listing old at output end
    place)
    (some : Recorded listing) (q : Read) (reads : read_said q ≡ cursor_said listing place) where
  -- it refuses: the listing is at its end
  pub reached_end : (why : Refusal) → q ≡ Err why → Printed listing old at output end
  reached_end why e = go (lt_tested place (length listing))
    where
      go : {t : Bool} → Tested (place < length listing) t → Printed listing old at output end
      go (holds more) =
          absurd (no_refusal listing place q reads why e (record_here listing old at output end place w some more))
      go (fails n) = reached_all listing old at output end place w (omega arith)

  -- it reads a record, up to the next place
  module _ (r : Record) (next : Cursor) (e : q ≡ Ok (r, next)) where
    more : place < length listing
    more = whole_inside listing place q reads r next e

    next_is_at : next.at ≡ place + size_at listing place
    next_is_at = whole_end listing place q reads r next e (record_here listing old at output end place w some more)

    pub read_inside : (place < next.at) × (next.at ≤ length listing)
    read_inside = next_inside listing old at output end place w some more next.at next_is_at

    pub read_room : (0 < length (take (next.at - place) (drop place listing)))
        × (end + length (line_of (take (next.at - place) (drop place listing))) ≤ length output)
    read_room = line_room listing old at output end place w some more next.at next_is_at

    pub read_printed : (new : List ℕ) (stop : ℕ)
        → stop ≡ end + length (line_of (take (next.at - place) (drop place listing)))
        → new ≡ written output end (line_of (take (next.at - place) (drop place listing)))
        → PrintedTo listing old at new stop next.at
    read_printed new stop k n =
        printed_more listing old at output end place w some more next.at next_is_at new stop k n

-- ---- a refusal

-- the word and the number
pub refusal_parts : (number : ℕ) → refusal_line number ≡ refused_word ++ (decimal number ++ (10 ∷ []))
unfolding refusal_line
refusal_parts number = refl

-- it takes at most twelve bytes: the word and the space, three digits, the line feed
pub refusal_length : (number : ℕ) → length (refusal_line number) ≤ 12
refusal_length number =
    rw (
      refusal_parts number,
      length-append refused_word (decimal number ++ (10 ∷ [])),
      length-append (decimal number)
          (10 ∷ []),
    )
    (omega (arith, at_most_three number))
