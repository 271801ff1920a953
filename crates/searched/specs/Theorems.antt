-- What a search says, for a reader who believes nothing but the definition of a match and the bytes of a record: what
-- stands in the listing for each window, that it is the window's one-window answer, and what the counts, the flags and
-- the buffers say. Where it speaks of an answer it needs only what the operation ensures; what it says of symbols needs
-- besides that the pattern's are bytes, which they are wherever code holds them.
-- Assumes nothing.
use Rattle.std.proofs.Math.Path.{◌≡◌, refl, sym, ap}
use Rattle.std.proofs.Common.{◌∙◌}
use Rattle.std.specs.Prelude.{Bool, ◌↔◌, ℕ, ◌+◌, ◌-◌, ◌*◌, ◌<◌, length, get_or, take, leb}
use Rattle.std.proofs.Math.Bool.{true, false}
use mathlib.Core.List.{List, [], ◌∷◌, ◌++◌}
use native.Mathlib.Omega.{arith}
use Rattle.std.proofs.Math.ListN.{get_or-append}
use Rattle.theory.specs.Table.{table}
use Rattle.theory.specs.Table.Laws.{length-table, get_or-table}
use Rattle.theory.specs.Count.Laws.{members_pass}
use Rattle.theory.specs.Match.{Matches, Answer, matched, mismatched, answer_of, image_of}
use Rattle.theory.specs.Match.Even.{maps_even, even_maps}
use Rattle.theory.specs.Match.Answers.{LeastMismatch, match_iff, mismatch_iff}
use Rattle.theory.specs.Match.Images.{column_at}
use Rattle.theory.specs.Bytes.{Bytes}
use Rattle.shapes.specs.Questions.{Question, Posed, sides_of, across_of, windows_of, links_needed}
use Rattle.cells.specs.Windows.Laws.{corner_row_lem, corner_column_lem}
use Rattle.sets.specs.Symbols.{symbols_of}
use Rattle.occurrences.specs.Distinct.{contains}
use Rattle.counts.specs.Counts.{counts_of}
use Rattle.counts.specs.Counts.Laws.{counts_accepted, counts_after}
use Rattle.matching.specs.Compare.{pattern_of, window_in, positions, MatchesAt, verdict_of, bijection_of, told, one_window_of}
use Rattle.answering.specs.Accepted.{Askable}
use Rattle.answering.specs.Theorems.{verdict_right}
use Rattle.matching.specs.declared.compare.Verdict.{Verdict}
use Rattle.refusals.specs.declared.refusals.Refusal.{Refusal}
use Rattle.listing.specs.Records.{bytes_of}
use Rattle.reading.specs.Reader.{read_said, cursor_said}
use Rattle.reading.specs.Reader.RoundTrip.{records_read}
use Rattle.listing.specs.Entries.{bytes_all, pairs_of, mismatch_body_at, mismatch_record, RightPairs, entry_of}
use Rattle.listing.specs.Entries.Laws.{pairs_ext, right_pairs, entry_found, entry_refused}
use Rattle.listing.specs.declared.records.Record.{Record}
use Rattle.listing.specs.declared.records.Record.TheVariants.{Found}
use Rattle.std.specs.Prelude.{Result, Ok}
use Rattle.flags.specs.Flags.{Work, RoomFor, rooms_of, window_flag, count_at, work_after, Rooms}
use Rattle.flags.specs.Flags.Laws.{flag_one}
use Rattle.entries.specs.Listing.{verdict_records, entry_of_window, found_in, refused_in, search_records, search_listing}
use Rattle.entries.specs.Listing.{needed_length}
use Rattle.entries.specs.Listing.Totals.{found_refused}
use Rattle.theory.specs.Test.{both}
use Rattle.refusals.specs.Said.{accepts, said_number}
use Rattle.refusals.specs.Said.Laws.{Proper, accepting, check_proper, then_proper, zero_accepts}
use Rattle.shapes.specs.Questions.Laws.{shape_proper}
use Rattle.searched.specs.Search.{search_said, listed_said, Lent, search_of, listed_of}
use Rattle.rooms.specs.Rooms.{room_said}
use Rattle.searched.specs.Search.Accepted.{said_is, search_passed, search_accepted, Lists}
use Rattle.searched.specs.Search.Writes.{writes_bytes, lists_writes}
use Rattle.rooms.specs.Rooms.Laws.{room_passes}

-- ---- one window

-- a record's kind
kind : List Record → ℕ
kind [] = 0
kind (r ∷ rs) = get_or (bytes_of r) 0 0

-- the forward column of a match has the images
forward_image : (m w : ℕ → ℕ) (n a : ℕ) → a < 256 → image_of m w n a ≡ get_or (bijection_of m w n matched).forward a 0
unfolding bijection_of
forward_image m w n a h = sym (column_at m w n a 0 h)

module _ (o : Question) (row column : ℕ) (corner : column < across_of o) where
  -- the pattern and the window by position, and the records that stand for the window
  abbrev pub m : ℕ → ℕ
  m = pattern_of o

  abbrev pub w : ℕ → ℕ
  w = window_in o row column

  abbrev pub n : ℕ
  n = positions o

  abbrev pub entry : List Record
  entry = entry_of_window o (row * across_of o + column)

  entry_is :
      entry ≡ entry_of row column o.pattern.columns (symbols_of o.pattern.cells) (image_of m w n) (answer_of m w n)
  unfolding entry_of_window
  entry_is = rw (corner_row_lem (across_of o) row column corner, corner_column_lem (across_of o) row column corner)

  entry_matched : answer_of m w n ≡ matched
      → entry ≡ Found row column ∷ pairs_of (image_of m w n) (symbols_of o.pattern.cells)
  entry_matched e =
      entry_is ∙ ap (entry_of row column o.pattern.columns (symbols_of o.pattern.cells) (image_of m w n)) e
      ∙ entry_found row column o.pattern.columns (symbols_of o.pattern.cells) (image_of m w n)

  entry_mismatched : (side : Bool) (q p : ℕ) → answer_of m w n ≡ mismatched side q p
      → entry ≡ mismatch_record side (mismatch_body_at row column o.pattern.columns q p) ∷ []
  entry_mismatched side q p e =
      entry_is ∙ ap (entry_of row column o.pattern.columns (symbols_of o.pattern.cells) (image_of m w n)) e
      ∙ entry_refused row column o.pattern.columns (symbols_of o.pattern.cells) (image_of m w n) side q p

  -- DEMANDS 2 and 3, a window found: where the pattern matches, the window stands as found, with its bijection
  pub found_entry : Bytes o.pattern.cells → Matches m w n
      → (symbols : List ℕ) × (image : ℕ → ℕ) × RightPairs o.pattern.cells w n symbols image
      × (entry ≡ Found row column ∷ pairs_of image symbols)
  found_entry bytes (f, r) =
      let ev = maps_even m w n f r in (
        symbols_of o.pattern.cells,
        image_of m w n,
        right_pairs o.pattern.cells w n (image_of m w n) bytes (even_maps m w n ev),
        entry_matched ((match_iff m w n).1 (f, r)),
      )

  -- and a window refused: where it does not, two cells stand there that are alike on one side only, the earlier first,
  -- as the kind says
  pub refused_entry : (Matches m w n → ⊥)
      → (side : Bool) × (q : ℕ) × (p : ℕ) × LeastMismatch m w side n q p
      × (entry ≡ mismatch_record side (mismatch_body_at row column o.pattern.columns q p) ∷ [])
  refused_entry none = go (answer_of m w n) refl
    where
      go : (a : Answer) → answer_of m w n ≡ a
          → (side : Bool) × (q : ℕ) × (p : ℕ) × LeastMismatch m w side n q p
          × (entry ≡ mismatch_record side (mismatch_body_at row column o.pattern.columns q p) ∷ [])
      go matched e = absurd (none ((match_iff m w n).0 e))
      go (mismatched side q p) e = (side, q, p, (mismatch_iff m w n side q p).0 e, entry_mismatched side q p e)

  -- DEMAND 2: the window is listed as found exactly if the pattern matches
  pub listed_found_iff : ((pairs : List Record) × (entry ≡ Found row column ∷ pairs)) ↔ Matches m w n
  unfolding kind
  listed_found_iff = (
    (λ e. go (answer_of m w n) refl e.1),
    (λ f. (pairs_of (image_of m w n) (symbols_of o.pattern.cells), entry_matched ((match_iff m w n).1 f))),
  )
    where
      differ : (side : Bool) (q p : ℕ) (pairs : List Record)
          → mismatch_record side (mismatch_body_at row column o.pattern.columns q p) ∷ [] ≡ Found row column ∷ pairs
          → ⊥
      differ true q p pairs e = let z : ◌≡◌ {A = ℕ} 3 1 = ap kind e in omega arith
      differ false q p pairs e = let z : ◌≡◌ {A = ℕ} 4 1 = ap kind e in omega arith

      go : {pairs : List Record} (a : Answer) → answer_of m w n ≡ a → entry ≡ Found row column ∷ pairs → Matches m w n
      go matched e d = (match_iff m w n).0 e
      go {pairs} (mismatched side q p) e d = absurd (differ side q p pairs (sym (entry_mismatched side q p e) ∙ d))

  -- the one-window question is answered, and the window's records list the verdict
  pub lists_answer : (r : Result Verdict Refusal) → told r ≡ one_window_of o row column → Askable o row column
      → (v : Verdict) × (r ≡ Ok v)
      × (entry ≡ verdict_records row column o.pattern.columns (symbols_of o.pattern.cells) v)
  lists_answer r answers accepted =
      (verdict_of m w n (answer_of m w n), verdict_right o row column r answers accepted, go (answer_of m w n) refl)
    where
      image_of_lem : (i : ℕ) → i < length (symbols_of o.pattern.cells)
          → image_of m w n (get_or (symbols_of o.pattern.cells) i 0)
          ≡ get_or (bijection_of m w n matched).forward (get_or (symbols_of o.pattern.cells) i 0) 0
      image_of_lem i l =
          forward_image m w n (get_or (symbols_of o.pattern.cells) i 0)
          (members_pass (contains o.pattern.cells) 256 i l).0

      go : (a : Answer) → answer_of m w n ≡ a
          → entry ≡ verdict_records row column o.pattern.columns (symbols_of o.pattern.cells)
          (verdict_of m w n (answer_of m w n))
      go matched e =
          entry_matched e
          ∙ ap (λ (rs : List Record). Found row column ∷ rs)
          (pairs_ext (image_of m w n) (λ a. get_or (bijection_of m w n matched).forward a 0)
          (symbols_of o.pattern.cells) image_of_lem)
          ∙ rw e
      go (mismatched side q p) e = entry_mismatched side q p e ∙ rw e

-- ---- the whole search

module _ (q : Question) where
  -- every window is found or refused: found + refused = (R − r + 1) × (C − c + 1)
  pub sum_of_windows : Posed q
      → found_in q + refused_in q ≡ (q.text.rows - q.pattern.rows + 1) * (q.text.columns - q.pattern.columns + 1)
  sum_of_windows p =
      let s = p.shape in
      let down : q.text.rows + 1 - q.pattern.rows ≡ q.text.rows - q.pattern.rows + 1 = omega arith in
      let across : q.text.columns + 1 - q.pattern.columns
      ≡ q.text.columns - q.pattern.columns + 1 = omega arith in
      found_refused q ∙ rw (down, across)

  -- the listing holds its records in their order: reading where one begins gives it, and the place where the next
  -- begins
  pub listing_reads : (before after : List Record) (r : Record) → search_records q ≡ before ++ (r ∷ after)
      → read_said (Ok (r, record { at = length (bytes_all before) + length (bytes_of r) }))
      ≡ cursor_said (search_listing q) (length (bytes_all before))
  unfolding search_listing
  listing_reads before after r e = rw e (records_read before after r)

  module _ (l : Lent) where
    -- after an accepted search as many first bytes of the buffer as the length says are the listing
    pub first_bytes : (found refused size : ℕ) → Bytes q.pattern.cells → Lists q l found refused size
        → take (needed_length q) (search_of q l).lent.listing ≡ search_listing q
    first_bytes found refused size bytes a =
        rw (← a.size_is)
        (writes_bytes q l.listing (search_of q l).lent.listing found refused size bytes
        (lists_writes q l found refused size a))

    module _ (room : RoomFor q (rooms_of l.work)) where
      work_is : (search_of q l).lent.work ≡ work_after q l.work
      unfolding search_of listed_of
      work_is = rw (room_passes q (rooms_of l.work) room)

      -- tallies are as the tally operation leaves them
      pub counts_as_counted : (search_of q l).lent.work.counts
          ≡ (counts_of q.text.cells (sides_of q) l.work.counts).buffer
      unfolding work_after
      counts_as_counted =
          ap (λ (w : Work). w.counts) work_is
          ∙ (rw (length-table (count_at q) (windows_of q)))
          ∙ sym (counts_after q.text.cells (sides_of q) l.work.counts
          (sym (counts_accepted q.text.cells (sides_of q) (length l.work.counts) room.shape
          room.counts_room)))

      -- DEMAND 2: a window's flag is 1 exactly if the pattern matches it
      pub flag_iff : (row column : ℕ) → row * across_of q + column < windows_of q → column < across_of q
          → (get_or (search_of q l).lent.work.flags (row * across_of q + column) 0 ≡ 1)
          ↔ MatchesAt q row column
      unfolding work_after
      flag_iff row column h c =
          rw (
            work_is,
            get_or-append (table (window_flag q) (windows_of q)) _ 0 (row * across_of q + column)
                (omega (arith, length-table (window_flag q) (windows_of q))),
            get_or-table (window_flag q) (windows_of q) (row * across_of q + column) 0 h,
          )
          (flag_one q row column c)

-- ---- number 0

-- no refusal of the search has it
search_proper : (q : Question) (r : Rooms) (listing : ℕ) → Proper (search_said q r listing)
unfolding search_said room_said listed_said
search_proper q r listing =
    then_proper
    (then_proper (shape_proper q)
    (then_proper (check_proper (leb (links_needed q) r.links) 9 [] (omega arith))
    (check_proper (both (leb (windows_of q) r.counts) (leb (windows_of q) r.flags)) 10 [] (omega arith))))
    (then_proper (check_proper (leb (needed_length q) listing) 11 (needed_length q ∷ []) (omega arith)) (accepting _))

-- where the search's number is 0, it is accepted, with the windows found and refused and the length
pub search_zero : (q : Question) (l : Lent) → said_number (search_of q l).said ≡ 0
    → (search_of q l).said ≡ accepts (found_in q ∷ refused_in q ∷ needed_length q ∷ [])
search_zero q l e =
    let z =
    zero_accepts (search_said q (rooms_of l.work) (length l.listing))
    (search_proper q (rooms_of l.work) (length l.listing)) (sym (ap said_number (said_is q l)) ∙ e) in
    let p = search_passed q (rooms_of l.work) (length l.listing) z.0 z.1 in
    said_is q l ∙ search_accepted q (rooms_of l.work) (length l.listing) p.0 p.1
