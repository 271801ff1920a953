-- What follows from demand 3 for who has a listing in hand, whoever made it: no window is left out, none is passed
-- wrongly, a found window has its renaming, the two cells of a refused window lie in the pattern and are alike on one
-- side only, the listing has the bytes that document 01 counts and reading it gives its records, and any two listings
-- for a text and a pattern have the same counts. Each needs the demand alone; that the cells lie in the pattern needs
-- besides that the pattern has a column, and that document 01's columns carry it, that text and pattern are bytes.
-- Assumes nothing.
use Rattle.std.specs.Prelude.{◌≡◌, refl, Bool, not, ◌↔◌, ltb}
use Rattle.std.proofs.Common.{sym, ◌∙◌, mod-lt, div-lt_iff_lt-mul, arith, lt-ltb, le-ltb}
use Rattle.std.proofs.Math.Path.{ap}
use mathlib.Core.List.{List, [], ◌∷◌, ◌++◌}
use Prim.Native.Nat.{ℕ, zero, suc, ◌+◌, ◌-◌, ◌*◌, ◌/◌, ◌%◌, ◌<◌}
use Rattle.std.proofs.Math.ListN.{length, length-append}
use Rattle.theory.specs.Test.{pick, Tested}
use Rattle.theory.specs.Test.Laws.{pick_true, pick_false, tested_iff, tested_same, lt_tested}
use Rattle.theory.specs.Join.{joined}
use Rattle.theory.specs.Count.{count}
use Rattle.theory.specs.Count.Laws.{count_ext}
use Rattle.theory.specs.Match.{Mismatch}
use Rattle.theory.specs.Match.Bijections.{MatchesColumns, matches_columns}
use Rattle.theory.specs.Bytes.{Bytes}
use Rattle.theory.specs.Match.Answers.{no_mismatch_iff}
use Rattle.shapes.specs.Questions.{Question, across_of, windows_of}
use Rattle.cells.specs.Windows.{corner_row, corner_column}
use Rattle.cells.specs.Windows.Laws.{window_at_lem}
use Rattle.occurrences.specs.Distinct.{distinct}
use Rattle.matching.specs.Compare.{pattern_of, window_in, positions, CornerIn, MatchesAt}
use Rattle.listing.specs.Records.{bytes_of}
use Rattle.reading.specs.Reader.{read_said, cursor_said}
use Rattle.reading.specs.Reader.RoundTrip.{records_read}
use Rattle.listing.specs.Entries.{bytes_all, pairs_of, mismatch_body_at, mismatch_record, RightPairs}
use Rattle.listing.specs.Entries.Laws.{bytes_append, entry_found, entry_refused, length_found, length_refused}
use Rattle.listing.specs.Records.Lengths.{length-joined, length_closing}
use Rattle.listing.specs.declared.records.Record.{Record}
use Rattle.listing.specs.declared.records.Record.TheVariants.{Found, Closing}
use Rattle.std.specs.Prelude.{Ok, Err}
use Rattle.entries.specs.Listing.{listing_length}
use Rattle.guarantee.specs.Demand3.{times_found, times_refused, Shown, as_found, as_refused, records_of, Shows}
use Rattle.guarantee.specs.Demand3.{Demand3}
use Rattle.guarantee.specs.Demand3.Standing.{corner_of_lem}

-- the two cells of a refused window: in the pattern, the earlier first, alike on one side only
pub record Spoiling (q : Question) (row column : ℕ) (side : Bool) (earlier later : ℕ) : Type 0 where
  pub earlier_row : earlier / q.pattern.columns < q.pattern.rows
  pub earlier_column : earlier % q.pattern.columns < q.pattern.columns
  pub later_row : later / q.pattern.columns < q.pattern.rows
  pub later_column : later % q.pattern.columns < q.pattern.columns
  pub mismatch : Mismatch side (pattern_of q) (window_in q row column) earlier later

module _ (q : Question) (listing : List ℕ) (found refused : ℕ)
    (demand : Demand3 q listing found refused) where
  abbrev records : List Record
  records = records_of q demand.0 found refused

  shows : Shows q listing found refused demand.0
  shows = demand.1

  -- where no window is refused, all of them are found
  pub all_found :
      refused ≡ 0 → found ≡ (q.text.rows - q.pattern.rows + 1) * (q.text.columns - q.pattern.columns + 1)
  all_found none = omega (arith, shows.sum_is)

  module _ (row column : ℕ) (corner : CornerIn q row column) where
    -- no window is left out
    pub not_left_out : times_found records row column ≡ 0 → times_refused records row column ≡ 1
    not_left_out none = omega (arith, shows.just_once row column corner)

    -- none is passed wrongly: one that stands as found is the pattern in other symbols
    pub passed_rightly : 0 < times_found records row column → MatchesAt q row column
    passed_rightly some = (shows.found_iff row column corner).0 (omega (arith, shows.just_once row column corner))

    -- document 01's renaming: it stands as found exactly if two columns that agree carry the pattern onto it
    pub found_columns : Bytes q.text.cells → Bytes q.pattern.cells
        → (times_found records row column ≡ 1) ↔ MatchesColumns (pattern_of q) (window_in q row column) (positions q)
    found_columns text_bytes pattern_bytes =
        let same = matches_columns (pattern_of q) (window_in q row column) (positions q) pattern_bytes window_bytes in (
          (λ t. same.0 ((shows.found_iff row column corner).0 t)),
          (λ c. (shows.found_iff row column corner).1 (same.1 c)),
        )
      where
        window_bytes : (k : ℕ) → window_in q row column k < 256
        window_bytes k =
            rw (window_at_lem q.text.cells q.text.columns row column q.pattern.columns k) (text_bytes _)

    -- one that stands as refused has two cells that spoil it
    pub refused_cells : 0 < q.pattern.columns → times_refused records row column ≡ 1
        → (side : Bool) × (i : ℕ) × (j : ℕ)
        × (demand.0 row column ≡ mismatch_record side (mismatch_body_at row column q.pattern.columns i j) ∷ [])
        × Spoiling q row column side i j
    refused_cells some once = go (demand.0 row column) refl (shows.each_shown row column corner)
      where
        go : (rs : List Record) → demand.0 row column ≡ rs → Shown q row column rs
            → (side : Bool) × (i : ℕ) × (j : ℕ)
            × (demand.0 row column ≡ mismatch_record side (mismatch_body_at row column q.pattern.columns i j) ∷ [])
            × Spoiling q row column side i j
        go rs e (as_found symbols image right many) =
            absurd ((shows.refused_iff row column corner).0 once (image, right.maps))
        go rs e (as_refused side i j inside d) =
            let order = d.order in (
              side,
              i,
              j,
              e,
              record {
                earlier_row = (div-lt_iff_lt-mul some).1 (omega arith);
                earlier_column = mod-lt i some;
                later_row = (div-lt_iff_lt-mul some).1 (omega arith);
                later_column = mod-lt j some;
                mismatch = d;
              },
            )

    -- one that stands as found has its renaming: one pair for each symbol of the pattern, rising, each with the
    -- window's symbol in that symbol's cells
    pub found_bijection : times_found records row column ≡ 1
        → (symbols : List ℕ) × (image : ℕ → ℕ) × (demand.0 row column ≡ Found row column ∷ pairs_of image symbols)
        × RightPairs q.pattern.cells (window_in q row column) (positions q) symbols image
    found_bijection once = go (demand.0 row column) refl (shows.each_shown row column corner)
      where
        go : (rs : List Record) → demand.0 row column ≡ rs → Shown q row column rs
            → (symbols : List ℕ) × (image : ℕ → ℕ) × (demand.0 row column ≡ Found row column ∷ pairs_of image symbols)
            × RightPairs q.pattern.cells (window_in q row column) (positions q) symbols image
        go rs e (as_found symbols image right many) = (symbols, image, e, right)
        go rs e (as_refused side i j inside d) =
            absurd ((no_mismatch_iff _ _ (positions q)).1 ((shows.found_iff row column corner).0 once) side i j inside d)

  -- the listing has a × (3 + 3d) + 7b + 5 bytes
  pub listing_length_lem : length listing ≡ listing_length found refused (distinct q.pattern.cells)
  unfolding records_of
  listing_length_lem =
      ap length shows.bytes_are ∙ ap length (bytes_append (joined entries all) (Closing found refused ∷ []))
      ∙ length-append (bytes_all (joined entries all)) (bytes_all (Closing found refused ∷ []))
      ∙ rw (
        length_closing found refused,
        length-joined entries stands_found (3 + 3 * distinct q.pattern.cells) all
            (λ k h. length_shown _ _ (corner_of_lem q k h)),
        ← found_same,
        ← refused_same,
      )
    where
      -- the records of a found window have 3 + 3d bytes, those of a refused one 7
      length_shown : (row column : ℕ) → CornerIn q row column → length (bytes_all (demand.0 row column))
          ≡ pick (ltb 0 (times_found records row column)) (3 + 3 * distinct q.pattern.cells) 7
      length_shown row column corner = go (demand.0 row column) (shows.each_shown row column corner)
        where
          go : (rs : List Record) → Shown q row column rs
              → length (bytes_all rs) ≡ pick (ltb 0 (times_found records row column)) (3 + 3 * distinct q.pattern.cells)
              7
          go rs (as_found symbols image right many) =
              let once = (shows.found_iff row column corner).1 (image, right.maps) in
              ap (λ (xs : List Record). length (bytes_all xs))
              (sym (entry_found row column q.pattern.columns symbols image))
              ∙ length_found row column q.pattern.columns symbols image
              ∙ ap (λ (d : ℕ). 3 + 3 * d) many
              ∙ sym (pick_true _ _ (lt-ltb 0 (times_found records row column) (omega arith)))
          go rs (as_refused side i j inside d) =
              let once = (shows.refused_iff row column corner).1
              (λ f. (no_mismatch_iff _ _ (positions q)).1 f side i j inside d) in
              ap (λ (xs : List Record). length (bytes_all xs))
              (sym (entry_refused row column q.pattern.columns [] (λ a. a) side i j))
              ∙ length_refused row column q.pattern.columns [] (λ a. a) side i j
              ∙ sym (pick_false _ _ (le-ltb 0 (times_found records row column)
              (omega (arith, shows.just_once row column corner))))

      entries : ℕ → List Record
      entries k = demand.0 (corner_row (across_of q) k) (corner_column (across_of q) k)

      all : ℕ
      all = windows_of q

      stands_found : ℕ → Bool
      stands_found k = ltb 0 (times_found records (corner_row (across_of q) k) (corner_column (across_of q) k))

      found_same : found ≡ count stands_found all
      found_same = shows.found_is

      other : (a b : ℕ) → a + b ≡ 1 → not (ltb 0 a) ≡ ltb 0 b
      other zero b e = let one : b ≡ 1 = omega arith in rw one
      other (suc zero) b e = let none : b ≡ 0 = omega arith in rw none
      other (suc (suc a)) b e = absurd (omega arith)

      refused_same : refused ≡ count (λ k. not (stands_found k)) all
      refused_same =
          shows.refused_is ∙ count_ext _ _ all (λ k h. sym (other _ _ (shows.just_once _ _ (corner_of_lem q k h))))

  -- reading it where a record begins gives the record, and the place where the next one begins
  pub reads_records : (before after : List Record) (r : Record) → records ≡ before ++ (r ∷ after)
      → read_said (Ok (r, record { at = length (bytes_all before) + length (bytes_of r) }))
      ≡ cursor_said listing (length (bytes_all before))
  reads_records before after r e = rw (shows.bytes_are, e) (records_read before after r)

  -- a window stands as found exactly if the pattern matches it
  pub found_tested : (k : ℕ) → k < windows_of q
      → Tested (MatchesAt q (corner_row (across_of q) k) (corner_column (across_of q) k))
      (ltb 0 (times_found records (corner_row (across_of q) k) (corner_column (across_of q) k)))
  found_tested k h =
      let c = corner_of_lem q k h in
      tested_iff (passed_rightly _ _ c) (λ f. omega (arith, (shows.found_iff _ _ c).1 f))
      (lt_tested 0 (times_found records (corner_row (across_of q) k) (corner_column (across_of q) k)))

-- two listings for one text and one pattern, whoever made them, have the same counts
pub same_counts : (q : Question) (listing other : List ℕ) (found refused found' refused' : ℕ)
    → Demand3 q listing found refused → Demand3 q other found' refused'
    → (found ≡ found') × (refused ≡ refused')
same_counts q listing other found refused found' refused' a b = (same, omega (arith, same, a.1.sum_is, b.1.sum_is))
  where
    same : found ≡ found'
    same =
        a.1.found_is
        ∙ count_ext _ _ (windows_of q)
        (λ k h. tested_same (found_tested q listing found refused a k h) (found_tested q other found' refused' b k h))
        ∙ sym b.1.found_is
