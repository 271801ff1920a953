-- A listing that keeps the rules is as demand 3 says (`keeps_shows`).
-- Why it holds: an entry that is true of its window is a mapping that carries the pattern onto it, or a mismatch, and
-- where there is one there is not the other; and each window's records name that window alone.
-- Assumes nothing.
use Rattle.std.proofs.Math.Path.{◌≡◌, refl, sym, ap}
use Rattle.std.proofs.Common.{◌∙◌, ap₂, div-add-mod', mod-lt, div-lt_iff_lt-mul, mul-le-mul_right, arith}
use Rattle.std.specs.Prelude.{Bool, not, ◌↔◌, ltb}
use Rattle.std.proofs.Math.Bool.{true, false}
use mathlib.Core.List.{List, [], ◌∷◌, ◌++◌}
use Prim.Native.Nat.{ℕ, zero, suc, ◌+◌, ◌-◌, ◌*◌, ◌/◌, ◌%◌, ◌≤◌, ◌<◌}
use Rattle.std.proofs.Math.ListN.{length}
use Rattle.theory.specs.Test.{pick}
use Rattle.theory.specs.Test.Laws.{true_false}
use Rattle.theory.specs.Join.{joined}
use Rattle.theory.specs.Join.Laws.{joined_ext}
use Rattle.theory.specs.Count.{count}
use Rattle.theory.specs.Count.Laws.{count_ext, count_not, length-members}
use Rattle.theory.specs.Match.{Matches, Answer, matched, mismatched, is_match}
use Rattle.theory.specs.Match.Answers.{no_mismatch_iff}
use Rattle.theory.specs.Bytes.{Bytes}
use Rattle.shapes.specs.Shapes.{corners}
use Rattle.shapes.specs.Questions.{Question, across_of, windows_of}
use Rattle.cells.specs.Windows.{corner_row, corner_column}
use Rattle.cells.specs.Windows.Laws.{corner_row_lem, corner_column_lem}
use Rattle.sets.specs.Symbols.{symbols_of}
use Rattle.occurrences.specs.Distinct.{contains, distinct}
use Rattle.occurrences.specs.Distinct.Sets.{distinct_count}
use Rattle.matching.specs.Compare.{pattern_of, window_in, positions, CornerIn, MatchesAt}
use Rattle.rules.specs.Check.{place_in}
use Rattle.listing.specs.Entries.{bytes_all, entry_of}
use Rattle.listing.specs.Entries.Laws.{entry_found, entry_refused, right_pairs}
use Rattle.listing.specs.declared.records.Record.{Record}
use Rattle.listing.specs.declared.records.Record.TheVariants.{Closing}
use Rattle.rules.specs.Rules.{TrueOf, Entries, records_at, records_to, Keeps}
use Rattle.guarantee.specs.Demand3.{names_found, names_refused, how_many, times_found, times_refused, Shown, as_found}
use Rattle.guarantee.specs.Demand3.{as_refused, records_of, Shows}
use Rattle.guarantee.specs.Demand3.Times.{many_append, many_joined, entry_times_found, entry_times_refused}
use Rattle.guarantee.specs.Demand3.Times.{named_same, named_other}

-- ---- an entry that is true of its window

-- a window stands as found exactly if the pattern matches it
true_match : (m w : ℕ → ℕ) (n : ℕ) (image : ℕ → ℕ) (answer : Answer) → TrueOf m w n image answer
    → (is_match answer ≡ true) ↔ Matches m w n
true_match m w n image matched f = ((λ _. (image, f)), (λ _. refl))
true_match m w n image (mismatched side i j) d =
    ((λ e. absurd (true_false e refl)), (λ f. absurd ((no_mismatch_iff m w n).1 f side i j d.0 d.1)))

true_refused : (m w : ℕ → ℕ) (n : ℕ) (image : ℕ → ℕ) (answer : Answer) → TrueOf m w n image answer
    → (is_match answer ≡ false) ↔ (Matches m w n → ⊥)
true_refused m w n image matched f = ((λ e. absurd (true_false refl e)), (λ none. absurd (none (image, f))))
true_refused m w n image (mismatched side i j) d =
    ((λ _ f. (no_mismatch_iff m w n).1 f side i j d.0 d.1), (λ _. refl))

-- one of two
one_if : (t : Bool) → (◌≡◌ {A = ℕ} (pick t 1 0) 1) ↔ (t ≡ true)
one_if true = ((λ _. refl), (λ _. refl))
one_if false = ((λ e. absurd (omega arith)), (λ e. absurd (true_false e refl)))

one_unless : (t : Bool) → (◌≡◌ {A = ℕ} (pick t 0 1) 1) ↔ (t ≡ false)
one_unless true = ((λ e. absurd (omega arith)), (λ e. absurd (true_false refl e)))
one_unless false = ((λ _. refl), (λ _. refl))

one_of_two : (t : Bool) → pick t 1 0 + pick t 0 1 ≡ 1
one_of_two true = refl
one_of_two false = refl

some_if : (t : Bool) → ltb 0 (pick t 1 0) ≡ t
some_if true = refl
some_if false = refl

some_unless : (t : Bool) → ltb 0 (pick t 0 1) ≡ not t
some_unless true = refl
some_unless false = refl

-- ---- windows by their numbers

-- window k has its corner in the text
pub corner_of_lem : (q : Question) (k : ℕ) → k < windows_of q
    → CornerIn q (corner_row (across_of q) k) (corner_column (across_of q) k)
corner_of_lem q k h =
    let some = factor (corners q.text.rows q.pattern.rows) (across_of q) k h in
    let row_lt : k / across_of q < corners q.text.rows q.pattern.rows = (div-lt_iff_lt-mul some).1 h in
    record { row_le = omega (arith, row_lt); column_le = omega (arith, mod-lt k some) }
  where
    factor : (a b k : ℕ) → k < a * b → 0 < b
    factor a zero k l = absurd (omega arith)
    factor a (suc b) k l = omega arith

module _ (q : Question) (listing : List ℕ) (found refused : ℕ) (e : Entries)
    (keeps : Keeps q listing found refused e) (bytes : Bytes q.pattern.cells) where
  abbrev across : ℕ
  across = across_of q

  abbrev all : ℕ
  all = windows_of q

  -- the number of the window at (row, column), and its records
  abbrev number : ℕ → ℕ → ℕ
  number row column = row * across + column

  unfoldable pub entry_shown : ℕ → ℕ → List Record
  entry_shown row column =
      entry_of row column q.pattern.columns (symbols_of q.pattern.cells) (e.image (number row column))
      (e.answer (number row column))

  number_inside : (row column : ℕ) → CornerIn q row column → number row column < all
  number_inside row column c =
      let down : row + 1 ≤ corners q.text.rows q.pattern.rows = omega (arith, c.row_le) in
      omega (arith, c.column_le, mul-le-mul_right across down)

  column_inside : (row column : ℕ) → CornerIn q row column → column < across
  column_inside row column c = omega (arith, c.column_le)

  number_of : (k : ℕ) → number (k / across) (k % across) ≡ k
  number_of k = div-add-mod' k across

  -- the entry of window k as the rules and as the demand have it
  same_entry : (k : ℕ) → entry_shown (k / across) (k % across)
      ≡ records_at q.pattern.cells (place_in q k) (e.image k) (e.answer k)
  unfolding entry_shown
  same_entry k = rw (number_of k)

  records_same : records_to q e all ++ (Closing found refused ∷ []) ≡ records_of q entry_shown found refused
  unfolding records_to records_of
  records_same =
      ap (λ (rs : List Record). rs ++ (Closing found refused ∷ []))
      (joined_ext (λ k. records_at q.pattern.cells (place_in q k) (e.image k) (e.answer k))
      (λ k. entry_shown (k / across) (k % across)) all (λ k h. sym (same_entry k)))

  -- the entry is true of the window at (row, column)
  true_at : (row column : ℕ) → CornerIn q row column
      → TrueOf (pattern_of q) (window_in q row column) (positions q) (e.image (number row column))
      (e.answer (number row column))
  true_at row column c =
      rw (
        corner_row_lem across row column (column_inside row column c),
        corner_column_lem across row column
            (column_inside row column c),
      ) at
      (keeps.each_true (number row column) (number_inside row column c))

  -- ---- how often a window stands there

  abbrev records : List Record
  records = records_of q entry_shown found refused

  module _ (P : Record → Bool) (row column : ℕ) (c : CornerIn q row column)
      (closing : P (Closing found refused) ≡ false)
      (elsewhere : (r d : ℕ) → ((r ≡ row) × (d ≡ column) → ⊥) → how_many P (entry_shown r d) ≡ 0) where
    -- as often as in its own records
    times : how_many P records ≡ how_many P (entry_shown row column)
    unfolding records_of how_many
    times =
        many_append P (joined entries all) (Closing found refused ∷ [])
        ∙ omega (arith, last, many_joined P entries (number row column) all (number_inside row column c) other, own)
      where
        entries : ℕ → List Record
        entries k = entry_shown (k / across) (k % across)

        last : how_many P (Closing found refused ∷ []) ≡ 0
        last = rw closing

        own : how_many P (entries (number row column)) ≡ how_many P (entry_shown row column)
        own =
            rw (
              corner_row_lem across row column (column_inside row column c),
              corner_column_lem across row column
                  (column_inside row column c),
            )

        other : (k : ℕ) → k < all → (k ≡ number row column → ⊥) → how_many P (entries k) ≡ 0
        other k h n = elsewhere (k / across) (k % across) (λ t. n (sym (number_of k) ∙ ap₂ number t.0 t.1))

  module _ (row column : ℕ) (c : CornerIn q row column) where
    abbrev matches_here : Bool
    matches_here = is_match (e.answer (number row column))

    found_times : times_found records row column ≡ pick matches_here 1 0
    unfolding times_found entry_shown
    found_times =
        times (names_found row column) row column c refl
        (λ r d n. entry_times_found row column r d q.pattern.columns (symbols_of q.pattern.cells)
        (e.image (number r d)) (e.answer (number r d))
        ∙ none (is_match (e.answer (number r d))) (named_other row column r d n))
        ∙ entry_times_found row column row column q.pattern.columns (symbols_of q.pattern.cells)
        (e.image (number row column)) (e.answer (number row column))
        ∙ ap (λ (t : Bool). pick matches_here (pick t 1 0) 0) (named_same row column)
      where
        none : {t : Bool} (b : Bool) → t ≡ false → ◌≡◌ {A = ℕ} (pick b (pick t 1 0) 0) 0
        none true f = rw f
        none false f = refl

    refused_times : times_refused records row column ≡ pick matches_here 0 1
    unfolding times_refused entry_shown
    refused_times =
        times (names_refused row column) row column c refl
        (λ r d n. entry_times_refused row column r d q.pattern.columns (symbols_of q.pattern.cells)
        (e.image (number r d)) (e.answer (number r d))
        ∙ none (is_match (e.answer (number r d))) (named_other row column r d n))
        ∙ entry_times_refused row column row column q.pattern.columns (symbols_of q.pattern.cells)
        (e.image (number row column)) (e.answer (number row column))
        ∙ ap (λ (t : Bool). pick matches_here 0 (pick t 1 0)) (named_same row column)
      where
        none : {t : Bool} (b : Bool) → t ≡ false → ◌≡◌ {A = ℕ} (pick b 0 (pick t 1 0)) 0
        none true f = refl
        none false f = rw f

    -- as its entry says, which is true
    stands_found_lem : (matches_here ≡ true) ↔ MatchesAt q row column
    stands_found_lem =
        true_match (pattern_of q) (window_in q row column) (positions q) (e.image (number row column))
        (e.answer (number row column)) (true_at row column c)

    stands_refused : (matches_here ≡ false) ↔ (MatchesAt q row column → ⊥)
    stands_refused =
        true_refused (pattern_of q) (window_in q row column) (positions q) (e.image (number row column))
        (e.answer (number row column)) (true_at row column c)

    -- ---- what the records of the window are

    shown : Shown q row column (entry_shown row column)
    unfolding entry_shown
    shown = go (e.answer (number row column)) (true_at row column c)
      where
        many : length (symbols_of q.pattern.cells) ≡ distinct q.pattern.cells
        many =
            length-members (contains q.pattern.cells) 256 ∙ distinct_count q.pattern.cells 256 (λ i h. bytes i)

        go : (a : Answer) → TrueOf (pattern_of q) (window_in q row column) (positions q) (e.image (number row column)) a
            → Shown q row column (entry_of row column q.pattern.columns (symbols_of q.pattern.cells)
            (e.image (number row column)) a)
        go matched f =
            rw (entry_found row column q.pattern.columns (symbols_of q.pattern.cells)
            (e.image (number row column)))
            (as_found (symbols_of q.pattern.cells) (e.image (number row column))
            (right_pairs q.pattern.cells (window_in q row column) (positions q) (e.image (number row column)) bytes
            f) many)
        go (mismatched side i j) d =
            rw (entry_refused row column q.pattern.columns (symbols_of q.pattern.cells)
            (e.image (number row column)) side i j) (as_refused side i j (omega (arith, d.0)) d.1)

  pub keeps_shows : Shows q listing found refused entry_shown
  keeps_shows =
      record {
        bytes_are = keeps.bytes_are ∙ ap bytes_all records_same;
        each_shown = shown;
        just_once =
            λ row column c. omega (
              arith,
              found_times row column c,
              refused_times row column c,
              one_of_two
                  (is_match (e.answer (number row column))),
            );
        refused_iff = λ row column c. (
          (λ t. (stands_refused row column c).0
              ((one_unless (is_match (e.answer (number row column)))).0 (sym (refused_times row column c) ∙ t))),
          (λ none. refused_times row column c
              ∙ (one_unless (is_match (e.answer (number row column)))).1 ((stands_refused row column c).1 none)),
        );
        found_iff = λ row column c. (
          (λ t. (stands_found_lem row column c).0
              ((one_if (is_match (e.answer (number row column)))).0 (sym (found_times row column c) ∙ t))),
          (λ f. found_times row column c
              ∙ (one_if (is_match (e.answer (number row column)))).1 ((stands_found_lem row column c).1 f)),
        );
        found_is = omega (arith, found_total);
        refused_is = omega (arith, refused_total);
        sum_is = omega (arith, total);
      }
    where
      found_same : (k : ℕ) → k < all → is_match (e.answer k) ≡ ltb 0 (times_found records (k / across) (k % across))
      found_same k h =
          sym (ap (ltb 0) (found_times (k / across) (k % across) (corner_of_lem q k h))
          ∙ some_if (is_match (e.answer (number (k / across) (k % across))))
          ∙ ap (λ (j : ℕ). is_match (e.answer j)) (number_of k))

      refused_same : (k : ℕ) → k < all → not (is_match (e.answer k))
          ≡ ltb 0 (times_refused records (k / across) (k % across))
      refused_same k h =
          sym (ap (ltb 0) (refused_times (k / across) (k % across) (corner_of_lem q k h))
          ∙ some_unless (is_match (e.answer (number (k / across) (k % across))))
          ∙ ap (λ (j : ℕ). not (is_match (e.answer j))) (number_of k))

      found_total : found ≡ count (λ k. ltb 0 (times_found records (k / across) (k % across))) all
      found_total =
          keeps.found_is ∙ count_ext (λ k. is_match (e.answer k))
          (λ k. ltb 0 (times_found records (k / across) (k % across))) all found_same

      refused_total : refused ≡ count (λ k. ltb 0 (times_refused records (k / across) (k % across))) all
      refused_total =
          keeps.refused_is ∙ count_ext (λ k. not (is_match (e.answer k)))
          (λ k. ltb 0 (times_refused records (k / across) (k % across))) all refused_same

      total : found + refused ≡ (q.text.rows - q.pattern.rows + 1) * (q.text.columns - q.pattern.columns + 1)
      total =
          let s = keeps.posed_is.shape.sized.fitting in
          let down : q.text.rows + 1 - q.pattern.rows ≡ q.text.rows - q.pattern.rows + 1 = omega arith in
          let wide : q.text.columns + 1 - q.pattern.columns
          ≡ q.text.columns - q.pattern.columns + 1 = omega arith in
          ap₂ (λ (x y : ℕ). x + y) keeps.found_is keeps.refused_is ∙ count_not (λ k. is_match (e.answer k)) all
          ∙ ap₂ (λ (x y : ℕ). x * y) down wide
