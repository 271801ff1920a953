-- The records of one window are those of its answer: a found window's pairs have the window's symbols at the first
-- place of each symbol, and a refused window's record has the mismatch that ends first and then begins first.
-- Assumes nothing.
use Rattle.std.specs.Prelude.{◌≡◌, refl, Bool, List, [], ◌∷◌, ℕ, ◌+◌, ◌*◌, ◌/◌, ◌%◌, ◌<◌, eqb, length, get_or}
use Rattle.std.proofs.Common.{sym, ap, ◌∙◌, mod-lt, div-lt_iff_lt-mul, arith}
use Rattle.theory.specs.Test.{pick, Tested, holds, fails}
use Rattle.theory.specs.Test.Laws.{lt_tested}
use Rattle.theory.specs.Count.Laws.{members_pass}
use Rattle.theory.specs.Match.{Answer, matched, mismatched, is_match, answer_of, image_of, first_end, earliest}
use Rattle.theory.specs.Match.{mismatch_ending}
use Rattle.theory.specs.Match.Even.{Even, maps_even, even_carries, earliest_le}
use Rattle.theory.specs.Match.Answers.{match_iff}
use Rattle.sets.specs.Symbols.{symbols_of}
use Rattle.occurrences.specs.Distinct.{contains}
use Rattle.matching.specs.Compare.{cell_of_pattern}
use Rattle.view.specs.Places.{window_of, cell_count}
use Rattle.matching.specs.Compare.Verdicts.{answer_mismatch, answer_match}
use Rattle.matching.specs.Windows.{SmallPlace}
use Rattle.cells.specs.declared.windows.WindowPlace.{WindowPlace}
use Rattle.listing.specs.Records.{bytes_of}
use Rattle.listing.specs.Entries.{bytes_all, pairs_of, entry_of, mismatch_body_at, mismatch_record}
use Rattle.listing.specs.Entries.Laws.{bytes_one, pairs_ext, entry_found, entry_refused}
use Rattle.listing.specs.declared.records.Record.{Record}
use Rattle.listing.specs.declared.records.Record.TheVariants.{Found}
use Rattle.entries.specs.Listing.{entry_at}
use Rattle.entries.specs.Listing.Length.{length_entry}
use Rattle.entries.specs.Listing.Offsets.{pair_places, first_place, place_stands}
use Rattle.entries.specs.declared.offsets.PairPlace.{PairPlace}

-- the window's symbol at the first place of each symbol
abbrev pub images_at : List ℕ → WindowPlace → List ℕ → ℕ → ℕ
images_at text v pattern a = window_of text v (first_place pattern a)

-- a found window's records, read at the first places
abbrev pub found_records : List ℕ → WindowPlace → List ℕ → List Record
found_records text v pattern = Found v.row v.column ∷ pairs_of (images_at text v pattern) (symbols_of pattern)

-- a window that the pattern does not match
pub record Unmatched (text : List ℕ) (v : WindowPlace) (pattern : List ℕ) : Type 0 where
  pub small : SmallPlace v
  pub size : length pattern ≡ cell_count v
  pub none : answer_of (cell_of_pattern pattern) (window_of text v) (cell_count v) ≡ matched → ⊥

-- a window with its flag, and the table that its pairs are read by
pub record Answered (text : List ℕ) (v : WindowPlace) (pattern : List ℕ) (flag : ℕ) (pairs : List PairPlace)
    : Type 0 where
  pub small : SmallPlace v
  pub size : length pattern ≡ cell_count v
  pub flag_is : flag ≡ pick (is_match (answer_of (cell_of_pattern pattern) (window_of text v) (cell_count v))) 1 0
  pub pairs_are : pairs ≡ pair_places pattern v.columns v.width

-- ---- a found window

module _ (text : List ℕ) (v : WindowPlace) (pattern : List ℕ) where
  -- the records read at the first places are those of the answer
  pub found_records_lem : length pattern ≡ cell_count v
      → answer_of (cell_of_pattern pattern) (window_of text v) (cell_count v) ≡ matched
      → found_records text v pattern ≡ entry_at text pattern v
  found_records_lem size yes_matched =
      ap (λ (rs : List Record). Found v.row v.column ∷ rs)
      (pairs_ext (images_at text v pattern) (image_of (cell_of_pattern pattern) (window_of text v) (cell_count v))
      (symbols_of pattern) same)
      ∙ sym (entry_found v.row v.column v.width (symbols_of pattern)
      (image_of (cell_of_pattern pattern) (window_of text v) (cell_count v)))
      ∙ ap (entry_of v.row v.column v.width (symbols_of pattern)
      (image_of (cell_of_pattern pattern) (window_of text v) (cell_count v))) (sym yes_matched)
    where
      even : Even (cell_of_pattern pattern) (window_of text v) (cell_count v)
      even =
          let f = (match_iff (cell_of_pattern pattern) (window_of text v) (cell_count v)).0 yes_matched in
          maps_even (cell_of_pattern pattern) (window_of text v) (cell_count v) f.0 f.1

      same : (i : ℕ) → i < length (symbols_of pattern)
          → images_at text v pattern (get_or (symbols_of pattern) i 0)
          ≡ image_of (cell_of_pattern pattern) (window_of text v) (cell_count v) (get_or (symbols_of pattern) i 0)
      same i l =
          let a = get_or (symbols_of pattern) i 0 in
          let s = place_stands pattern a (members_pass (contains pattern) 256 i l).1 in
          sym
          (ap (image_of (cell_of_pattern pattern) (window_of text v) (cell_count v)) (sym s.1)
          ∙ even_carries (cell_of_pattern pattern) (window_of text v) (cell_count v) even (first_place pattern a)
          (omega (arith, s.0)))

  -- the flag says which
  pub flag_matched :
      (flag : ℕ) → flag ≡ pick (is_match (answer_of (cell_of_pattern pattern) (window_of text v) (cell_count v))) 1 0
      → flag ≡ 1
      → answer_of (cell_of_pattern pattern) (window_of text v) (cell_count v) ≡ matched
  flag_matched flag e d = go (answer_of (cell_of_pattern pattern) (window_of text v) (cell_count v)) (sym e ∙ d)
    where
      go : (a : Answer) → ◌≡◌ {A = ℕ} (pick (is_match a) 1 0) 1 → a ≡ matched
      go matched x = refl
      go (mismatched s q p) x = absurd (omega arith)

  pub flag_unmatched : (flag : ℕ) → flag
      ≡ pick (is_match (answer_of (cell_of_pattern pattern) (window_of text v) (cell_count v))) 1 0 → (flag ≡ 1 → ⊥)
      → answer_of (cell_of_pattern pattern) (window_of text v) (cell_count v) ≡ matched → ⊥
  flag_unmatched flag e d x = d (e ∙ ap (λ (a : Answer). pick (is_match a) 1 0) x)

-- ---- a refused window

module _ (text : List ℕ) (v : WindowPlace) (pattern : List ℕ) (h : Unmatched text v pattern) (p q : ℕ)
    (ep : p ≡ first_end (cell_of_pattern pattern) (window_of text v) (cell_count v)) where
  -- a mismatch ends inside the window
  pub end_inside : p < cell_count v
  end_inside = go (lt_tested p (cell_count v))
    where
      go : {t : Bool} → Tested (p < cell_count v) t → p < cell_count v
      go (holds l) = l
      go (fails l) =
          absurd (h.none (answer_match (cell_of_pattern pattern) (window_of text v) p (cell_count v) ep (omega arith)))

  pub earlier_inside : q ≡ earliest (cell_of_pattern pattern) (window_of text v) p → q < cell_count v
  earlier_inside eq = omega (arith, end_inside, earliest_le (cell_of_pattern pattern) (window_of text v) p)

  -- the record is that of the answer
  pub refused_record : q ≡ earliest (cell_of_pattern pattern) (window_of text v) p
      → mismatch_record (eqb (get_or pattern q 0) (get_or pattern p 0)) (mismatch_body_at v.row v.column v.width q p)
      ∷ [] ≡ entry_at text pattern v
  unfolding mismatch_ending
  refused_record eq =
      sym (entry_refused v.row v.column v.width (symbols_of pattern) image
      (eqb (get_or pattern q 0) (get_or pattern p 0)) q p)
      ∙ ap (λ (k : ℕ). entry_of v.row v.column v.width (symbols_of pattern) image
      (mismatched (eqb (get_or pattern k 0) (get_or pattern p 0)) k p)) eq
      ∙ ap (entry_of v.row v.column v.width (symbols_of pattern) image)
      (sym (answer_mismatch (cell_of_pattern pattern) (window_of text v) p (cell_count v) ep end_inside))
    where
      image : ℕ → ℕ
      image = image_of (cell_of_pattern pattern) (window_of text v) (cell_count v)

  -- and so are its bytes
  pub refused_bytes : (alike : Bool) (item : Record) → q ≡ earliest (cell_of_pattern pattern) (window_of text v) p
      → alike ≡ eqb (get_or pattern q 0) (get_or pattern p 0)
      → item ≡ mismatch_record alike (mismatch_body_at v.row v.column v.width q p)
      → bytes_of item ≡ bytes_all (entry_at text pattern v)
  refused_bytes alike item eq s e =
      sym (bytes_one item) ∙ ap (λ (r : Record). bytes_all (r ∷ []))
      (e ∙ ap (λ (b : Bool). mismatch_record b (mismatch_body_at v.row v.column v.width q p)) s)
      ∙ ap bytes_all (refused_record eq)

-- a refused window has 7 bytes
pub refused_length : (text : List ℕ) (v : WindowPlace) (pattern : List ℕ)
    → (answer_of (cell_of_pattern pattern) (window_of text v) (cell_count v) ≡ matched → ⊥)
    → 7 ≡ length (bytes_all (entry_at text pattern v))
refused_length text v pattern none =
    sym (length_entry _ _ _ _ _ (answer_of (cell_of_pattern pattern) (window_of text v) (cell_count v)) ∙ go _ none)
  where
    go : (a : Answer) → (a ≡ matched → ⊥) → pick (is_match a) (3 + 3 * length (symbols_of pattern)) 7 ≡ 7
    go matched n = absurd (n refl)
    go (mismatched side q p) n = refl

-- row and column of a cell are bytes
pub row_byte : (v : WindowPlace) → SmallPlace v → (p : ℕ) → p < cell_count v → p / v.width < 256
row_byte v s p h = let l : p / v.width < v.height = (div-lt_iff_lt-mul s.some).1 h in omega (arith, s.height_small)

pub column_byte : (v : WindowPlace) → SmallPlace v → (p : ℕ) → p % v.width < 256
column_byte v s p = omega (arith, mod-lt p s.some, s.width_small)
