-- The records of one window, and the closing, by what the reader answers: which way the walk goes, with the tests of
-- the code in the place of the bytes.
-- Assumes nothing.
use Rattle.std.proofs.Common.{◌≡◌, Bool, false, List, [], ◌∷◌, ℕ, ◌<◌, eqb, length, get_or, ◌⊎◌, refl, sym, ap, arith}
use Rattle.std.proofs.Common.{inl, inr, true, div-add-mod', eq-eqb, ne_eqb, Ok, Err}
use Rattle.theory.specs.Test.{both}
use Rattle.theory.specs.Test.Laws.{true_or_false, eq_tested, tested_same, tested_iff, says_true}
use Rattle.sets.specs.Symbols.{symbols_of}
use Rattle.refusals.specs.declared.refusals.Refusal.{Refusal}
use Rattle.refusals.specs.declared.refusals.Refusal.TheVariants.{ListingForm, ListingFalse}
use Rattle.matching.specs.Compare.{cell_of_pattern}
use Rattle.view.specs.Places.{window_of, cell_count}
use Rattle.cells.specs.declared.windows.WindowPlace.{WindowPlace}
use Rattle.listing.specs.Records.{bytes_of}
use Rattle.reading.specs.Reader.{read_said, cursor_said, bytes_from}
use Rattle.reading.specs.Reader.Reading.{HasRecord, has_inside}
use Rattle.listing.specs.declared.records.MismatchBody.{MismatchBody}
use Rattle.listing.specs.Entries.{in_pattern}
use Rattle.listing.specs.declared.records.Side.{Side}
use Rattle.listing.specs.declared.records.Side.TheVariants.{Pattern, Window}
use Rattle.listing.specs.declared.records.Record.{Record}
use Rattle.listing.specs.declared.records.Record.TheVariants.{Found, Pair, Mismatch, Closing}
use Rattle.reading.specs.declared.reader.Cursor.{Cursor}
use Rattle.claims.specs.Claims.{or_stop, byte_at, stands, true_mismatch_test, pairs_from}
use Rattle.claims.specs.Claims.{Walk}
use Rattle.rules.specs.Check.{is_due, right_mismatch, right_closing, entry_from, closing_from}
use Rattle.claims.specs.Walks.{goes_not_stops, MismatchAt}
use Rattle.claims.specs.Claims.Standing.{stands_tested, refused_stands, whole_byte, whole_stands, whole_other}
use Rattle.claims.specs.Claims.Standing.{whole_next}

-- ---- a mismatch

module _ (v : WindowPlace) (body : MismatchBody) (listing : List ℕ) (at : ℕ) (read : MismatchAt body listing at) where
  byte_is : (i : ℕ) → get_or (body.window.row ∷ body.window.column ∷ body.earlier.row ∷ body.earlier.column ∷
      body.later.row ∷ body.later.column ∷ []) i 0
      ≡ get_or (bytes_from listing at 1 6) i 0
  byte_is i = ap (λ (l : List ℕ). get_or l i 0) read

  -- the body names the window that is due
  pub due_of : is_due v listing at ≡ both (eqb body.window.row v.row) (eqb body.window.column v.column)
  unfolding is_due
  due_of = rw (byte_is 0, byte_is 1)

  -- and its cells are the record's
  pub cells_of : (side : Bool) (m w : ℕ → ℕ)
      → true_mismatch_test side m w v.height v.width (byte_at listing at 3) (byte_at listing at 4) (byte_at listing at
      5)
      (byte_at listing at 6)
      ≡ true_mismatch_test side m w v.height v.width body.earlier.row body.earlier.column body.later.row
      body.later.column
  cells_of side m w = rw (byte_is 2, byte_is 3, byte_is 4, byte_is 5)

  module _ (text pattern : List ℕ) (side : Bool) (next : ℕ) where
    -- the body names another window
    pub other_window : both (eqb body.window.row v.row) (eqb body.window.column v.column) ≡ false
        → Err (ListingFalse at) ≡ or_stop (right_mismatch side text pattern v listing at) (ListingFalse at) (Ok next)
    unfolding right_mismatch
    other_window e = rw (due_of, e)

    -- or its cells do not spoil the window
    module _ (due : both (eqb body.window.row v.row) (eqb body.window.column v.column) ≡ true) where
      pub mismatch_fails : true_mismatch_test side (cell_of_pattern pattern) (window_of text v) v.height v.width
          body.earlier.row body.earlier.column body.later.row body.later.column ≡ false
          → Err (ListingFalse at) ≡ or_stop (right_mismatch side text pattern v listing at) (ListingFalse at)
          (Ok next)
      unfolding right_mismatch
      mismatch_fails e = rw (due_of, due, cells_of side (cell_of_pattern pattern) (window_of text v), e)

      -- and where they do, the record is right
      pub mismatch_holds : true_mismatch_test side (cell_of_pattern pattern) (window_of text v) v.height v.width
          body.earlier.row body.earlier.column body.later.row body.later.column ≡ true
          → Ok next ≡ or_stop (right_mismatch side text pattern v listing at) (ListingFalse at) (Ok next)
      unfolding right_mismatch
      mismatch_holds e = rw (due_of, due, cells_of side (cell_of_pattern pattern) (window_of text v), e)

-- a mismatch that was read whole has its body behind the kind
six_are : (a b c d e f g h i j k l : ℕ) → a ≡ g → b ≡ h → c ≡ i → d ≡ j → e ≡ k → f ≡ l
    → a ∷ b ∷ c ∷ d ∷ e ∷ f ∷ [] ≡ g ∷ h ∷ i ∷ j ∷ k ∷ l ∷ []
six_are a b c d e f g h i j k l p q r s t u = rw (p, q, r, s, t, u)

pub mismatch_read : (alike : Side) (body : MismatchBody) (listing : List ℕ) (at : ℕ) (next : Cursor)
    → read_said (Ok (Mismatch alike body, next)) ≡ cursor_said listing at → MismatchAt body listing at
mismatch_read alike body listing at next r = go alike r
  where
    go : (alike : Side) → read_said (Ok (Mismatch alike body, next)) ≡ cursor_said listing at
        → MismatchAt body listing at
    go Pattern r =
        let byte = whole_byte listing at (Mismatch Pattern body) next r in
        sym (six_are _ _ _ _ _ _ _ _ _ _ _ _ (byte 1 (omega arith)) (byte 2 (omega arith)) (byte 3 (omega arith))
        (byte 4 (omega arith)) (byte 5 (omega arith)) (byte 6 (omega arith)))
    go Window r =
        let byte = whole_byte listing at (Mismatch Window body) next r in
        sym (six_are _ _ _ _ _ _ _ _ _ _ _ _ (byte 1 (omega arith)) (byte 2 (omega arith)) (byte 3 (omega arith))
        (byte 4 (omega arith)) (byte 5 (omega arith)) (byte 6 (omega arith)))

-- ---- the window's records, by the record that stands first

module _ (text pattern : List ℕ) (v : WindowPlace) (listing : List ℕ) (at : ℕ) where
  -- none does
  pub entry_none : (why : Refusal) → read_said (Err why) ≡ cursor_said listing at
      → Err (ListingForm at) ≡ entry_from text pattern v listing at
  unfolding entry_from
  entry_none why r =
      rw (refused_stands listing at why r 1, refused_stands listing at why r 3, refused_stands listing at why r 4)

  -- one of another kind does
  entry_other : (r : Record) (next : Cursor) → read_said (Ok (r, next)) ≡ cursor_said listing at
      → (get_or (bytes_of r) 0 0 ≡ 1 → ⊥) → (get_or (bytes_of r) 0 0 ≡ 3 → ⊥) → (get_or (bytes_of r) 0 0 ≡ 4 → ⊥)
      → Err (ListingForm at) ≡ entry_from text pattern v listing at
  unfolding entry_from
  entry_other r next reads a b c =
      rw (
        whole_other listing at r next reads 1 a,
        whole_other listing at r next reads 3 b,
        whole_other listing at r
            next reads 4 c,
      )

  pub entry_pair : (a b : ℕ) (next : Cursor) → read_said (Ok (Pair a b, next)) ≡ cursor_said listing at
      → Err (ListingForm at) ≡ entry_from text pattern v listing at
  entry_pair a b next r = entry_other (Pair a b) next r (λ e. omega arith) (λ e. omega arith) (λ e. omega arith)

  pub entry_closing : (a b : ℕ) (next : Cursor) → read_said (Ok (Closing a b, next)) ≡ cursor_said listing at
      → Err (ListingForm at) ≡ entry_from text pattern v listing at
  entry_closing a b next r = entry_other (Closing a b) next r (λ e. omega arith) (λ e. omega arith) (λ e. omega arith)

  -- a mismatch
  pub entry_mismatch : (alike : Side) (body : MismatchBody) (next : Cursor)
      → read_said (Ok (Mismatch alike body, next)) ≡ cursor_said listing at → (c : Walk)
      → c ≡ or_stop (right_mismatch (in_pattern alike) text pattern v listing at) (ListingFalse at) (Ok next.at)
      → c ≡ entry_from text pattern v listing at
  unfolding entry_from
  entry_mismatch Pattern body next r c e =
      rw (
        whole_other listing at (Mismatch Pattern body) next r 1 (λ z. omega arith),
        whole_stands listing at (Mismatch Pattern body) next r 3 refl,
        ← (whole_next listing at (Mismatch Pattern body) next r),
      )
      e
  entry_mismatch Window body next r c e =
      rw (
        whole_other listing at (Mismatch Window body) next r 1 (λ z. omega arith),
        whole_other listing at (Mismatch Window body) next r 3 (λ z. omega arith),
        whole_stands listing at (Mismatch Window body) next r 4 refl,
        ← (whole_next listing at (Mismatch Window body) next r),
      )
      e

  -- found: the window that is due, and its pairs
  module _ (row column : ℕ) (next : Cursor) (r : read_said (Ok (Found row column, next)) ≡ cursor_said listing at) where
    found_due : is_due v listing at ≡ both (eqb row v.row) (eqb column v.column)
    unfolding is_due
    found_due =
        rw (
          whole_byte listing at (Found row column) next r 1 (omega arith),
          whole_byte listing at (Found row column)
              next r 2 (omega arith),
        )

    pub entry_not_due : both (eqb row v.row) (eqb column v.column) ≡ false
        → Err (ListingFalse at) ≡ entry_from text pattern v listing at
    unfolding entry_from
    entry_not_due e = rw (whole_stands listing at (Found row column) next r 1 refl, found_due, e)

    pub found_entry_passes : both (eqb row v.row) (eqb column v.column) ≡ true → (c : Walk)
        → c ≡ pairs_from (cell_of_pattern pattern) (window_of text v) (cell_count v) listing (symbols_of pattern) []
        next.at
        → c ≡ entry_from text pattern v listing at
    unfolding entry_from
    found_entry_passes e c p =
        rw (
          whole_stands listing at (Found row column) next r 1 refl,
          found_due,
          e,
          ←
              (whole_next listing at (Found row column) next r),
        ) p

-- where the walk goes on, a whole record stands first, so that its kind alone says whether the window stands as found
module _ (text pattern : List ℕ) (v : WindowPlace) (listing : List ℕ) (at next : ℕ)
    (on : Ok next ≡ entry_from text pattern v listing at) where
  some_record : HasRecord listing at
  unfolding entry_from
  some_record =
      go (true_or_false (stands listing 1 at)) (true_or_false (stands listing 3 at))
      (true_or_false (stands listing 4 at))
    where
      whole : (kind : ℕ) → stands listing kind at ≡ true → HasRecord listing at
      whole kind s = (says_true (stands_tested listing at kind) s).1

      go : (stands listing 1 at ≡ true) ⊎ (stands listing 1 at ≡ false)
          → (stands listing 3 at ≡ true) ⊎ (stands listing 3 at ≡ false)
          → (stands listing 4 at ≡ true) ⊎ (stands listing 4 at ≡ false) → HasRecord listing at
      go (inl a) q r = whole 1 a
      go (inr a) (inl b) r = whole 3 b
      go (inr a) (inr b) (inl c) = whole 4 c
      go (inr a) (inr b) (inr c) = absurd (goes_not_stops next (ListingForm at) (rw (a, b, c) at on))

  pub goes_inside : at < length listing
  goes_inside = has_inside listing at some_record

  pub goes_found : eqb (get_or listing at 0) 1 ≡ stands listing 1 at
  goes_found =
      tested_same (tested_iff (λ e. (e, some_record)) (λ h. h.0) (eq_tested (get_or listing at 0) 1))
      (stands_tested listing at 1)

-- ---- the closing

module _ (listing : List ℕ) (found refused at : ℕ) where
  pub closing_none : (why : Refusal) → read_said (Err why) ≡ cursor_said listing at
      → Err (ListingForm at) ≡ closing_from listing found refused at
  unfolding closing_from
  closing_none why r = rw (refused_stands listing at why r 5)

  pub closing_other : (r : Record) (next : Cursor) → read_said (Ok (r, next)) ≡ cursor_said listing at
      → (get_or (bytes_of r) 0 0 ≡ 5 → ⊥) → Err (ListingForm at) ≡ closing_from listing found refused at
  unfolding closing_from
  closing_other r next reads n = rw (whole_other listing at r next reads 5 n)

  module _ (a b : ℕ) (next : Cursor) (r : read_said (Ok (Closing a b, next)) ≡ cursor_said listing at) where
    -- its counts are those of its bytes
    counts_are : right_closing listing found refused at ≡ both (eqb a found) (eqb b refused)
    unfolding right_closing
    counts_are =
        rw (
          whole_byte listing at (Closing a b) next r 1 (omega arith),
          whole_byte listing at (Closing a b) next r 2 (omega arith),
          whole_byte listing at (Closing a b) next r 3 (omega arith),
          whole_byte listing at (Closing a b) next r 4 (omega arith),
          div-add-mod' a 256,
          div-add-mod' b 256,
        )

    pub other_found : (a ≡ found → ⊥) → Err (ListingFalse at) ≡ closing_from listing found refused at
    unfolding closing_from
    other_found n = rw (whole_stands listing at (Closing a b) next r 5 refl, counts_are, ne_eqb a found n)

    pub other_refused : a ≡ found → (b ≡ refused → ⊥) → Err (ListingFalse at) ≡ closing_from listing found refused at
    unfolding closing_from
    other_refused e n =
        rw (whole_stands listing at (Closing a b) next r 5 refl, counts_are, eq-eqb a found e, ne_eqb b refused n)

    -- more behind it, and nothing
    pub closing_not_last : a ≡ found → b ≡ refused → (next.at ≡ length listing → ⊥)
        → Err (ListingForm next.at) ≡ closing_from listing found refused at
    unfolding closing_from
    closing_not_last e f n =
        rw (
          whole_stands listing at (Closing a b) next r 5 refl,
          counts_are,
          eq-eqb a found e,
          eq-eqb b refused f,
          ←
              (whole_next listing at (Closing a b) next r),
          ne_eqb next.at (length listing) n,
        )

    pub closing_last : a ≡ found → b ≡ refused → next.at ≡ length listing
        → Ok next.at ≡ closing_from listing found refused at
    unfolding closing_from
    closing_last e f n =
        rw (
          whole_stands listing at (Closing a b) next r 5 refl,
          counts_are,
          eq-eqb a found e,
          eq-eqb b refused f,
          ←
              (whole_next listing at (Closing a b) next r),
          eq-eqb next.at (length listing) n,
        )
