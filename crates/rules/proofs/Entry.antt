-- The records of one window: the walk passes them (`entry_sound`, `entry_complete`) exactly where an entry that is true
-- of the window stands in the listing.
-- Assumes nothing.
use Rattle.std.proofs.Common.{◌≡◌, ℕ, ◌+◌, ◌*◌, ◌/◌, ◌%◌, ◌<◌, length, get_or, refl, ap, sym, ◌∙◌, arith, Bool, true}
use Rattle.std.proofs.Common.{false, List, [], ◌∷◌, ◌++◌, Ok, Err}
use Rattle.theory.specs.Test.{pick}
use Rattle.theory.specs.Test.Laws.{true_false, is_true, says_true, both_tested}
use Rattle.theory.specs.Count.{Rising}
use Rattle.theory.specs.Count.Laws.{members_iff, members_rising}
use Rattle.theory.specs.Match.{Maps, Mismatch, Answer, matched, mismatched, is_match}
use Rattle.sets.specs.Symbols.{symbols_of}
use Rattle.occurrences.specs.Distinct.{contains}
use Rattle.occurrences.specs.Distinct.Sets.{contains_none, contains_tested}
use Rattle.matching.specs.Compare.{cell_of_pattern}
use Rattle.view.specs.Places.{window_of, cell_count}
use Rattle.cells.specs.declared.windows.WindowPlace.{WindowPlace}
use Rattle.listing.specs.Records.{bytes_of, mismatch_bytes, kind_size}
use Rattle.reading.specs.Reader.{bytes_from}
use Rattle.reading.specs.Reader.Reading.{size_found, size_alike_in_pattern, size_alike_in_window}
use Rattle.listing.specs.Entries.{bytes_all, pairs_of, mismatch_body_at, mismatch_record}
use Rattle.listing.specs.Entries.Laws.{bytes_cons, bytes_one, entry_found, entry_refused, length_found, length_refused}
use Rattle.listing.specs.declared.records.Record.TheVariants.{Found}
use Rattle.refusals.specs.declared.refusals.Refusal.TheVariants.{ListingForm, ListingFalse}
use Rattle.claims.specs.Claims.{or_stop, byte_at, stands, pairs_from}
use Rattle.claims.specs.Claims.{Walk}
use Rattle.rules.specs.Check.{is_due, right_mismatch, entry_from}
use Rattle.rules.specs.Rules.Bytes.{Holds, holds_both, holds_first, holds_second, holds_byte, holds_stands}
use Rattle.rules.specs.Rules.Bytes.{stands_holds, stands_other}
use Rattle.rules.specs.Rules.{TrueOf, records_at}
use Rattle.rules.specs.Rules.Pairs.{goes_on, goes_to, image_in, PairsRight, pairs_sound, pairs_complete}
use Rattle.rules.specs.Rules.Mismatches.{due_tested, Spoils, spoils_tested, cells_bytes, spoils_at}
use Rattle.claims.specs.Mismatches.{cell_position}

-- the kind of a mismatch
abbrev kind_of : Bool → ℕ
kind_of side = pick side 3 4

-- how the window stands that has its records at a place
unfoldable pub answer_read : ℕ → List ℕ → ℕ → Answer
answer_read width listing at =
    pick (stands listing 1 at) matched
    (mismatched (stands listing 3 at) (byte_at listing at 3 * width + byte_at listing at 4)
    (byte_at listing at 5 * width + byte_at listing at 6))

-- and the images that its pairs give
abbrev pub image_read : List ℕ → List ℕ → ℕ → ℕ → ℕ
image_read pattern listing at = image_in listing (symbols_of pattern) (at + 3)

module _ (text pattern : List ℕ) (v : WindowPlace) (listing : List ℕ) (bytes : (k : ℕ) → get_or pattern k 0 < 256)
    (size : length pattern ≡ cell_count v) (some : 0 < v.width) where
  abbrev m : ℕ → ℕ
  m = cell_of_pattern pattern

  abbrev w : ℕ → ℕ
  w = window_of text v

  abbrev n : ℕ
  n = cell_count v

  rising : Rising (symbols_of pattern)
  rising = members_rising (contains pattern) 256

  -- a symbol is listed exactly if it stands in the pattern
  listed : (p : ℕ) → p < n → contains (symbols_of pattern) (m p) ≡ true
  listed p h =
      is_true (contains_tested (symbols_of pattern) (m p))
      ((members_iff (contains pattern) 256 (m p)).1
      (bytes p, is_true (contains_tested pattern (m p)) (p, omega arith, refl)))

  listed_place : (a : ℕ) → contains (symbols_of pattern) a ≡ true → (p : ℕ) × (p < n) × (m p ≡ a)
  listed_place a t =
      let e = says_true (contains_tested pattern a)
      ((members_iff (contains pattern) 256 a).0 (says_true (contains_tested (symbols_of pattern) a) t)).1 in
      (e.0, omega (arith, e.1), e.2)

  -- pairs that are right are a mapping, and the other way round
  pairs_map : (at : ℕ) (image : ℕ → ℕ) → PairsRight m w n listing (symbols_of pattern) [] at image → Maps m w n image
  pairs_map at image r =
      record {
        carries = λ p h. sym (r.images (m p) p (listed p h) h refl);
        one_to_one = λ p q h g e. r.apart (m p) (m q) (listed p h) (listed q g) e;
      }

  map_pairs : (at : ℕ) (image : ℕ → ℕ) → Maps m w n image
      → Holds listing at (bytes_all (pairs_of image (symbols_of pattern)))
      → PairsRight m w n listing (symbols_of pattern) [] at image
  map_pairs at image f h =
      record {
        there = h;
        images = λ a p c l e. sym (f.carries p l) ∙ ap image e;
        fresh = λ a c. contains_none (image a);
        apart = λ a b c d e. apart a b (listed_place a c) (listed_place b d) e;
      }
    where
      apart : (a b : ℕ) → (p : ℕ) × (p < n) × (m p ≡ a) → (q : ℕ) × (q < n) × (m q ≡ b) → image a ≡ image b → a ≡ b
      apart a b (p, h, d) (q, g, e) s = sym d ∙ f.one_to_one p q h g (ap image d ∙ s ∙ sym (ap image e)) ∙ e

  -- an entry that is true of the window stands at a place, and ends there
  pub record EntryRight (at end : ℕ) (image : ℕ → ℕ) (answer : Answer) : Type 0 where
    pub end_is : end ≡ at + length (bytes_all (records_at pattern v image answer))
    pub there : Holds listing at (bytes_all (records_at pattern v image answer))
    pub is_true_of : TrueOf m w n image answer
    pub kind_is : is_match answer ≡ stands listing 1 at

  -- ---- found

  found_bytes : (image : ℕ → ℕ) → bytes_all (records_at pattern v image matched) ≡ bytes_of (Found v.row v.column)
      ++ bytes_all (pairs_of image (symbols_of pattern))
  found_bytes image =
      ap bytes_all (entry_found v.row v.column v.width (symbols_of pattern) image)
      ∙ bytes_cons (Found v.row v.column) (pairs_of image (symbols_of pattern))

  found_sound : (at end : ℕ) → stands listing 1 at ≡ true → is_due v listing at ≡ true
      → pairs_from m w n listing (symbols_of pattern) [] (at + 3) ≡ Ok end
      → EntryRight at end (image_read pattern listing at) matched
  found_sound at end s d e =
      let t = says_true (due_tested v listing at) d in
      let r = pairs_sound m w n listing (symbols_of pattern) [] (at + 3) end rising e in
      let first : Holds listing at (bytes_of (Found v.row v.column)) = rw (← t.0, ← t.1)
      (holds_stands listing at 1 2 size_found s) in
      record {
        end_is =
            omega (
              arith,
              r.0,
              length_found v.row v.column v.width (symbols_of pattern)
                  (image_read pattern listing at),
            );
        there =
            rw (found_bytes (image_read pattern listing at))
            (holds_both listing at (bytes_of (Found v.row v.column))
            (bytes_all (pairs_of (image_read pattern listing at) (symbols_of pattern))) first r.1.there);
        is_true_of = pairs_map (at + 3) (image_read pattern listing at) r.1;
        kind_is = sym s;
      }

  -- ---- refused

  refused_bytes : (image : ℕ → ℕ) (side : Bool) (q p : ℕ)
      → bytes_all (records_at pattern v image (mismatched side q p))
      ≡ bytes_of (mismatch_record side (mismatch_body_at v.row v.column v.width q p))
  refused_bytes image side q p =
      ap bytes_all (entry_refused v.row v.column v.width (symbols_of pattern) image side q p)
      ∙ bytes_one (mismatch_record side (mismatch_body_at v.row v.column v.width q p))

  kind_bytes :
      (side : Bool) (q p : ℕ) → bytes_of (mismatch_record side (mismatch_body_at v.row v.column v.width q p))
      ≡ kind_of side ∷ v.row ∷ v.column ∷ (q / v.width) ∷ (q % v.width) ∷ (p / v.width) ∷ (p % v.width) ∷ []
  kind_bytes true q p = refl
  kind_bytes false q p = refl

  size_of : (side : Bool) → kind_size (kind_of side) ≡ 7
  size_of true = size_alike_in_pattern
  size_of false = size_alike_in_window

  cells_of : (side : Bool) → (at : ℕ) → right_mismatch side text pattern v listing at ≡ true
      → ((byte_at listing at 1 ≡ v.row) × (byte_at listing at 2 ≡ v.column))
      × Spoils side m w v.height v.width (byte_at listing at 3) (byte_at listing at 4) (byte_at listing at 5)
      (byte_at listing at 6)
  unfolding right_mismatch
  cells_of side at r =
      says_true (both_tested (due_tested v listing at)
      (spoils_tested m w side v.height v.width (byte_at listing at 3) (byte_at listing at 4) (byte_at listing at 5)
      (byte_at listing at 6))) r

  refused_sound : (side : Bool) (at end : ℕ) (image : ℕ → ℕ) → stands listing 1 at ≡ false
      → stands listing (kind_of side) at ≡ true
      → right_mismatch side text pattern v listing at ≡ true → ◌≡◌ {A = Walk} (Ok (at + 7)) (Ok end)
      → EntryRight at end image (mismatched side (byte_at listing at 3 * v.width + byte_at listing at 4)
      (byte_at listing at 5 * v.width + byte_at listing at 6))
  refused_sound side at end image none s r e =
      let t = cells_of side at r in
      let c = t.1 in
      record {
        end_is =
            omega (
              arith,
              goes_to (at + 7) end e,
              length_refused v.row v.column v.width (symbols_of pattern)
                  image side q p,
            );
        there =
            rw (refused_bytes image side q p ∙ as_read t) (holds_stands listing at (kind_of side) 6 (size_of side) s);
        is_true_of = (
          cell_position v (byte_at listing at 5) (byte_at listing at 6) c.later_row_inside c.later_column_inside,
          c.mismatch,
        );
        kind_is = sym none;
      }
    where
      q : ℕ
      q = byte_at listing at 3 * v.width + byte_at listing at 4

      p : ℕ
      p = byte_at listing at 5 * v.width + byte_at listing at 6

      of_kind : (side : Bool) → bytes_of (mismatch_record side (mismatch_body_at v.row v.column v.width q p))
          ≡ kind_of side ∷ mismatch_bytes (mismatch_body_at v.row v.column v.width q p)
      of_kind true = refl
      of_kind false = refl

      as_read : ((byte_at listing at 1 ≡ v.row) × (byte_at listing at 2 ≡ v.column))
          × Spoils side m w v.height v.width (byte_at listing at 3) (byte_at listing at 4) (byte_at listing at 5)
          (byte_at listing at 6)
          → bytes_of (mismatch_record side (mismatch_body_at v.row v.column v.width q p))
          ≡ kind_of side ∷ bytes_from listing at 1 6
      as_read t =
          of_kind side
          ∙ ap (λ (b : List ℕ). kind_of side ∷ b)
          (cells_bytes v.row v.column v.width (byte_at listing at 3) (byte_at listing at 4) (byte_at listing at 5)
          (byte_at listing at 6) t.1.column_inside t.1.later_column_inside
          ∙ rw (t.0.0, t.0.1))

  -- ---- both

  -- where the walk passes, the entry that stands there is true of the window
  pub entry_sound : (at end : ℕ) → entry_from text pattern v listing at ≡ Ok end
      → EntryRight at end (image_read pattern listing at) (answer_read v.width listing at)
  unfolding entry_from answer_read
  entry_sound at end e = go (stands listing 1 at) (stands listing 3 at) (stands listing 4 at) refl refl refl e
    where
      walk : Bool → Bool → Bool → Walk
      walk a b c =
          pick a (or_stop (is_due v listing at) (ListingFalse at)
          (pairs_from m w n listing (symbols_of pattern) [] (at + 3)))
          (pick b (or_stop (right_mismatch true text pattern v listing at) (ListingFalse at) (Ok (at + 7)))
          (pick c (or_stop (right_mismatch false text pattern v listing at) (ListingFalse at) (Ok (at + 7)))
          (Err (ListingForm at))))

      read : Bool → Bool → Answer
      read a b =
          pick a matched (mismatched b (byte_at listing at 3 * v.width + byte_at listing at 4)
          (byte_at listing at 5 * v.width + byte_at listing at 6))

      go : (a b c : Bool) → stands listing 1 at ≡ a → stands listing 3 at ≡ b → stands listing 4 at ≡ c
          → walk a b c ≡ Ok end
          → EntryRight at end (image_read pattern listing at) (read a b)
      go true b c s t u f = let d = goes_on (is_due v listing at) _ _ end f in found_sound at end s d.0 d.1
      go false true c s t u f =
          let d = goes_on (right_mismatch true text pattern v listing at) _ _ end f in refused_sound true at end _ s t
          d.0 d.1
      go false false true s t u f =
          let d = goes_on (right_mismatch false text pattern v listing at) _ _ end f in refused_sound false at end _ s u
          d.0 d.1
      go false false false s t u f =
          let d = goes_on false (ListingForm at) (Ok end) end f in absurd (true_false d.0 refl)

  found_complete : (at : ℕ) (image : ℕ → ℕ) → Maps m w n image
      → Holds listing at (bytes_all (records_at pattern v image matched))
      → (entry_from text pattern v listing at ≡ Ok (at + length (bytes_all (records_at pattern v image matched))))
      × (stands listing 1 at ≡ true)
  unfolding entry_from
  found_complete at image f h =
      let two : Holds listing at (bytes_of (Found v.row v.column)
      ++ bytes_all (pairs_of image (symbols_of pattern))) = rw (found_bytes image) at h in
      let first = holds_first listing at (bytes_of (Found v.row v.column))
      (bytes_all (pairs_of image (symbols_of pattern))) two in
      let second = holds_second listing at (bytes_of (Found v.row v.column))
      (bytes_all (pairs_of image (symbols_of pattern))) two in
      let st : stands listing 1 at ≡ true = stands_holds listing at 1 (v.row ∷ v.column ∷ []) size_found first in
      let due : is_due v listing at ≡ true =
      is_true (due_tested v listing at) (
        holds_byte listing at (bytes_of (Found v.row v.column)) first 1 (omega arith),
        holds_byte listing at
            (bytes_of (Found v.row v.column)) first 2 (omega arith),
      ) in
      let pairs = pairs_complete m w n listing (symbols_of pattern) [] (at + 3) image rising
      (map_pairs (at + 3) image f second) in (
        rw (st, due) (pairs ∙ ap Ok (omega
            (arith, length_found v.row v.column v.width (symbols_of pattern) image))),
        st,
      )

  module _ (side : Bool) (at : ℕ) (image : ℕ → ℕ) (q p : ℕ) (inside : p < n) (mismatch : Mismatch side m w q p)
      (h : Holds listing at (bytes_all (records_at pattern v image (mismatched side q p)))) where
    record_bytes : List ℕ
    record_bytes = v.row ∷ v.column ∷ (q / v.width) ∷ (q % v.width) ∷ (p / v.width) ∷ (p % v.width) ∷ []

    there : Holds listing at (kind_of side ∷ record_bytes)
    unfolding record_bytes
    there = rw (refused_bytes image side q p ∙ kind_bytes side q p) at h

    byte : (i : ℕ) → i < 7 → byte_at listing at i ≡ get_or (kind_of side ∷ record_bytes) i 0
    unfolding record_bytes
    byte i l = holds_byte listing at (kind_of side ∷ record_bytes) there i l

    right : right_mismatch side text pattern v listing at ≡ true
    unfolding right_mismatch record_bytes
    right =
        is_true
        (both_tested (due_tested v listing at)
        (spoils_tested m w side v.height v.width (byte_at listing at 3) (byte_at listing at 4) (byte_at listing at 5)
        (byte_at listing at 6))) (
          (byte 1 (omega arith), byte 2 (omega arith)),
          rw (byte 3 (omega arith), byte 4 (omega arith), byte 5 (omega arith), byte 6 (omega arith))
              (spoils_at side m w v.height v.width q p some inside mismatch),
        )

    not_found : stands listing 1 at ≡ false
    not_found = stands_other listing at (kind_of side) record_bytes 1 (differ side) there
      where
        differ : (s : Bool) → kind_of s ≡ 1 → ⊥
        differ true e = omega arith
        differ false e = omega arith

    stands_so : stands listing (kind_of side) at ≡ true
    unfolding record_bytes
    stands_so = stands_holds listing at (kind_of side) record_bytes (size_of side) there

  refused_complete : (side : Bool) (at : ℕ) (image : ℕ → ℕ) (q p : ℕ) → p < n → Mismatch side m w q p
      → Holds listing at (bytes_all (records_at pattern v image (mismatched side q p)))
      → (entry_from text pattern v listing at ≡ Ok (at + 7)) × (stands listing 1 at ≡ false)
  unfolding entry_from
  refused_complete true at image q p l d h =
      let none = not_found true at image q p l d h in
      (rw (none, stands_so true at image q p l d h, right true at image q p l d h), none)
  refused_complete false at image q p l d h =
      let none = not_found false at image q p l d h in
      let other : stands listing 3 at ≡ false = stands_other listing at 4 (record_bytes false at image q p l d h) 3
      (λ e. absurd (omega arith)) (there false at image q p l d h) in
      (rw (none, other, stands_so false at image q p l d h, right false at image q p l d h), none)

  -- and where an entry stands there that is true of the window, it passes
  pub entry_complete : (at : ℕ) (image : ℕ → ℕ) (answer : Answer) → TrueOf m w n image answer
      → Holds listing at (bytes_all (records_at pattern v image answer))
      → (entry_from text pattern v listing at ≡ Ok (at + length (bytes_all (records_at pattern v image answer))))
      × (stands listing 1 at ≡ is_match answer)
  entry_complete at image matched f h = found_complete at image f h
  entry_complete at image (mismatched side q p) d h =
      let c = refused_complete side at image q p d.0 d.1 h in (
        c.0 ∙ ap (λ (k : ℕ). Ok (at + k))
            (sym (length_refused v.row v.column v.width (symbols_of pattern) image side q p)),
        c.1,
      )
