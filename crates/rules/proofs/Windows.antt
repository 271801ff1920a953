-- All windows, and the closing: the walk passes them (`windows_sound`, `windows_complete`, `closing_sound`,
-- `closing_complete`) exactly where true entries of the windows stand at the listing's front, and the closing behind
-- them at its end. Why it holds: window by window the bytes passed so far are the bytes of the entries so far; and
-- where entries make up the listing, each stands where the one before it ends.
-- Assumes nothing.
use Rattle.std.proofs.Common.{◌≡◌, refl, Bool, true, List, [], ◌∷◌, ◌++◌, eqb, get_or, sym, ap, ◌∙◌, subst}
use Rattle.std.proofs.Common.{div-add-mod', zero-add, length-append, ℕ, zero, suc, ◌+◌, ◌*◌, ◌/◌, ◌%◌, ◌≤◌, ◌<◌, arith}
use Rattle.std.proofs.Common.{length, Ok, Err}
use Rattle.theory.specs.Test.{Tested, holds, fails}
use Rattle.theory.specs.Test.Laws.{is_true, says_true, eq_tested, lt_tested, both_tested}
use Rattle.theory.specs.Join.{joined}
use Rattle.theory.specs.Join.Laws.{joined-zero, joined-suc}
use Rattle.theory.specs.Match.{is_match}
use Rattle.theory.specs.Bytes.{Bytes}
use Rattle.shapes.specs.Questions.{Question}
use Rattle.matching.specs.Compare.{pattern_of, positions}
use Rattle.view.specs.Places.{window_of, cell_count}
use Rattle.listing.specs.Records.{bytes_of}
use Rattle.reading.specs.Reader.{bytes_from}
use Rattle.reading.specs.Reader.Reading.{size_closing, two_numbers}
use Rattle.listing.specs.Entries.{bytes_all}
use Rattle.listing.specs.Entries.Laws.{bytes_none, bytes_append}
use Rattle.listing.specs.declared.records.Record.TheVariants.{Closing}
use Rattle.claims.specs.Claims.{onward, byte_at, stands}
use Rattle.claims.specs.Claims.{Walk}
use Rattle.rules.specs.Check.{place_reached, place_in, entry_from, windows_to, stands_found, right_closing}
use Rattle.rules.specs.Check.{closing_from}
use Rattle.rules.specs.Rules.Bytes.{Holds, holds_none, holds_both, holds_first, holds_second, holds_byte}
use Rattle.rules.specs.Rules.Bytes.{holds_stands, stands_holds}
use Rattle.rules.specs.Rules.{TrueOf, Entries, records_at, records_to}
use Rattle.claims.specs.Walks.{goes_not_stops}
use Rattle.rules.specs.Rules.Pairs.{goes_on, goes_to}
use Rattle.rules.proofs.Entry.{answer_read, image_read, EntryRight, entry_sound, entry_complete}

-- the walk goes on past a part only if that part passed
pub onward_goes : (c : Walk) (after : ℕ → Walk) (end : ℕ) → onward c after ≡ Ok end
    → (at : ℕ) × (c ≡ Ok at) × (after at ≡ Ok end)
onward_goes (Ok at) after end e = (at, refl, e)
onward_goes (Err why) after end e = absurd (goes_not_stops end why (sym e))

-- ---- the closing

closing_tested : (listing : List ℕ) (found refused at : ℕ)
    → Tested ((byte_at listing at 1 * 256 + byte_at listing at 2 ≡ found)
    × (byte_at listing at 3 * 256 + byte_at listing at 4 ≡ refused)) (right_closing listing found refused at)
unfolding right_closing
closing_tested listing found refused at =
    both_tested (eq_tested (byte_at listing at 1 * 256 + byte_at listing at 2) found)
    (eq_tested (byte_at listing at 3 * 256 + byte_at listing at 4) refused)

pub closing_sound : (listing : List ℕ) (found refused at end : ℕ) → ((k : ℕ) → get_or listing k 0 < 256)
    → closing_from listing found refused at ≡ Ok end
    → Holds listing at (bytes_of (Closing found refused)) × (at + 5 ≡ length listing)
unfolding closing_from
closing_sound listing found refused at end bytes e =
    let f = goes_on (stands listing 5 at) _ _ end e in
    let g = goes_on (right_closing listing found refused at) _ _ end f.1 in
    let h = goes_on (eqb (at + 5) (length listing)) _ _ end g.1 in
    let t = says_true (closing_tested listing found refused at) g.0 in
    let same : bytes_of (Closing found refused) ≡ 5 ∷ bytes_from listing at 1 4 =
    ap (λ (b : List ℕ). 5 ∷ b)
    (two_numbers (byte_at listing at 1) (byte_at listing at 2) (byte_at listing at 3) (byte_at listing at 4) found
    refused
    (bytes (at + 2)) (bytes (at + 4)) (sym t.0) (sym t.1)) in (
      subst (Holds listing at) (sym same) (holds_stands listing at 5 4 size_closing f.0),
      says_true
          (eq_tested (at + 5) (length listing)) h.0,
    )

pub closing_complete : (listing : List ℕ) (found refused at : ℕ) → Holds listing at (bytes_of (Closing found refused))
    → at + 5 ≡ length listing
    → closing_from listing found refused at ≡ Ok (at + 5)
unfolding closing_from
closing_complete listing found refused at h e =
    let byte = holds_byte listing at (bytes_of (Closing found refused)) h in
    let st : stands listing 5 at ≡ true = stands_holds listing at 5
    ((found / 256) ∷ (found % 256) ∷ (refused / 256) ∷ (refused % 256) ∷ []) size_closing h in
    let right : right_closing listing found refused at ≡ true =
    is_true (closing_tested listing found refused at) (
      rw (byte 1 (omega arith), byte 2 (omega arith)) (div-add-mod' found 256),
      rw
          (byte 3 (omega arith), byte 4 (omega arith)) (div-add-mod' refused 256),
    ) in
    rw (st, right, is_true (eq_tested (at + 5) (length listing)) e)

-- ---- window after window

module _ (q : Question) (listing : List ℕ) (bytes : Bytes q.pattern.cells)
    (size : length q.pattern.cells ≡ positions q) (some : 0 < q.pattern.columns) where
  abbrev at_window : ℕ → Walk
  at_window k = windows_to q listing k

  -- the entries that the walk finds
  unfoldable pub entries_read : Entries
  entries_read =
      record {
        answer = λ k. answer_read q.pattern.columns listing (place_reached (at_window k));
        image = λ k.
            image_read q.pattern.cells listing (place_reached (at_window k));
      }

  abbrev pub bytes_to : Entries → ℕ → List ℕ
  bytes_to e k = bytes_all (records_to q e k)

  records_none : (e : Entries) → bytes_to e 0 ≡ []
  unfolding records_to
  records_none e =
      ap bytes_all (joined-zero (λ k. records_at q.pattern.cells (place_in q k) (e.image k) (e.answer k)))
      ∙ bytes_none

  records_more : (e : Entries) (k : ℕ) → bytes_to e (suc k) ≡ bytes_to e k
      ++ bytes_all (records_at q.pattern.cells (place_in q k) (e.image k) (e.answer k))
  unfolding records_to
  records_more e k =
      ap bytes_all (joined-suc (λ k. records_at q.pattern.cells (place_in q k) (e.image k) (e.answer k)) k)
      ∙ bytes_append (joined (λ k. records_at q.pattern.cells (place_in q k) (e.image k) (e.answer k)) k) _

  length_more : (e : Entries) (k : ℕ) → length (bytes_to e (suc k))
      ≡ length (bytes_to e k) + length (bytes_all
      (records_at q.pattern.cells (place_in q k) (e.image k) (e.answer k)))
  length_more e k =
      ap length (records_more e k) ∙ length-append (bytes_to e k)
      (bytes_all (records_at q.pattern.cells (place_in q k) (e.image k) (e.answer k)))

  -- entry k is true of window k
  abbrev pub TrueAt : Entries → ℕ → Type 0
  TrueAt e k =
      TrueOf (pattern_of q) (window_of q.text.cells (place_in q k)) (cell_count (place_in q k)) (e.image k)
      (e.answer k)

  -- the first k entries are true and stand there, and the next one begins at a place
  pub record PassedTo (e : Entries) (k at : ℕ) : Type 0 where
    pub at_is : at ≡ length (bytes_to e k)
    pub there : Holds listing 0 (bytes_to e k)
    pub trues : (j : ℕ) → j < k → TrueAt e j
    pub kinds : (j : ℕ) → j < k → is_match (e.answer j) ≡ stands_found q listing j

  -- one more
  reached_more : (k at end : ℕ) → at_window k ≡ Ok at → PassedTo entries_read k at
      → entry_from q.text.cells q.pattern.cells (place_in q k) listing at ≡ Ok end
      → PassedTo entries_read (suc k) end
  unfolding entries_read stands_found
  reached_more k at end e r f =
      record {
        at_is = omega (arith, here.end_is, r.at_is, length_more entries_read k);
        there =
            rw (records_more entries_read k)
            (holds_both listing 0 (bytes_to entries_read k) _ r.there
            (rw (zero-add (length (bytes_to entries_read k)), ← r.at_is) here.there));
        trues = λ j h. trues j (lt_tested j k) h;
        kinds = λ j h. kinds j (lt_tested j k) h;
      }
    where
      read : EntryRight q.text.cells q.pattern.cells (place_in q k) listing bytes size some at end
          (image_read q.pattern.cells listing at) (answer_read q.pattern.columns listing at)
      read = entry_sound q.text.cells q.pattern.cells (place_in q k) listing bytes size some at end f

      here : EntryRight q.text.cells q.pattern.cells (place_in q k) listing bytes size some at end
          (entries_read.image k) (entries_read.answer k)
      here = rw e read

      last : (j : ℕ) → (j < k → ⊥) → j < suc k → j ≡ k
      last j n h = omega arith

      trues : (j : ℕ) {t : Bool} → Tested (j < k) t → j < suc k → TrueAt entries_read j
      trues j (holds l) h = r.trues j l
      trues j (fails l) h = rw (last j l h) here.is_true_of

      kinds : (j : ℕ) {t : Bool} → Tested (j < k) t → j < suc k
          → is_match (entries_read.answer j) ≡ stands_found q listing j
      kinds j (holds l) h = r.kinds j l
      kinds j (fails l) h = rw (last j l h) (here.kind_is ∙ ap (stands listing 1) (sym (ap place_reached e)))

  pub windows_sound : (k at : ℕ) → at_window k ≡ Ok at → PassedTo entries_read k at
  unfolding windows_to
  windows_sound zero at e =
      record {
        at_is = sym (goes_to 0 at e) ∙ sym (ap length (records_none entries_read));
        there = rw (records_none entries_read) (holds_none listing 0);
        trues = λ j h. absurd (below j h);
        kinds = λ j h. absurd (below j h);
      }
    where
      below : (j : ℕ) → j < 0 → ⊥
      below j h = omega arith
  windows_sound (suc k) end e =
      let f = onward_goes (at_window k) (entry_from q.text.cells q.pattern.cells (place_in q k) listing) end e in
      reached_more k f.0 end f.1 (windows_sound k f.0 f.1) f.2

  -- the entries of the first k windows stand where the listing begins, if those of more windows do
  fewer : (e : Entries) (n k : ℕ) → k ≤ n → Holds listing 0 (bytes_to e n) → Holds listing 0 (bytes_to e k)
  fewer e zero k h t = let z : k ≡ 0 = omega arith in rw z t
  fewer e (suc n) k h t = go (fewer e n k) (lt_tested n k)
    where
      less : Holds listing 0 (bytes_to e n)
      less = holds_first listing 0 (bytes_to e n) _ (rw (records_more e n) at t)

      go : (k ≤ n → Holds listing 0 (bytes_to e n) → Holds listing 0 (bytes_to e k)) → {b : Bool} → Tested (n < k) b
          → Holds listing 0 (bytes_to e k)
      go ih (holds l) = let z : k ≡ suc n = omega arith in rw z t
      go ih (fails l) = ih (omega arith) less

  pub windows_complete : (e : Entries) (n : ℕ) → Holds listing 0 (bytes_to e n) → ((k : ℕ) → k < n → TrueAt e k)
      → (k : ℕ) → k ≤ n → at_window k ≡ Ok (length (bytes_to e k))
  unfolding windows_to
  windows_complete e n t trues zero h = ap Ok (sym (ap length (records_none e)))
  windows_complete e n t trues (suc k) h =
      let ih = windows_complete e n t trues k (omega arith) in
      let two = holds_second listing 0 (bytes_to e k) _ (rw (records_more e k) at (fewer e n (suc k) h t)) in
      let c = entry_complete q.text.cells q.pattern.cells (place_in q k) listing bytes size some
      (length (bytes_to e k)) (e.image k) (e.answer k) (trues k h)
      (rw (zero-add (length (bytes_to e k))) at two) in
      rw ih (c.0 ∙ ap Ok (sym (length_more e k)))

  -- and the windows stand as the entries say
  pub kinds_complete : (e : Entries) (n : ℕ) → Holds listing 0 (bytes_to e n) → ((k : ℕ) → k < n → TrueAt e k) → (k : ℕ)
      → k < n
      → stands_found q listing k ≡ is_match (e.answer k)
  unfolding stands_found
  kinds_complete e n t trues k h =
      let two = holds_second listing 0 (bytes_to e k) _ (rw (records_more e k) at (fewer e n (suc k) h t)) in
      ap (λ (c : Walk). stands listing 1 (place_reached c)) (windows_complete e n t trues k (omega arith))
      ∙ (entry_complete q.text.cells q.pattern.cells (place_in q k) listing bytes size some (length (bytes_to e k))
      (e.image k) (e.answer k) (trues k h)
      (rw (zero-add (length (bytes_to e k))) at two)).1
