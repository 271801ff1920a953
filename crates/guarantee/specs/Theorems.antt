-- DEMAND 3, one theorem over check, search and List (`demand_3`). It needs nothing but what the operations ensure: each
-- of its premises is an `ensures` of `check`, of `search`, of `list_windows` or, for the one-window answers, of
-- `one_window`. Why it holds: what the check accepts keeps the rules, the listing that search and List write keeps them
-- too (`search_keeps`), and a listing that keeps the rules is as the demand says (`keeps_shows`).
-- Assumes nothing.
use Rattle.std.specs.Prelude.{◌≡◌, refl, List, ℕ, ◌+◌, ◌*◌, ◌<◌, take, ◌↔◌, Result, Ok}
use Rattle.std.proofs.Common.{◌∙◌, arith}
use Rattle.theory.specs.Bytes.{Bytes}
use Rattle.theory.specs.Match.{Answer, matched, mismatched, answer_of, image_of}
use Rattle.theory.specs.Match.Even.{maps_even, even_maps}
use Rattle.theory.specs.Match.Answers.{match_iff, mismatch_iff}
use Rattle.theory.specs.Match.Bijections.{MatchesColumns}
use Rattle.shapes.specs.Questions.{Question, Posed, across_of}
use Rattle.sets.specs.Symbols.{symbols_of}
use Rattle.cells.specs.Windows.Laws.{corner_row_lem, corner_column_lem}
use Rattle.matching.specs.Compare.{pattern_of, window_in, positions, CornerIn, told, one_window_of}
use Rattle.matching.specs.declared.compare.Verdict.{Verdict}
use Rattle.refusals.specs.declared.refusals.Refusal.{Refusal}
use Rattle.matching.specs.Questions.{answer_at}
use Rattle.entries.specs.Listing.{image_at, entry_of_window, found_in, refused_in, search_records, search_listing}
use Rattle.entries.specs.Listing.{verdict_records}
use Rattle.listing.specs.declared.records.Record.{Record}
use Rattle.searched.specs.Search.{totalling, Lent, done, search_of, list_done, list_of}
use Rattle.searched.specs.Search.Writes.{Writes, writes_bytes, searched_writes, listed_writes}
use Rattle.searched.specs.Theorems.{lists_answer}
use Rattle.rules.specs.Check.{checked_said, check_of}
use Rattle.rules.specs.Rules.{TrueOf, Entries, records_to, Keeps}
use Rattle.rules.proofs.Theorems.{accepts_all, accepts_only}
use Rattle.rules.specs.Check.{Checked}
use Rattle.rules.specs.Check.{kept}
use Rattle.guarantee.specs.Demand3.{times_found, records_of, Shows, ListsAnswers, OfTheCheck, OfTheSearch}
use Rattle.guarantee.specs.Demand3.{OfTheList}
use Rattle.guarantee.specs.Corollaries.{found_columns}
use Rattle.guarantee.specs.Demand3.Standing.{entry_shown, keeps_shows}

-- ---- what the search writes keeps the rules

-- the one-window answer is true of its window
answer_true : (m w : ℕ → ℕ) (n : ℕ) → TrueOf m w n (image_of m w n) (answer_of m w n)
answer_true m w n = go (answer_of m w n) refl
  where
    go : (a : Answer) → answer_of m w n ≡ a → TrueOf m w n (image_of m w n) a
    go matched e = let f = (match_iff m w n).0 e in even_maps m w n (maps_even m w n f.0 f.1)
    go (mismatched side q p) e = let l = (mismatch_iff m w n side q p).0 e in (l.inside, l.mismatch)

module _ (q : Question) where
  -- its entries: every window's answer and image
  unfoldable pub search_entries : Entries
  search_entries = record { answer = answer_at q; image = image_at q }

  pub search_keeps : Posed q → Keeps q (search_listing q) (found_in q) (refused_in q) search_entries
  unfolding search_listing search_records entry_of_window found_in refused_in records_to search_entries
  search_keeps p =
      record {
        posed_is = p;
        each_true = λ k h. answer_true _ _ _;
        found_is = refl;
        refused_is = refl;
        bytes_are = refl;
      }

  -- ---- an accepted search, or an accepted List: the listing stands at the front of a buffer

  module _ (old after : List ℕ) (found refused size : ℕ) (bytes : Bytes q.pattern.cells)
      (w : Writes q old after found refused size) where
    -- it is as many first bytes of the buffer as the returned length says
    pub written_keeps : Keeps q (take size after) found refused search_entries
    written_keeps =
        rw (writes_bytes q old after found refused size bytes w, w.found_is, w.refused_is)
        (search_keeps w.posed_is)

    -- each window's one-window question is answered, and the window's records list the verdict
    written_answers : (row column : ℕ) → CornerIn q row column → (a : Result Verdict Refusal)
        → told a ≡ one_window_of q row column
        → (v : Verdict) × (a ≡ Ok v)
        × (entry_shown q (take size after) found refused search_entries written_keeps bytes row column
        ≡ verdict_records row column q.pattern.columns (symbols_of q.pattern.cells) v)
    unfolding entry_shown search_entries entry_of_window
    written_answers row column c a answers =
        let inside : column < across_of q = omega (arith, c.column_le) in
        let listed = lists_answer q row column inside a answers (record { posed_is = w.posed_is; corner = c }) in
        (listed.0, listed.1, entry_same inside ∙ listed.2)
      where
        entry_same : column < across_of q
            → entry_shown q (take size after) found refused search_entries written_keeps bytes row column
            ≡ entry_of_window q (row * across_of q + column)
        entry_same inside = rw (corner_row_lem (across_of q) row column inside, corner_column_lem (across_of q) row column inside)

    pub written_shows : (entry : ℕ → ℕ → List Record) × Shows q (take size after) found refused entry
        × ListsAnswers q entry
    written_shows = (
      entry_shown q (take size after) found refused search_entries written_keeps bytes,
      keeps_shows q (take size after) found refused search_entries written_keeps bytes,
      written_answers,
    )

-- ---- demand 3

pub demand_3 : OfTheCheck × OfTheSearch × OfTheList
demand_3 = (checked, searched, listed)
  where
    checked : OfTheCheck
    checked q listing found refused checks (pattern_bytes, listing_bytes) =
        let k = accepts_only q listing (kept found refused) checks pattern_bytes listing_bytes found refused refl in (
          entry_shown q listing found refused k.0 k.1 pattern_bytes,
          keeps_shows q listing found refused k.0
              k.1 pattern_bytes,
        )

    searched : OfTheSearch
    searched q l after found refused size searches pattern_bytes =
        written_shows q l.listing after.listing found refused size pattern_bytes
        (searched_writes q l after found refused size searches)

    listed : OfTheList
    listed q flags old after found refused size lists pattern_bytes =
        written_shows q old after found refused size pattern_bytes
        (listed_writes q flags old after found refused size lists)

-- what the search writes, the check accepts, with the same counts
pub search_then_check : (q : Question) (l after : Lent) (found refused size : ℕ)
    → done (totalling found refused size) after ≡ search_of q l → Bytes q.pattern.cells
    → (r : Checked) → checked_said r ≡ check_of q (take size after.listing) → r ≡ kept found refused
search_then_check q l after found refused size searches bytes r checks =
    accepts_all q (take size after.listing) r checks bytes found refused (
      search_entries q,
      written_keeps q l.listing after.listing found refused size bytes
          (searched_writes q l after found refused size searches),
    )

-- and what List writes
pub list_then_check : (q : Question) (flags old after : List ℕ) (found refused size : ℕ)
    → list_done (totalling found refused size) after ≡ list_of q flags old → Bytes q.pattern.cells
    → (r : Checked) → checked_said r ≡ check_of q (take size after) → r ≡ kept found refused
list_then_check q flags old after found refused size lists bytes r checks =
    accepts_all q (take size after) r checks bytes found refused (
      search_entries q,
      written_keeps q old after found refused size bytes
          (listed_writes q flags old after found refused size lists),
    )

-- document 01's renaming, from what the operations ensure alone: a window stands as found exactly if two columns that
-- agree carry the pattern onto it
pub checked_columns : (q : Question) (listing : List ℕ) (found refused : ℕ)
    (checks : checked_said (kept found refused) ≡ check_of q listing)
    (bytes : Bytes q.text.cells × Bytes q.pattern.cells × Bytes listing)
    (row column : ℕ) → CornerIn q row column
    → (times_found (records_of q (demand_3.0 q listing found refused checks (bytes.1, bytes.2)).0 found refused) row column ≡ 1)
    ↔ MatchesColumns (pattern_of q) (window_in q row column) (positions q)
checked_columns q listing found refused checks bytes row column c =
    found_columns q listing found refused (demand_3.0 q listing found refused checks (bytes.1, bytes.2)) row column c bytes.0
    bytes.1

pub searched_columns : (q : Question) (l after : Lent) (found refused size : ℕ)
    (searches : done (totalling found refused size) after ≡ search_of q l)
    (bytes : Bytes q.text.cells × Bytes q.pattern.cells)
    (row column : ℕ) → CornerIn q row column
    → (times_found (records_of q (demand_3.1 q l after found refused size searches bytes.1).0 found refused) row column
    ≡ 1)
    ↔ MatchesColumns (pattern_of q) (window_in q row column) (positions q)
searched_columns q l after found refused size searches bytes row column c =
    let d = demand_3.1 q l after found refused size searches bytes.1 in
    found_columns q (take size after.listing) found refused (d.0, d.1) row column c bytes.0 bytes.1

pub listed_columns : (q : Question) (flags old after : List ℕ) (found refused size : ℕ)
    (lists : list_done (totalling found refused size) after ≡ list_of q flags old)
    (bytes : Bytes q.text.cells × Bytes q.pattern.cells)
    (row column : ℕ) → CornerIn q row column
    → (times_found (records_of q (demand_3.2 q flags old after found refused size lists bytes.1).0 found refused) row column
    ≡ 1)
    ↔ MatchesColumns (pattern_of q) (window_in q row column) (positions q)
listed_columns q flags old after found refused size lists bytes row column c =
    let d = demand_3.2 q flags old after found refused size lists bytes.1 in
    found_columns q (take size after) found refused (d.0, d.1) row column c bytes.0 bytes.1
