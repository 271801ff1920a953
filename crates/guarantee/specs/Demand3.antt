-- Demand 3: what holds of a text, a pattern, a listing, found and refused, whoever made the listing (`Demand3`); and
-- the demand itself, that it holds of every listing that the check passes (`OfTheCheck`), and of every one that the
-- search writes (`OfTheSearch`) or List (`OfTheList`), where besides each window's records list its one-window answer.
-- Its sentences are those of the demand and of the last paragraph of document 01's 'Reading and checking'. That they
-- hold is `demand_3` of `Theorems`. A one-to-one renaming is there a one-to-one mapping of the pattern's symbols
-- (document 004's definition); that it is the same as document 01's renaming, two columns that agree, is theory's
-- `matches_columns`; `Corollaries` says it of a listing.
-- Assumes nothing.
pub mod Standing
pub mod Times
use Rattle.std.specs.Prelude.{◌≡◌, List, [], ◌∷◌, ◌++◌, ℕ, ◌+◌, ◌*◌, ◌<◌, ◌-◌, take, length, ◌↔◌, Bool, false, eqb, ltb}
use Rattle.std.specs.Prelude.{Result, Ok}
use Rattle.theory.specs.Bytes.{Bytes}
use Rattle.theory.specs.Match.{Mismatch}
use Rattle.shapes.specs.Questions.{Question, across_of, windows_of}
use Rattle.sets.specs.Symbols.{symbols_of}
use Rattle.matching.specs.Compare.{pattern_of, window_in, positions, CornerIn, told, one_window_of, MatchesAt}
use Rattle.matching.specs.declared.compare.Verdict.{Verdict}
use Rattle.refusals.specs.declared.refusals.Refusal.{Refusal}
use Rattle.listing.specs.declared.records.Record.{Record}
use Rattle.entries.specs.Listing.{verdict_records}
use Rattle.searched.specs.Search.{totalling, Lent, done, search_of, list_done, list_of}
use Rattle.rules.specs.Check.{checked_said, check_of}
use Rattle.rules.specs.Check.{kept}
use Rattle.theory.specs.Test.{pick, both}
use Rattle.theory.specs.Join.{joined}
use Rattle.theory.specs.Count.{count}
use Rattle.cells.specs.Windows.{corner_row, corner_column}
use Rattle.occurrences.specs.Distinct.{distinct}
use Rattle.listing.specs.Entries.{bytes_all, pairs_of, mismatch_body_at, mismatch_record, RightPairs}
use Rattle.listing.specs.declared.records.MismatchBody.{MismatchBody}
use Rattle.listing.specs.declared.records.Record.TheVariants.{Found, Pair, Closing}
use Rattle.listing.specs.declared.records.Record.TheVariants.{Mismatch as MismatchRecord}

-- ---- how a window stands in records

-- a kind 1 names the window at (row, column)
abbrev pub names_found : ℕ → ℕ → Record → Bool
names_found row column (Found r c) = both (eqb r row) (eqb c column)
names_found row column (Pair a b) = false
names_found row column (MismatchRecord alike body) = false
names_found row column (Closing a b) = false

-- a body of a mismatch names it
abbrev pub names_window : ℕ → ℕ → MismatchBody → Bool
names_window row column body = both (eqb body.window.row row) (eqb body.window.column column)

-- a kind 3 or 4 names it
abbrev pub names_refused : ℕ → ℕ → Record → Bool
names_refused row column (Found r c) = false
names_refused row column (Pair a b) = false
names_refused row column (MismatchRecord alike body) = names_window row column body
names_refused row column (Closing a b) = false

-- how many records pass a test
unfoldable pub how_many : (Record → Bool) → List Record → ℕ
how_many P [] = 0
how_many P (r ∷ rs) = pick (P r) 1 0 + how_many P rs

-- how often the window stands there as found
unfoldable pub times_found : List Record → ℕ → ℕ → ℕ
times_found records row column = how_many (names_found row column) records

-- and how often as refused
unfoldable pub times_refused : List Record → ℕ → ℕ → ℕ
times_refused records row column = how_many (names_refused row column) records

-- ---- the records of one window

-- a kind 1 and its d pairs, which are its renaming: one for each symbol of the pattern, rising, carrying the pattern
-- onto the window, one-to-one; or one kind 3 or 4, with two cells, the earlier first, alike on one side only as the
-- kind says
pub data Shown (q : Question) (row column : ℕ) : List Record → Type 0 where
  as_found : (symbols : List ℕ) (image : ℕ → ℕ)
      → RightPairs q.pattern.cells (window_in q row column) (positions q) symbols image
      → length symbols ≡ distinct q.pattern.cells → Shown q row column (Found row column ∷ pairs_of image symbols)
  as_refused : (side : Bool) (earlier later : ℕ) → later < positions q
      → Mismatch side (pattern_of q) (window_in q row column) earlier later
      → Shown q row column (mismatch_record side (mismatch_body_at row column q.pattern.columns earlier later) ∷ [])

-- ---- the demand

-- the records in their order: for each window, row by row, its own; then kind 5, and there the listing ends
unfoldable pub records_of : Question → (ℕ → ℕ → List Record) → ℕ → ℕ → List Record
records_of q entry found refused =
    joined (λ k. entry (corner_row (across_of q) k) (corner_column (across_of q) k)) (windows_of q)
    ++ (Closing found refused ∷ [])

-- how many windows stand there as found
abbrev pub windows_found : Question → List Record → ℕ
windows_found q records =
    count (λ k. ltb 0 (times_found records (corner_row (across_of q) k) (corner_column (across_of q) k))) (windows_of q)

-- and how many as refused
abbrev pub windows_refused : Question → List Record → ℕ
windows_refused q records =
    count (λ k. ltb 0 (times_refused records (corner_row (across_of q) k) (corner_column (across_of q) k))) (windows_of q)

-- where `entry` gives the records of the window at (row, column)
pub record Shows (q : Question) (listing : List ℕ) (found refused : ℕ) (entry : ℕ → ℕ → List Record) : Type 0 where
  -- the listing holds its records in their order and nothing else
  pub bytes_are : listing ≡ bytes_all (records_of q entry found refused)
  -- each window's records are right
  pub each_shown : (row column : ℕ) → CornerIn q row column → Shown q row column (entry row column)
  -- every window stands there just once, as found or as refused
  pub just_once : (row column : ℕ) → CornerIn q row column
      → times_found (records_of q entry found refused) row column + times_refused (records_of q entry found refused) row
      column ≡ 1
  -- as refused exactly when no one-to-one mapping of symbols carries the pattern onto it
  pub refused_iff : (row column : ℕ) → CornerIn q row column
      → (times_refused (records_of q entry found refused) row column ≡ 1) ↔ (MatchesAt q row column → ⊥)
  -- otherwise as found
  pub found_iff : (row column : ℕ) → CornerIn q row column
      → (times_found (records_of q entry found refused) row column ≡ 1) ↔ MatchesAt q row column
  -- found and refused, also in the closing, are the numbers of windows so standing
  pub found_is : found ≡ windows_found q (records_of q entry found refused)
  pub refused_is : refused ≡ windows_refused q (records_of q entry found refused)
  -- found + refused = (R − r + 1) × (C − c + 1)
  pub sum_is : found + refused ≡ (q.text.rows - q.pattern.rows + 1) * (q.text.columns - q.pattern.columns + 1)

-- demand 3, of a text and a pattern, a listing, found and refused
abbrev pub Demand3 : Question → List ℕ → ℕ → ℕ → Type 0
Demand3 q listing found refused = (entry : ℕ → ℕ → List Record) × Shows q listing found refused entry

-- ---- of every listing that our check passes, or our search or our List writes (`demand_3` of `Theorems`)

-- of every listing that the check accepts
abbrev pub OfTheCheck : Type 0
OfTheCheck =
    (q : Question) (listing : List ℕ) (found refused : ℕ)
    → checked_said (kept found refused) ≡ check_of q listing
    → Bytes q.pattern.cells × Bytes listing
    → Demand3 q listing found refused

-- each window's one-window question, by what it ensures, is answered, and the window's records list the verdict
abbrev pub ListsAnswers : Question → (ℕ → ℕ → List Record) → Type 0
ListsAnswers q entry =
    (row column : ℕ) → CornerIn q row column → (a : Result Verdict Refusal) → told a ≡ one_window_of q row column
    → (v : Verdict) × (a ≡ Ok v)
    × (entry row column ≡ verdict_records row column q.pattern.columns (symbols_of q.pattern.cells) v)

-- of every listing that the search writes: as many first bytes of the listing buffer after it as the returned length
-- says. There besides each window's records list its one-window answer.
abbrev pub OfTheSearch : Type 0
OfTheSearch =
    (q : Question) (l after : Lent) (found refused size : ℕ)
    → done (totalling found refused size) after ≡ search_of q l → Bytes q.pattern.cells
    → (entry : ℕ → ℕ → List Record) × Shows q (take size after.listing) found refused entry × ListsAnswers q entry

-- of every listing that List writes, whoever made the flags that it was lent: the same
abbrev pub OfTheList : Type 0
OfTheList =
    (q : Question) (flags old after : List ℕ) (found refused size : ℕ)
    → list_done (totalling found refused size) after ≡ list_of q flags old → Bytes q.pattern.cells
    → (entry : ℕ → ℕ → List Record) × Shows q (take size after) found refused entry × ListsAnswers q entry
