-- Document 01's rules of a listing, without a walk: for every window an entry that is true of it, found or refused, and
-- the bytes of these entries in their order, with the closing behind them, are the listing.
-- Assumes nothing.
pub mod Pairs
pub mod Mismatches
pub mod Bytes
use Rattle.std.specs.Prelude.{◌≡◌, not, List, [], ◌∷◌, ◌++◌, ℕ, ◌<◌}
use Rattle.theory.specs.Join.{joined}
use Rattle.theory.specs.Count.{count}
use Rattle.theory.specs.Match.{Maps, Mismatch, Answer, matched, mismatched, is_match}
use Rattle.shapes.specs.Questions.{Question, Posed, windows_of}
use Rattle.sets.specs.Symbols.{symbols_of}
use Rattle.matching.specs.Compare.{pattern_of}
use Rattle.view.specs.Places.{window_of, cell_count}
use Rattle.cells.specs.declared.windows.WindowPlace.{WindowPlace}
use Rattle.listing.specs.Entries.{bytes_all, entry_of}
use Rattle.rules.specs.Check.{place_in}
use Rattle.listing.specs.declared.records.Record.{Record}
use Rattle.listing.specs.declared.records.Record.TheVariants.{Closing}

-- an entry is true of its window: found, and the images of the pattern's symbols carry the pattern onto the window,
-- one-to-one; or refused, with two cells of the pattern, the earlier first, alike on one side only. Any such two will
-- do.
abbrev pub TrueOf : (ℕ → ℕ) → (ℕ → ℕ) → ℕ → (ℕ → ℕ) → Answer → Type 0
TrueOf m w n image matched = Maps m w n image
TrueOf m w n image (mismatched side q p) = (p < n) × Mismatch side m w q p

-- the records of the window at a place that stands there so: found, and a pair for each of the pattern's symbols,
-- rising; or the mismatch
abbrev pub records_at : List ℕ → WindowPlace → (ℕ → ℕ) → Answer → List Record
records_at pattern v image answer = entry_of v.row v.column v.width (symbols_of pattern) image answer

-- an entry for each window, by its number: how it stands, and the images of the pattern's symbols where it stands as
-- found
pub record Entries : Type 0 where
  pub answer : ℕ → Answer
  pub image : ℕ → ℕ → ℕ

-- the records of the first n windows in their order
unfoldable pub records_to : Question → Entries → ℕ → List Record
records_to q e n = joined (λ k. records_at q.pattern.cells (place_in q k) (e.image k) (e.answer k)) n

-- how many of the first n windows stand as found
abbrev pub found_among : Entries → ℕ → ℕ
found_among e n = count (λ k. is_match (e.answer k)) n

-- and how many as refused
abbrev pub refused_among : Entries → ℕ → ℕ
refused_among e n = count (λ k. not (is_match (e.answer k))) n

-- text and pattern fill their sides, and the pattern fits; these entries make the listing, with found and refused in
-- the closing
pub record Keeps (q : Question) (listing : List ℕ) (found refused : ℕ) (e : Entries) : Type 0 where
  pub posed_is : Posed q
  pub each_true : (k : ℕ) → k < windows_of q
      → TrueOf (pattern_of q) (window_of q.text.cells (place_in q k)) (cell_count (place_in q k)) (e.image k)
      (e.answer k)
  pub found_is : found ≡ found_among e (windows_of q)
  pub refused_is : refused ≡ refused_among e (windows_of q)
  pub bytes_are : listing ≡ bytes_all (records_to q e (windows_of q) ++ (Closing found refused ∷ []))

-- the listing keeps the rules, with that many windows found and refused
abbrev pub KeepsRules : Question → List ℕ → ℕ → ℕ → Type 0
KeepsRules q listing found refused = (e : Entries) × Keeps q listing found refused e
