-- Document 01's listing of a search: the records of every window, row by row, and the closing.
-- Assumes nothing.
pub mod Entries
pub mod Offsets
pub mod Pairs
pub mod Totals
pub mod Length
use Rattle.std.specs.Prelude.{not, List, [], ◌∷◌, ◌++◌, ℕ, ◌+◌, ◌*◌, get_or}
use Rattle.theory.specs.Join.{joined}
use Rattle.theory.specs.Count.{count}
use Rattle.theory.specs.Match.{is_match, image_of, answer_of}
use Rattle.shapes.specs.Questions.{Question, across_of, windows_of}
use Rattle.shapes.specs.declared.shapes.Shape.{Shape}
use Rattle.cells.specs.Windows.{window_at, corner_row, corner_column}
use Rattle.sets.specs.Symbols.{symbols_of}
use Rattle.occurrences.specs.Distinct.{distinct}
use Rattle.matching.specs.Compare.{cell_of_pattern}
use Rattle.view.specs.Places.{window_of, cell_count}
use Rattle.cells.specs.declared.windows.WindowPlace.{WindowPlace}
use Rattle.matching.specs.declared.compare.Verdict.{Verdict}
use Rattle.matching.specs.declared.compare.Verdict.TheVariants.{Match, Mismatch}
use Rattle.listing.specs.Entries.{pairs_of, mismatch_record, mismatch_body_at, entry_of, bytes_all}
use Rattle.listing.specs.declared.records.Record.{Record}
use Rattle.listing.specs.declared.records.Record.TheVariants.{Found, Closing}
use Rattle.matching.specs.Questions.{answer_at}

-- the image of each symbol in window k
abbrev pub image_at : Question → ℕ → ℕ → ℕ
image_at q k =
    image_of (cell_of_pattern q.pattern.cells)
    (window_at q.text.cells q.text.columns (corner_row (across_of q) k) (corner_column (across_of q) k)
    q.pattern.columns) (q.pattern.rows * q.pattern.columns)

-- the records of window k: those of its one-window answer
unfoldable pub entry_of_window : Question → ℕ → List Record
entry_of_window q k =
    entry_of (corner_row (across_of q) k) (corner_column (across_of q) k) q.pattern.columns
    (symbols_of q.pattern.cells)
    (image_at q k) (answer_at q k)

-- the same by what the one-window question answers: the records that a verdict is listed as
abbrev pub verdict_records : ℕ → ℕ → ℕ → List ℕ → Verdict → List Record
verdict_records row column width symbols (Match bijection) =
    Found row column ∷ pairs_of (λ a. get_or bijection.forward a 0) symbols
verdict_records row column width symbols (Mismatch alike q p) =
    mismatch_record alike (mismatch_body_at row column width q p) ∷ []

-- how many windows the pattern matches
unfoldable pub found_in : Question → ℕ
found_in q = count (λ k. is_match (answer_at q k)) (windows_of q)

-- and how many it does not
unfoldable pub refused_in : Question → ℕ
refused_in q = count (λ k. not (is_match (answer_at q k))) (windows_of q)

-- the records of all windows in their order, and the closing
unfoldable pub search_records : Question → List Record
search_records q =
    joined (entry_of_window q) (windows_of q)
    ++ (Closing (found_in q) (refused_in q) ∷ [])

-- their bytes
unfoldable pub search_listing : Question → List ℕ
search_listing q = bytes_all (search_records q)

-- with a found, b refused and d numbers in the motif the length is a × (3 + 3d) + 7b + 5
abbrev pub listing_length : ℕ → ℕ → ℕ → ℕ
listing_length a b d = a * (3 + 3 * d) + 7 * b + 5

-- the length of this search's listing
unfoldable pub needed_length : Question → ℕ
needed_length q =
    listing_length (found_in q) (refused_in q) (distinct q.pattern.cells)

-- What the inner functions' contracts cite.

-- the records of the window at a place
abbrev pub entry_at : List ℕ → List ℕ → WindowPlace → List Record
entry_at text pattern v =
    entry_of v.row v.column v.width (symbols_of pattern)
    (image_of (cell_of_pattern pattern) (window_of text v) (cell_count v))
    (answer_of (cell_of_pattern pattern) (window_of text v) (cell_count v))

-- the window at row top of the strip at column left
abbrev pub window_of_strip : Shape → ℕ → ℕ → WindowPlace
window_of_strip s left top =
    record { columns = s.columns; row = top; column = left; height = s.height; width = s.width }
