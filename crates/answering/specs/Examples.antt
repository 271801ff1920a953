-- Document 01's starred drafts of one row each, and the two windows of the first draft, by computation.
-- Assumes nothing.
use Rattle.std.specs.Prelude.{◌≡◌, refl, true, false, List, [], ◌∷◌, ℕ, ◌*◌, get_or}
use Rattle.std.proofs.Common.{sym, ◌∙◌, ap}
use Rattle.theory.specs.First.{first}
use Rattle.theory.specs.Table.Laws.{get_or-table}
use Rattle.theory.specs.Match.{mismatch_at, earliest, ends, first_end, Answer, matched, mismatched, mismatch_ending}
use Rattle.theory.specs.Match.{answer_of}
use Rattle.theory.specs.Match.Ext.{answer_ext}
use Rattle.cells.specs.Windows.{window_at, window_cells}
use Rattle.cells.specs.Windows.Laws.{cells-table, example_text, example_cells}
use Rattle.matching.specs.Compare.{cell_of_pattern}

-- a window whose cells are known has the answer of its cells
answer_of_cells : (m : ℕ → ℕ) (text : List ℕ) (columns row column height width : ℕ) (xs : List ℕ)
    → window_cells text columns row column height width ≡ xs
    → answer_of m (window_at text columns row column width) (height * width)
    ≡ answer_of m (λ p. get_or xs p 0) (height * width)
answer_of_cells m text columns row column height width xs e =
    answer_ext m (window_at text columns row column width) (λ p. get_or xs p 0) (height * width)
    (λ p h. sym (get_or-table (window_at text columns row column width) (height * width) p 0 h)
    ∙ ap (λ (l : List ℕ). get_or l p 0) (sym (cells-table text columns row column height width) ∙ e))

-- ★ the first draft: motif 1 1 / 2 1 matches the window at column 0, and the one at column 1 has a clash of kind 3 at
-- the first two cells
pub example_windows : (answer_of (cell_of_pattern (1 ∷ 1 ∷ 2 ∷ 1 ∷ [])) (window_at example_text 3 0 0 2) 4 ≡ matched)
    × (answer_of (cell_of_pattern (1 ∷ 1 ∷ 2 ∷ 1 ∷ [])) (window_at example_text 3 0 1 2) 4 ≡ mismatched true 0 1)
unfolding answer_of first_end first ends earliest mismatch_at mismatch_ending
example_windows = (
  answer_of_cells (cell_of_pattern (1 ∷ 1 ∷ 2 ∷ 1 ∷ [])) example_text 3 0 0 2 2 (7 ∷ 7 ∷ 3 ∷ 7 ∷ []) example_cells.0,
  answer_of_cells (cell_of_pattern (1 ∷ 1 ∷ 2 ∷ 1 ∷ [])) example_text 3 0 1 2 2 (7 ∷ 3 ∷ 7 ∷ 7 ∷ []) example_cells.1,
)

-- a window over a text of one row
abbrev row_answer : List ℕ → List ℕ → ℕ → Answer
row_answer text pattern n = answer_of (cell_of_pattern pattern) (λ p. get_or text p 0) n

pub example_rows : record {
  same : row_answer (5 ∷ []) (5 ∷ []) 1 ≡ matched;
  window_alike : row_answer (4 ∷ 4 ∷ []) (1 ∷ 2 ∷ []) 2 ≡ mismatched false 0 1;
  pattern_alike : row_answer (4 ∷ 5 ∷ []) (1 ∷ 1 ∷ []) 2 ≡ mismatched true 0 1;
  later_pattern : row_answer (4 ∷ 5 ∷ 5 ∷ []) (1 ∷ 2 ∷ 1 ∷ []) 3 ≡ mismatched true 0 2;
  later_window : row_answer (4 ∷ 5 ∷ 4 ∷ []) (1 ∷ 2 ∷ 2 ∷ []) 3 ≡ mismatched false 0 2;
  exchanged : row_answer (2 ∷ 1 ∷ []) (1 ∷ 2 ∷ []) 2 ≡ matched;
}
unfolding answer_of first_end first ends earliest mismatch_at mismatch_ending
example_rows =
    record {
      same = refl;
      window_alike = refl;
      pattern_alike = refl;
      later_pattern = refl;
      later_window = refl;
      exchanged = refl;
    }
