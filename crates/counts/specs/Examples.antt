-- Document 01's starred drafts of the lower library: the links and the tallies of text 7 7 3 / 3 7 7, by computation.
-- Assumes nothing.
use Rattle.std.specs.Prelude.{Ok, ◌≡◌, List, [], ◌∷◌, ◌++◌, ℕ, ◌+◌, ◌≤◌, length}
use Rattle.std.proofs.Common.{sym, ◌∙◌, ap, ap₂, arith}
use Rattle.theory.specs.Test.Laws.{is_true}
use Rattle.theory.specs.Table.{table}
use Rattle.shapes.specs.Shapes.{Shaped, Side}
use Rattle.shapes.specs.Shapes.Laws.{corner_inside_lem}
use Rattle.cells.specs.Windows.Laws.{example_text, example_cells, example_strips, example_length}
use Rattle.occurrences.specs.Distinct.{distinct}
use Rattle.occurrences.specs.Distinct.Laws.{example_distinct}
use Rattle.refusals.specs.Said.{accepts, filled}
use Rattle.shapes.specs.Questions.{four_sides}
use Rattle.grid.specs.Strips.{links_said, links_of, strip_from}
use Rattle.grid.specs.Strips.Laws.{links_accepted, links_new}
use Rattle.grid.specs.Strips.Links.{links_of_list, example_link_values}
use Rattle.counts.specs.Counts.{counts_of}
use Rattle.counts.specs.Counts.Laws.{counts_accepted, counts_new, window_count_lem}

side : (n : ℕ) → 1 ≤ n → n ≤ 255 → Side n
side n h k = record { positive = h; small = k }

-- the text is 2 by 3, and a part of 2 by 2 fits in it
shape : Shaped (length example_text) 2 3 2 2
shape =
    record {
      sized = record {
        sides = record {
          rows_good = side 2 (omega arith) (omega arith);
          columns_good = side 3 (omega arith) (omega arith);
          height_good = side 2 (omega arith) (omega arith);
          width_good = side 2 (omega arith) (omega arith);
        };
        fitting = record { height_le = omega arith; width_le = omega arith };
      };
      cells_is = example_length;
    }

links_good : (left : ℕ) → left + 2 ≤ 3 → links_said example_text (strip_from 2 3 2 left) 5 ≡ accepts []
links_good left h =
    sym (links_accepted example_text (strip_from 2 3 2 left) 5 shape
    (is_true (corner_inside_lem 2 3 2 2 0 left) (record { row_le = omega arith; column_le = h })) (omega arith))

-- ★ 'Its links for c = 2: strip 0 gives 0 1 0 2, strip 1 gives 0 0 2 1', in a buffer of five entries 9
pub example_links :
    (links_of example_text (strip_from 2 3 2 0) (9 ∷ 9 ∷ 9 ∷ 9 ∷ 9 ∷ []) ≡ filled (Ok tt) (0 ∷ 1 ∷ 0 ∷ 2 ∷ 9 ∷ []))
    × (links_of example_text (strip_from 2 3 2 1) (9 ∷ 9 ∷ 9 ∷ 9 ∷ 9 ∷ []) ≡ filled (Ok tt) (0 ∷ 0 ∷ 2 ∷ 1 ∷ 9 ∷ []))
example_links = (
  sym (links_new example_text (strip_from 2 3 2 0) (9 ∷ 9 ∷ 9 ∷ 9 ∷ 9 ∷ []) _ (links_good 0 (omega arith))
      (sym (ap (λ (l : List ℕ). l ++ (9 ∷ [])) (links_of_list _ 4 _ example_strips.0 ∙ example_link_values.0)))),
  sym (links_new example_text (strip_from 2 3 2 1) (9 ∷ 9 ∷ 9 ∷ 9 ∷ 9 ∷ []) _ (links_good 1 (omega arith))
      (sym (ap (λ (l : List ℕ). l ++ (9 ∷ [])) (links_of_list _ 4 _ example_strips.1 ∙ example_link_values.1)))),
)

-- ★ 'Its tallies: 2, 2', in a buffer of three entries 9
pub example_counts : counts_of example_text (four_sides 2 3 2 2) (9 ∷ 9 ∷ 9 ∷ []) ≡ filled (Ok tt) (2 ∷ 2 ∷ 9 ∷ [])
unfolding table
example_counts =
    sym (counts_new example_text (four_sides 2 3 2 2) (9 ∷ 9 ∷ 9 ∷ []) _
    (sym (counts_accepted example_text (four_sides 2 3 2 2) 3 shape (omega arith)))
    (sym (ap₂ (λ (a b : ℕ). a ∷ b ∷ 9 ∷ [])
    (window_count_lem example_text 3 2 2 0 0 (omega arith) ∙ ap distinct example_cells.0 ∙ example_distinct.0)
    (window_count_lem example_text 3 2 2 0 1 (omega arith) ∙ ap distinct example_cells.1 ∙ example_distinct.1))))
