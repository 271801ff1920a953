-- The one-window question of each window of a text, by its number.
-- Assumes nothing.
use Rattle.std.specs.Prelude.{ℕ}
use Rattle.theory.specs.Match.{Answer}
use Rattle.shapes.specs.Questions.{Question, across_of}
use Rattle.cells.specs.Windows.{corner_row, corner_column}
use Rattle.matching.specs.Compare.{answer_in}

-- the answer for window k
abbrev pub answer_at : Question → ℕ → Answer
answer_at q k = answer_in q (corner_row (across_of q) k) (corner_column (across_of q) k)
