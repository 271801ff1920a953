-- Document 01's program, its input: what stands on standard input, and by what number an input is refused before it is
-- searched. 'Standard input: R, C, r, c as one byte each, the sheet, the motif, nothing after.'
-- Assumes nothing.
pub mod Sizes
pub mod Accepted
use Rattle.std.specs.Prelude.{◌≡◌, Bool, List, ℕ, ◌+◌, ◌*◌, ◌≤◌, eqb, leb, length, get_or, take, drop}
use Rattle.theory.specs.Test.{both}
use Rattle.shapes.specs.Shapes.{Sized}
use Rattle.shapes.specs.declared.shapes.Shape.{Shape}
use Rattle.refusals.specs.Said.{Said, ◌then◌, check}
use Rattle.shapes.specs.Questions.{Question, ask, sides_of, sides_said, cells_said, size_said}

-- ---- the input

-- 'R, C, r, c as one byte each': R, the text's rows
abbrev pub rows_in : List ℕ → ℕ
rows_in input = get_or input 0 0

-- C, its columns
abbrev pub columns_in : List ℕ → ℕ
columns_in input = get_or input 1 0

-- r, the pattern's rows
abbrev pub height_in : List ℕ → ℕ
height_in input = get_or input 2 0

-- c, its columns
abbrev pub width_in : List ℕ → ℕ
width_in input = get_or input 3 0

-- the text: R × C bytes behind the sizes
unfoldable pub text_in : List ℕ → List ℕ
text_in input = take (rows_in input * columns_in input) (drop 4 input)

-- the pattern: all that stands behind the text
unfoldable pub pattern_in : List ℕ → List ℕ
pattern_in input = drop (4 + rows_in input * columns_in input) input

-- ---- what is said of it

-- 8: text or pattern of more than 16,384 cells
abbrev pub few_cells_test : ℕ → ℕ → Bool
few_cells_test cells pattern_cells = both (leb cells 16384) (leb pattern_cells 16384)

-- what the search is asked
abbrev pub question_in : List ℕ → Question
question_in input =
    ask (text_in input) (rows_in input) (columns_in input) (pattern_in input) (height_in input) (width_in input)

-- the program's own refusals: 1, 2, 8, 3, 4 in this order. That nothing stands after the pattern is 3 of the pattern,
-- which is all that stands behind the text.
unfoldable pub input_said : List ℕ → Said
input_said input =
    check (leb 4 (length input)) 1
    then sides_said (sides_of (question_in input))
    then check (few_cells_test (rows_in input * columns_in input) (height_in input * width_in input)) 8
    then cells_said (question_in input)
    then size_said (sides_of (question_in input))

-- What the inner functions' contracts cite.

-- an input that is not refused by 1, 2, 8, 3 or 4
pub record RightInput (input : List ℕ) : Type 0 where
  pub sized : Sized (rows_in input) (columns_in input) (height_in input) (width_in input)
  pub text_few : rows_in input * columns_in input ≤ 16384
  pub pattern_few : height_in input * width_in input ≤ 16384
  pub length_is : length input ≡ 4 + rows_in input * columns_in input + height_in input * width_in input

-- 8 and 3 of what the sides ask for and the number of bytes behind the sizes
unfoldable pub cells_given_said : ℕ → ℕ → ℕ → Said
cells_given_said cells pattern_cells given =
    check (few_cells_test cells pattern_cells) 8 then check (eqb given (cells + pattern_cells)) 3

-- 2, 8, 3 and 4 of sides and the number of bytes behind the sizes
unfoldable pub sizes_said : Shape → ℕ → Said
sizes_said s given = sides_said s then cells_given_said (s.rows * s.columns) (s.height * s.width) given then size_said s
