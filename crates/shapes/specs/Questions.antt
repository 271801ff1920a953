-- A text and a pattern as one value: what every operation on a text is asked about.
-- Assumes nothing.
pub mod Laws
use Rattle.std.specs.Prelude.{◌≡◌, List, Bool, ℕ, ◌*◌, length}
use Rattle.shapes.specs.declared.shapes.Shape.{Shape}
use Rattle.shapes.specs.declared.question.Question.{Question as Asking}
use Rattle.shapes.specs.Shapes.{good_sides_test, good_cells_test, fits, windows, corners, Shaped}
use Rattle.refusals.specs.Said.{Said, ◌then◌, check}

-- cells row by row, with the sides that are given for them
pub record Grid : Type 0 where
  pub cells : List ℕ
  pub rows : ℕ
  pub columns : ℕ

-- by its parts
abbrev pub grid_of : List ℕ → ℕ → ℕ → Grid
grid_of cells rows columns = record { cells = cells; rows = rows; columns = columns }

-- a text, and the pattern that is looked for in it
pub record Question : Type 0 where
  pub text : Grid
  pub pattern : Grid

-- by its parts
abbrev pub ask : List ℕ → ℕ → ℕ → List ℕ → ℕ → ℕ → Question
ask text rows columns pattern height width =
    record { text = grid_of text rows columns; pattern = grid_of pattern height width }

-- four sides as one value
abbrev pub four_sides : ℕ → ℕ → ℕ → ℕ → Shape
four_sides rows columns height width = record { rows = rows; columns = columns; height = height; width = width }

-- a question from its sides as one value
abbrev pub asked : List ℕ → List ℕ → Shape → Question
asked text pattern s = ask text s.rows s.columns pattern s.height s.width

-- the question that the code hands on as one value
abbrev pub question_in : Asking → Question
question_in q = asked q.text.now q.pattern.now q.shape

-- and its sides
abbrev pub sides_of : Question → Shape
sides_of q = four_sides q.text.rows q.text.columns q.pattern.rows q.pattern.columns

-- how many windows there are in a row of them
abbrev pub across_of : Question → ℕ
across_of q = corners q.text.columns q.pattern.columns

-- and in all
abbrev pub windows_of : Question → ℕ
windows_of q = windows q.text.rows q.text.columns q.pattern.rows q.pattern.columns

-- how many links a search needs: one for each position of a strip
abbrev pub links_needed : Question → ℕ
links_needed q = q.text.rows * q.pattern.columns

-- ---- the refusals of a shape: 2, 3 and 4, each a part of its own: another check goes between two of them as one line

-- 2: a side is 0 or above 255
unfoldable pub sides_said : Shape → Said
sides_said s = check (good_sides_test s.rows s.columns s.height s.width) 2

-- the cells given are rows × columns in number
abbrev pub grid_good : Grid → Bool
grid_good g = good_cells_test (length g.cells) g.rows g.columns

-- 3: they are not
unfoldable pub grid_said : Grid → Said
grid_said g = check (grid_good g) 3

-- of the text, then of the pattern
unfoldable pub cells_said : Question → Said
cells_said q = grid_said q.text then grid_said q.pattern

-- 4: the pattern is taller or wider than the text
unfoldable pub size_said : Shape → Said
size_said s = check (fits s.rows s.columns s.height s.width) 4

-- 2, 3 and 4 in this order
unfoldable pub shape_said : Question → Said
shape_said q = sides_said (sides_of q) then cells_said q then size_said (sides_of q)

-- the text that is looked through for windows of that size
abbrev pub text_of : List ℕ → Shape → Grid
text_of text s = grid_of text s.rows s.columns

-- 2, 3 and 4 of a text alone and the size of a window in it
unfoldable pub text_said : List ℕ → Shape → Said
text_said text s = sides_said s then grid_said (text_of text s) then size_said s

-- what is not refused by 2, 3 or 4
pub record Posed (q : Question) : Type 0 where
  pub shape :
      Shaped (length q.text.cells) q.text.rows q.text.columns q.pattern.rows q.pattern.columns
  pub size : length q.pattern.cells ≡ q.pattern.rows * q.pattern.columns
