-- Document 01's one-window question: the pattern against the window of its size at a corner, read in place.
-- Assumes nothing.
pub mod Positions
pub mod Rows
pub mod Ends
pub mod Verdicts
use Rattle.std.specs.Prelude.{List, [], ◌∷◌, ℕ, ◌*◌, eqb, get_or, replicate, Result, Ok, Err}
use Rattle.theory.specs.Test.{pick}
use Rattle.theory.specs.Match.{Matches, Answer, matched, mismatched, answer_of, column}
use Rattle.refusals.specs.Said.{Said, accepts, ◌then◌, check, refusal_said, new_by}
use Rattle.shapes.specs.Questions.{Question, shape_said}
use Rattle.shapes.specs.Shapes.{corner_inside_test, Corner}
use Rattle.cells.specs.Windows.{window_at}
use Rattle.mapping.specs.Bijections.{empty_bijection}
use Rattle.mapping.specs.declared.bijections.Bijection.{Bijection}
use Rattle.refusals.specs.declared.refusals.Refusal.{Refusal}
use Rattle.matching.specs.declared.compare.Verdict.{Verdict}
use Rattle.matching.specs.declared.compare.Verdict.TheVariants.{Match, Mismatch}

-- the pattern's symbols by position, row by row as it is given
abbrev pub cell_of_pattern : List ℕ → ℕ → ℕ
cell_of_pattern pattern p = get_or pattern p 0

-- what a verdict says: of a mismatch its record's kind, 3 where alike in the pattern only and 4 where alike in the
-- window only, and the two cells by position. A match's values are its bijection, which is told beside.
abbrev pub verdict_said : Verdict → Said
verdict_said (Match bijection) = accepts []
verdict_said (Mismatch alike earlier later) = accepts (pick alike 3 4 ∷ earlier ∷ later ∷ [])

-- a match's bijection; of a mismatch, the empty one
abbrev pub verdict_bijection : Verdict → Bijection
verdict_bijection (Match bijection) = bijection
verdict_bijection (Mismatch alike earlier later) = empty_bijection

-- the bijection that pairs just the pattern's symbols with the window's; beside a mismatch, the empty one
unfoldable pub bijection_of : (ℕ → ℕ) → (ℕ → ℕ) → ℕ → Answer → Bijection
bijection_of m w n matched = record { forward = column m w n; backward = column w m n }
bijection_of m w n (mismatched alike earlier later) = empty_bijection

-- the verdict that gives an answer
abbrev pub verdict_of : (ℕ → ℕ) → (ℕ → ℕ) → ℕ → Answer → Verdict
verdict_of m w n matched = Match (bijection_of m w n matched)
verdict_of m w n (mismatched alike earlier later) = Mismatch alike earlier later

-- ---- of a question

-- the pattern's symbols by position
abbrev pub pattern_of : Question → ℕ → ℕ
pattern_of q = cell_of_pattern q.pattern.cells

-- those of the window at a corner
abbrev pub window_in : Question → ℕ → ℕ → ℕ → ℕ
window_in q row column = window_at q.text.cells q.text.columns row column q.pattern.columns

-- how many positions there are
abbrev pub positions : Question → ℕ
positions q = q.pattern.rows * q.pattern.columns

-- the corner lies in the text, with the window
abbrev pub CornerIn : Question → ℕ → ℕ → Type 0
CornerIn q row column = Corner q.text.rows q.text.columns q.pattern.rows q.pattern.columns row column

-- a one-to-one mapping of symbols carries the pattern onto the window at a corner
abbrev pub MatchesAt : Question → ℕ → ℕ → Type 0
MatchesAt q row column = Matches (pattern_of q) (window_in q row column) (positions q)

-- the window's answer
abbrev pub answer_in : Question → ℕ → ℕ → Answer
answer_in q row column = answer_of (pattern_of q) (window_in q row column) (positions q)

-- and the bijection that it has
abbrev pub bijection_at : Question → ℕ → ℕ → Bijection
bijection_at q row column = bijection_of (pattern_of q) (window_in q row column) (positions q) (answer_in q row column)

-- and its verdict
abbrev pub verdict_in : Question → ℕ → ℕ → Verdict
verdict_in q row column = verdict_of (pattern_of q) (window_in q row column) (positions q) (answer_in q row column)

-- 2, 3, 4, 5 in this order
unfoldable pub place_said : Question → ℕ → ℕ → Said
place_said q row column =
    shape_said q then check (corner_inside_test q.text.rows q.text.columns q.pattern.rows q.pattern.columns row
    column) 5

-- then the answer
unfoldable pub window_said : Question → ℕ → ℕ → Said
window_said q row column = place_said q row column then verdict_said (verdict_in q row column)

-- what is told of a window: what is said, and the bijection beside it
pub record Told : Type 0 where
  pub said : Said
  pub bijection : Bijection

-- an answer as such a pair: beside a mismatch and beside a refusal stands the empty bijection
abbrev pub told : Result Verdict Refusal → Told
told (Ok verdict) = record { said = verdict_said verdict; bijection = verdict_bijection verdict }
told (Err why) = record { said = refusal_said why; bijection = empty_bijection }

-- the one-window question; beside a refusal stands the empty bijection
unfoldable pub one_window_of : Question → ℕ → ℕ → Told
one_window_of q row column =
    record {
      said = window_said q row column;
      bijection = new_by (place_said q row column) (bijection_at q row column) empty_bijection;
    }

-- What the inner functions' contracts cite.

-- no symbol has an image
abbrev pub empty_images : List ℕ
empty_images = replicate 256 256

-- the verdict that names two positions, by the pattern's symbols
abbrev pub verdict_between : (ℕ → ℕ) → ℕ → ℕ → Verdict
verdict_between m q p = Mismatch (eqb (m q) (m p)) q p
