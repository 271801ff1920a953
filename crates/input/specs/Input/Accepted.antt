-- The refusals of an input in their order: which number it has where a test fails and the earlier ones pass, and what
-- an input has that is not refused. Why it holds: each test says what it tests (`Tested`), and the chain asks one after
-- the other.
-- Assumes nothing.
use Rattle.std.specs.Prelude.{◌≡◌, Bool, ℕ, ◌+◌, ◌-◌, ◌*◌, ◌≤◌, ◌<◌, leb, take, drop}
use Rattle.std.proofs.Math.Path.{sym}
use Rattle.std.proofs.Common.{◌∙◌, ap, le-leb}
use mathlib.Core.List.{List, []}
use native.Mathlib.Omega.{arith}
use Rattle.std.proofs.Math.Dec.{eqb}
use Rattle.std.proofs.Math.ListN.{length, length-take, length-drop}
use Rattle.std.proofs.lemmas.Bool.{lt-leb}
use Rattle.theory.specs.Test.{both, Tested}
use Rattle.theory.specs.Test.Laws.{tested_iff, tested_same, le_tested, eq_tested, both_tested, says_true, is_true}
use Rattle.theory.specs.Test.Laws.{is_false}
use Rattle.refusals.specs.Said.{Said, accepts, refuses, ◌then◌, check}
use Rattle.refusals.specs.Said.Laws.{check_both, check_accepts, check_refuses, check_true, check_passed, then_both}
use Rattle.refusals.specs.Said.Laws.{then_assoc}
use Rattle.shapes.specs.Questions.{grid_good, sides_of, grid_said, cells_said, sides_said, size_said}
use Rattle.shapes.specs.Questions.Laws.{sides_passed, sides_pass, size_passed, size_pass}
use Rattle.shapes.specs.Shapes.Laws.{good_cells}
use Rattle.shapes.specs.declared.shapes.Shape.{Shape}
use Rattle.input.specs.Input.{rows_in, columns_in, height_in, width_in, text_in, pattern_in, question_in, few_cells_test}
use Rattle.input.specs.Input.{input_said, RightInput, cells_given_said, sizes_said}

-- ---- the tests

module _ (input : List ℕ) where
  abbrev cells : ℕ
  cells = rows_in input * columns_in input

  abbrev pattern_cells : ℕ
  pattern_cells = height_in input * width_in input

  abbrev sides : Shape
  sides = sides_of (question_in input)

  abbrev right_cells : Bool
  right_cells = both (grid_good (question_in input).text) (grid_good (question_in input).pattern)

  -- 3 of the text, then of the pattern, is one test
  cells_right : cells_said (question_in input) ≡ check right_cells 3
  unfolding cells_said grid_said
  cells_right = check_both (grid_good (question_in input).text) (grid_good (question_in input).pattern) 3

  pub few_tested : Tested ((cells ≤ 16384) × (pattern_cells ≤ 16384)) (few_cells_test cells pattern_cells)
  few_tested = both_tested (le_tested cells 16384) (le_tested pattern_cells 16384)

  -- the text has its cells and the pattern has its cells exactly if the input has as many bytes as the sizes say, and
  -- nothing after
  pub cells_tested : 4 ≤ length input → Tested (length input ≡ 4 + cells + pattern_cells) right_cells
  unfolding text_in pattern_in
  cells_tested h =
      tested_iff
      (λ e. omega (
        arith,
        e.0,
        e.1,
        length-take cells (drop 4 input),
        length-drop 4 input,
        length-drop (4 + cells)
            input,
      ))
      (λ e. (
        omega (arith, e, length-take cells (drop 4 input), length-drop 4 input),
        omega
            (arith, e, length-drop (4 + cells) input),
      ))
      (both_tested (good_cells (length (take cells (drop 4 input))) (rows_in input) (columns_in input))
      (good_cells (length (drop (4 + cells) input)) (height_in input) (width_in input)))

  -- ---- the chain

  -- 3 where the number of bytes is another one
  pub cells_wrong : 4 ≤ length input → (length input ≡ 4 + cells + pattern_cells → ⊥)
      → cells_said (question_in input) ≡ refuses 3 []
  cells_wrong h n = cells_right ∙ sym (check_refuses right_cells 3 [] (is_false (cells_tested h) n))

  -- what accepts passed every test
  pub input_passed : (values : List ℕ) → input_said input ≡ accepts values → RightInput input
  unfolding input_said
  input_passed values e =
      let a = check_passed (leb 4 (length input)) 1 []
      (sides_said sides then check (few_cells_test cells pattern_cells) 8 then cells_said (question_in input) then size_said sides)
      values e in
      let b = then_both (sides_said sides)
      (check (few_cells_test cells pattern_cells) 8 then cells_said (question_in input) then size_said sides) values a.1 in
      let c = check_passed (few_cells_test cells pattern_cells) 8 [] (cells_said (question_in input) then size_said sides) values
      b.1 in
      let d = then_both (cells_said (question_in input)) (size_said sides) values c.1 in
      let few = says_true few_tested c.0 in
      record {
        sized = record { sides = sides_passed sides b.0.0 b.0.1; fitting = size_passed sides values d.1 };
        text_few = few.0;
        pattern_few = few.1;
        length_is =
            says_true (cells_tested (says_true (le_tested 4 (length input)) a.0))
            (check_true right_cells 3 [] d.0.0 (sym cells_right ∙ d.0.1));
      }

  -- and what is right accepts
  pub input_passes : RightInput input → input_said input ≡ accepts []
  unfolding input_said
  input_passes r =
      let long : 4 ≤ length input = omega (arith, r.length_is) in
      let same : cells_said (question_in input) ≡ accepts [] = cells_right
      ∙ sym (check_accepts right_cells 3 [] (is_true (cells_tested long) r.length_is)) in
      rw (
        is_true (le_tested 4 (length input)) long,
        sides_pass sides r.sized.sides,
        is_true few_tested (r.text_few, r.pattern_few),
        same,
      )
      (size_pass sides r.sized.fitting)

  -- ---- by the sides

  -- fewer than four bytes
  pub sizes_missing : length input < 4 → refuses 1 [] ≡ input_said input
  unfolding input_said
  sizes_missing h = rw (lt-leb 4 (length input) h)

  -- else the sides and the number of bytes behind them decide
  pub by_sizes : 4 ≤ length input → sizes_said sides (length input - 4) ≡ input_said input
  unfolding input_said sizes_said cells_given_said
  by_sizes h =
      let same : eqb (length input - 4) (cells + pattern_cells) ≡ right_cells =
      tested_same
      (tested_iff (λ e. omega (arith, e)) (λ e. omega (arith, e)) (eq_tested (length input - 4) (cells + pattern_cells)))
      (cells_tested h) in
      rw (le-leb 4 (length input) h, cells_right, same)
      (ap (λ (x : Said). sides_said sides then x)
      (then_assoc (check (few_cells_test cells pattern_cells) 8) (check right_cells 3) (size_said sides)))

-- ---- what the search is handed

module _ (input : List ℕ) (r : RightInput input) where
  -- the lengths of text and pattern
  pub text_length : length (text_in input) ≡ cells input
  unfolding text_in
  text_length = omega (arith, r.length_is, length-take (cells input) (drop 4 input), length-drop 4 input)

  pub pattern_length : length (pattern_in input) ≡ pattern_cells input
  unfolding pattern_in
  pattern_length = omega (arith, r.length_is, length-drop (4 + cells input) input)
