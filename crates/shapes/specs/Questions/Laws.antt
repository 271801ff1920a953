-- What each part of the chain 2, 3, 4 passes, and that a question passes all of it exactly if it is posed.
-- Assumes nothing.
use Rattle.std.specs.Prelude.{◌≡◌, ℕ, ◌*◌, ◌≤◌, length}
use Rattle.std.proofs.Math.Path.{refl, sym}
use mathlib.Core.List.{List, []}
use Rattle.std.proofs.Common.{arith}
use Rattle.theory.specs.Test.Laws.{says_true, is_true}
use Rattle.shapes.specs.declared.shapes.Shape.{Shape}
use Rattle.shapes.specs.Shapes.{Sides, Fits, ShapeOf, good_sides_test, fits}
use Rattle.shapes.specs.Shapes.Laws.{good_sides, good_cells, fits_tested}
use Rattle.refusals.specs.Said.{accepts, ◌then◌}
use Rattle.refusals.specs.Said.Laws.{Numbered, check_numbered, then_numbered, check_accepts, check_true, then_both}
use Rattle.refusals.specs.Said.Laws.{Proper, then_proper, numbered_proper, AtMost, then_at_most, numbered_at_most}
use Rattle.shapes.specs.Questions.{Grid, Question, sides_of, sides_said, grid_good, grid_said, cells_said, size_said}
use Rattle.shapes.specs.Questions.{shape_said, text_of, text_said, Posed}

-- ---- each part gives one number, if any

pub sides_numbered : (s : Shape) → Numbered 2 (sides_said s)
unfolding sides_said
sides_numbered s = check_numbered (good_sides_test s.rows s.columns s.height s.width) 2

pub cells_numbered : (q : Question) → Numbered 3 (cells_said q)
unfolding cells_said grid_said
cells_numbered q = then_numbered (check_numbered (grid_good q.text) 3) (check_numbered (grid_good q.pattern) 3)

pub size_numbered : (s : Shape) → Numbered 4 (size_said s)
unfolding size_said
size_numbered s = check_numbered (fits s.rows s.columns s.height s.width) 4

-- none of them is 0
pub shape_proper : (q : Question) → Proper (shape_said q)
unfolding shape_said
shape_proper q =
    then_proper (numbered_proper (sides_numbered (sides_of q)) (omega arith))
    (then_proper (numbered_proper (cells_numbered q) (omega arith)) (numbered_proper (size_numbered (sides_of q)) (omega arith)))

-- and none is above 4
pub shape_at_most : (q : Question) (n : ℕ) → 4 ≤ n → AtMost n (shape_said q)
unfolding shape_said
shape_at_most q n h =
    then_at_most (numbered_at_most n (sides_numbered (sides_of q)) (omega arith))
    (then_at_most (numbered_at_most n (cells_numbered q) (omega arith))
    (numbered_at_most n (size_numbered (sides_of q)) h))

-- what is said of a question is said in this order; the laws above the lower library have it from here
pub shape_in_order : (q : Question)
    → shape_said q ≡ sides_said (sides_of q) then cells_said q then size_said (sides_of q)
unfolding shape_said
shape_in_order q = refl

-- ---- what each part passes

module _ (s : Shape) where
  pub sides_passed : (values : List ℕ) → sides_said s ≡ accepts values
      → Sides s.rows s.columns s.height s.width
  unfolding sides_said
  sides_passed values e =
      says_true (good_sides s.rows s.columns s.height s.width) (check_true _ 2 [] values e)

  pub sides_pass : Sides s.rows s.columns s.height s.width → sides_said s ≡ accepts []
  unfolding sides_said
  sides_pass h = sym (check_accepts _ 2 [] (is_true (good_sides s.rows s.columns s.height s.width) h))

  pub size_passed : (values : List ℕ) → size_said s ≡ accepts values → Fits s.rows s.columns s.height s.width
  unfolding size_said
  size_passed values e =
      says_true (fits_tested s.rows s.columns s.height s.width) (check_true _ 4 [] values e)

  pub size_pass : Fits s.rows s.columns s.height s.width → size_said s ≡ accepts []
  unfolding size_said
  size_pass h = sym (check_accepts _ 4 [] (is_true (fits_tested s.rows s.columns s.height s.width) h))

module _ (g : Grid) where
  pub grid_passed : (values : List ℕ) → grid_said g ≡ accepts values → length g.cells ≡ g.rows * g.columns
  unfolding grid_said
  grid_passed values e =
      says_true (good_cells (length g.cells) g.rows g.columns) (check_true (grid_good g) 3 [] values e)

  pub grid_pass : length g.cells ≡ g.rows * g.columns → grid_said g ≡ accepts []
  unfolding grid_said
  grid_pass h =
      sym (check_accepts (grid_good g) 3 [] (is_true (good_cells (length g.cells) g.rows g.columns) h))

module _ (q : Question) where
  -- nothing is refused exactly if the question is posed
  pub posed : (values : List ℕ) → shape_said q ≡ accepts values → Posed q
  unfolding shape_said cells_said
  posed values e =
      let a = then_both (sides_said (sides_of q)) (cells_said q then size_said (sides_of q)) values e in
      let b = then_both (cells_said q) (size_said (sides_of q)) values a.1 in
      let c = then_both (grid_said q.text) (grid_said q.pattern) b.0.0 b.0.1 in
      record {
        shape = record {
          sized = record {
            sides = sides_passed (sides_of q) a.0.0 a.0.1;
            fitting = size_passed (sides_of q) values b.1;
          };
          cells_is = grid_passed q.text c.0.0 c.0.1;
        };
        size = grid_passed q.pattern b.0.0 c.1;
      }

  pub posed_said : Posed q → shape_said q ≡ accepts []
  unfolding shape_said cells_said
  posed_said p =
      rw (
        sides_pass (sides_of q) p.shape.sized.sides,
        grid_pass q.text p.shape.cells_is,
        grid_pass
            q.pattern p.size,
      )
      (size_pass (sides_of q) p.shape.sized.fitting)

module _ (text : List ℕ) (s : Shape) where
  pub text_shaped : (values : List ℕ) → text_said text s ≡ accepts values → ShapeOf s (length text)
  unfolding text_said
  text_shaped values e =
      let a = then_both (sides_said s) (grid_said (text_of text s) then size_said s) values e in
      let b = then_both (grid_said (text_of text s)) (size_said s) values a.1 in
      record {
        sized = record { sides = sides_passed s a.0.0 a.0.1; fitting = size_passed s values b.1 };
        cells_is = grid_passed (text_of text s) b.0.0 b.0.1;
      }

  pub text_said_lem : ShapeOf s (length text) → text_said text s ≡ accepts []
  unfolding text_said
  text_said_lem p =
      rw (sides_pass s p.sized.sides, grid_pass (text_of text s) p.cells_is) (size_pass s p.sized.fitting)
