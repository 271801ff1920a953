-- The question's refusals in their order, and what one that is not refused has: the window lies in the text.
-- Assumes nothing.
use Rattle.std.specs.Prelude.{◌≡◌, true, false, ◌↔◌, ℕ, ◌*◌, length}
use Rattle.std.proofs.Math.Path.{refl}
use Rattle.std.proofs.Common.{sym, mul-le-mul_right, arith}
use mathlib.Core.List.{List, []}
use Rattle.theory.specs.Test.Laws.{says_true, is_true}
use Rattle.refusals.specs.Said.{accepts, refuses, check, said_values}
use Rattle.refusals.specs.Said.Laws.{then_both, check_true}
use Rattle.shapes.specs.Questions.{Question, shape_said, Posed}
use Rattle.shapes.specs.Questions.Laws.{posed, posed_said}
use Rattle.shapes.specs.Shapes.{corner_inside_test}
use Rattle.shapes.specs.Shapes.Laws.{corner_inside_lem, product_le}
use Rattle.cells.specs.declared.windows.WindowPlace.{WindowPlace}
use Rattle.matching.specs.Compare.{CornerIn, verdict_said, verdict_in, place_said, window_said}
use Rattle.view.specs.Places.{Placed}
use Rattle.matching.specs.declared.compare.Verdict.{Verdict}
use Rattle.matching.specs.declared.compare.Verdict.TheVariants.{Match, Mismatch}

-- the window of a question's size at a corner
abbrev pub place_of : Question → ℕ → ℕ → WindowPlace
place_of q row column =
    record {
      columns = q.text.columns;
      row = row;
      column = column;
      height = q.pattern.rows;
      width = q.pattern.columns;
    }

module _ (q : Question) (row column : ℕ) where
  module _ (shape : shape_said q ≡ accepts []) where
    pub place_refused : corner_inside_test q.text.rows q.text.columns q.pattern.rows q.pattern.columns row
        column ≡ false → refuses 5 [] ≡ place_said q row column
    unfolding place_said
    place_refused e = rw (shape, e)

    pub place_accepted : corner_inside_test q.text.rows q.text.columns q.pattern.rows q.pattern.columns row
        column ≡ true → accepts [] ≡ place_said q row column
    unfolding place_said
    place_accepted e = rw (shape, e)

  -- the conditions that document 01 asks of the question
  pub record Askable : Type 0 where
    pub posed_is : Posed q
    pub corner : CornerIn q row column

  pub place_passed : (values : List ℕ) → place_said q row column ≡ accepts values → Askable
  unfolding place_said
  place_passed values e =
      let a = then_both (shape_said q) (check
      (corner_inside_test q.text.rows q.text.columns q.pattern.rows q.pattern.columns row column) 5) values e
      in
      record {
        posed_is = posed q a.0.0 a.0.1;
        corner =
            says_true (corner_inside_lem q.text.rows q.text.columns q.pattern.rows q.pattern.columns row
            column) (check_true _ 5 [] values a.1);
      }

  pub place_passes : Askable → place_said q row column ≡ accepts []
  place_passes a =
      sym (place_accepted (posed_said q a.posed_is)
      (is_true (corner_inside_lem q.text.rows q.text.columns q.pattern.rows q.pattern.columns row column)
      a.corner))

  -- then the window lies in the text, and the pattern has its size
  pub window_placed : Askable → Placed q.text.cells (place_of q row column)
      × (length q.pattern.cells ≡ q.pattern.rows * q.pattern.columns)
  window_placed a =
      let s = a.posed_is.shape in
      let sides = s.sized.sides in
      let corner = a.corner in (
        record {
          some = sides.width_good.positive;
          tall = sides.height_good.positive;
          down = omega (arith, s.cells_is, mul-le-mul_right q.text.columns corner.row_le);
          across = corner.column_le;
          small =
              omega (
                arith,
                s.cells_is,
                product_le q.text.rows q.text.columns 255 255 sides.rows_good.small
                    sides.columns_good.small,
              );
        },
        a.posed_is.size,
      )

  -- everything that keeps the conditions is accepted, and nothing else
  pub window_accepted_iff : ((values : List ℕ) × (window_said q row column ≡ accepts values)) ↔ Askable
  unfolding window_said
  window_accepted_iff = (
    (λ e. let a = then_both (place_said q row column) (verdict_said (verdict_in q row column)) e.0 e.1 in
        place_passed a.0.0 a.0.1),
    (λ a. (
      said_values (verdict_said (verdict_in q row column)),
      rw (place_passes a)
          (answered (verdict_in q row column)),
    )),
  )
    where
      answered : (v : Verdict) → verdict_said v ≡ accepts (said_values (verdict_said v))
      answered (Match bijection) = refl
      answered (Mismatch alike earlier later) = refl
