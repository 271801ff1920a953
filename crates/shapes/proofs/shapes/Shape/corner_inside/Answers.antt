-- `Shape::corner_inside` meets its contract: a corner is inside if its row is and its column is.
-- Assumes nothing.
use Rattle.std.proofs.Common.{◌∙◌, sym}
use Rattle.theory.specs.Test.Laws.{tested_same, tested_iff, le_tested, is_false, says_true, says_false}
use Rattle.shapes.specs.Shapes.Laws.{corner_inside_lem}
use Rattle.shapes.proofs.shapes.Shape.corner_inside.Goals as goal

pub returns-then-part_inside : goal.returns-then-part_inside
returns-then-part_inside c =
    c.part_inside-then-part_inside.ensures
    ∙ tested_same
    (tested_iff
    (λ h. record {
      row_le = says_true (le_tested _ _) (sym c.part_inside.ensures ∙ c.if-part_inside.true);
      column_le = h;
    })
    (λ s. s.column_le)
    (le_tested _ _))
    (corner_inside_lem _ _ _ _ _ _)

pub returns-else-part_inside : goal.returns-else-part_inside
returns-else-part_inside c =
    c.if-part_inside.false
    ∙ sym (is_false (corner_inside_lem _ _ _ _ _ _)
    (λ s. says_false (le_tested _ _) (sym c.part_inside.ensures ∙ c.if-part_inside.false) s.row_le))
