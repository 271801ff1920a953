-- `Shape::window_fits` meets its contract: a window fits if its height does and its width does.
-- Assumes nothing.
use Rattle.std.proofs.Common.{◌∙◌, sym, arith}
use Rattle.theory.specs.Test.Laws.{tested_same, tested_iff, le_tested, is_false}
use Rattle.shapes.specs.Shapes.Laws.{fits_tested}
use Rattle.shapes.proofs.shapes.Shape.window_fits.Goals as goal

pub returns-then-self : goal.returns-then-self
returns-then-self c =
    tested_same
    (tested_iff (λ h. record { height_le = c.if-self.true; width_le = h }) (λ f. f.width_le) (le_tested _ _))
    (fits_tested _ _ _ _)

pub returns-else-self : goal.returns-else-self
returns-else-self c =
    is_false (le_tested _ _) (λ h. omega (arith, h, c.if-self.false))
    ∙ sym (is_false (fits_tested _ _ _ _) (λ f. omega (arith, f.height_le, c.if-self.false)))
