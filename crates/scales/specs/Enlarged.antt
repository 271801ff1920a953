-- The question for a pattern that lies enlarged is the question with the enlargement as its pattern, so what is said of
-- the one is said of the other.
-- Assumes nothing.
use Rattle.std.specs.Prelude.{◌≡◌, List, ℕ, ◌*◌}
use Rattle.std.proofs.Common.{ap₂}
use Rattle.shapes.specs.Questions.{asked, four_sides}
use Rattle.shapes.specs.declared.shapes.Shape.{Shape}
use Rattle.scaled.specs.Scaled.{enlarged_cells, scaled}

pub enlarged_asked : (text pattern cells : List ℕ) (s e : Shape) (k : ℕ)
    → cells ≡ enlarged_cells k pattern s.height s.width
    → e ≡ four_sides s.rows s.columns (k * s.height) (k * s.width)
    → asked text cells e ≡ scaled k (asked text pattern s)
enlarged_asked text pattern cells s e k c d = ap₂ (λ (l : List ℕ) (x : Shape). asked text l x) c d
