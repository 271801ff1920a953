-- How the answer to the one-window question passes to Rust and C: the bijection as its two columns, a mismatch as three
-- numbers.
-- Assumes nothing.
pub mod Laws
use Rattle.std.specs.Prelude.{ℕ, List, [], ◌∷◌}
use Rattle.refusals.specs.Said.{Said, accepts, refuses, new_by}
use Rattle.shapes.specs.Questions.{Question}
use Rattle.matching.specs.Compare.{bijection_at, window_said}
use Rattle.mapping.specs.declared.bijections.Bijection.{Bijection}

-- a mismatch's kind, its earlier and its later cell; three zeros where a verdict has no values
abbrev pub three_of : List ℕ → List ℕ
three_of [] = 0 ∷ 0 ∷ 0 ∷ []
three_of (kind ∷ cells) = kind ∷ cells

-- what a call that says so leaves in a lent list: accepted, its values as three numbers; refused, what stood there
abbrev pub three_by : Said → List ℕ → List ℕ
three_by (accepts values) old = three_of values
three_by (refuses number values) old = old

-- the mismatch in the window at that corner, where something else stood
unfoldable pub window_mismatch : Question → ℕ → ℕ → List ℕ → List ℕ
window_mismatch q row column old = three_by (window_said q row column) old

-- the bijection of the pattern's symbols with those of the window at that corner, where another stood
unfoldable pub window_bijection : Question → ℕ → ℕ → Bijection → Bijection
window_bijection q row column old = new_by (window_said q row column) (bijection_at q row column) old
