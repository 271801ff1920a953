-- The list of a function's first values.
-- Assumes nothing.
pub mod Laws
use Rattle.std.specs.Prelude.{List, [], ◌∷◌, ℕ, zero, suc}

-- f 0, f 1, .., f (n - 1)
unfoldable pub table : {A : Type 0} → (ℕ → A) → ℕ → List A
table f zero = []
table f (suc n) = f zero ∷ table (λ i. f (suc i)) n
