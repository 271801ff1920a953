-- Lists one after another.
-- Assumes nothing.
pub mod Laws
use Rattle.std.specs.Prelude.{List, [], ◌++◌, ℕ, zero, suc}

-- f 0, f 1, .., f (n - 1), each of them a list
unfoldable pub joined : {A : Type 0} → (ℕ → List A) → ℕ → List A
joined f zero = []
joined f (suc n) = joined f n ++ f n
