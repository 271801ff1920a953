-- How many different symbols a list holds: document 01's tally of a window, when the list is the window's cells.
-- Assumes nothing.
pub mod Sets
pub mod Laws
use Rattle.std.specs.Prelude.{Bool, List, [], ◌∷◌, ℕ, ◌+◌, eqb, ltb}
use Rattle.theory.specs.Test.{pick}

-- how often v stands in a list
pub occurs : ℕ → List ℕ → ℕ
occurs v [] = 0
occurs v (x ∷ xs) = pick (eqb v x) (occurs v xs + 1) (occurs v xs)

-- v stands in the list
pub contains : List ℕ → ℕ → Bool
contains xs v = ltb 0 (occurs v xs)

-- how many different symbols a list holds: each is counted where it stands last
pub distinct : List ℕ → ℕ
distinct [] = 0
distinct (x ∷ xs) = pick (contains xs x) (distinct xs) (distinct xs + 1)
