-- Small cases, computed: document 01's first motif, 1 1 / 2 1, at k = 2; a row of two at k = 3; and which k fit. A
-- search at every k is computed in crates/guarantee/specs/Drafts/Coarse.antt, where windows compute.
-- Assumes nothing.
use Rattle.std.specs.Prelude.{◌≡◌, refl, true, false, [], ◌∷◌}
use Rattle.theory.specs.Table.{table}
use Rattle.shapes.specs.Questions.{four_sides}
use Rattle.scaled.specs.Scaled.{enlarged_cells, fits_test, largest_scale_of, sum_to}

-- 1 1 1 1 / 1 1 1 1 / 2 2 1 1 / 2 2 1 1
pub example_at_2 : enlarged_cells 2 (1 ∷ 1 ∷ 2 ∷ 1 ∷ []) 2 2
    ≡ 1 ∷ 1 ∷ 1 ∷ 1 ∷ 1 ∷ 1 ∷ 1 ∷ 1 ∷ 2 ∷ 2 ∷ 1 ∷ 1 ∷ 2 ∷ 2 ∷ 1 ∷ 1 ∷ []
unfolding enlarged_cells table
example_at_2 = refl

-- three rows, each 4 4 4 5 5 5
pub example_at_3 : enlarged_cells 3 (4 ∷ 5 ∷ []) 1 2
    ≡ 4 ∷ 4 ∷ 4 ∷ 5 ∷ 5 ∷ 5 ∷ 4 ∷ 4 ∷ 4 ∷ 5 ∷ 5 ∷ 5 ∷ 4 ∷ 4 ∷ 4 ∷ 5 ∷ 5 ∷ 5 ∷ []
unfolding enlarged_cells table
example_at_3 = refl

-- in 7 rows of 9 columns a pattern of 2 by 2 fits at 1, 2 and 3, and neither at 0 nor at 4
pub example_fits :
    (fits_test 0 (four_sides 7 9 2 2) ≡ false) × (fits_test 1 (four_sides 7 9 2 2) ≡ true)
    × (fits_test 2 (four_sides 7 9 2 2) ≡ true) × (fits_test 3 (four_sides 7 9 2 2) ≡ true)
    × (fits_test 4 (four_sides 7 9 2 2) ≡ false) × (largest_scale_of (four_sides 7 9 2 2) ≡ 3)
unfolding fits_test
example_fits = (refl, refl, refl, refl, refl, refl)

-- one of 8 by 2 does not fit as it is, and so at no k
pub example_none : (fits_test 1 (four_sides 7 9 8 2) ≡ false) × (largest_scale_of (four_sides 7 9 8 2) ≡ 0)
unfolding fits_test
example_none = (refl, refl)

-- a sum begins at 1 and ends at n
pub example_sum : sum_to (λ k. k) 4 ≡ 10
unfolding sum_to
example_sum = refl
