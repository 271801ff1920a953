-- What each test of sides, cells and corners tests: one law a test, from the tests of the numbers.
-- Assumes nothing.
use Rattle.std.specs.Prelude.{◌≡◌, ℕ, ◌+◌, ◌*◌, ◌≤◌}
use Rattle.std.proofs.Common.{mul-le-mul}
use Rattle.theory.specs.Test.{Tested}
use Rattle.theory.specs.Test.Laws.{tested_iff, eq_tested, le_tested, both_tested}
use Rattle.shapes.specs.Shapes.{Side, good_side_test, Sides, good_sides_test, good_cells_test, Fits, fits, Sized, Corner, corner_inside_test}

pub good_side : (n : ℕ) → Tested (Side n) (good_side_test n)
unfolding good_side_test
good_side n =
    tested_iff (λ h. record { positive = h.0; small = h.1 }) (λ s. (s.positive, s.small))
    (both_tested (le_tested 1 n) (le_tested n 255))

pub good_sides : (rows columns height width : ℕ)
    → Tested (Sides rows columns height width) (good_sides_test rows columns height width)
unfolding good_sides_test
good_sides rows columns height width =
    tested_iff
    (λ h. record { rows_good = h.0; columns_good = h.1.0; height_good = h.1.1.0; width_good = h.1.1.1 })
    (λ s. (s.rows_good, (s.columns_good, (s.height_good, s.width_good))))
    (both_tested (good_side rows) (both_tested (good_side columns) (both_tested (good_side height) (good_side width))))

pub good_cells : (cells rows columns : ℕ) → Tested (cells ≡ rows * columns) (good_cells_test cells rows columns)
unfolding good_cells_test
good_cells cells rows columns = eq_tested cells (rows * columns)

pub fits_tested : (rows columns height width : ℕ)
    → Tested (Fits rows columns height width) (fits rows columns height width)
unfolding fits
fits_tested rows columns height width =
    tested_iff (λ h. record { height_le = h.0; width_le = h.1 }) (λ s. (s.height_le, s.width_le))
    (both_tested (le_tested height rows) (le_tested width columns))

pub corner_inside_lem : (rows columns height width row column : ℕ)
    → Tested (Corner rows columns height width row column) (corner_inside_test rows columns height width row column)
unfolding corner_inside_test
corner_inside_lem rows columns height width row column =
    tested_iff (λ h. record { row_le = h.0; column_le = h.1 }) (λ s. (s.row_le, s.column_le))
    (both_tested (le_tested (row + height) rows) (le_tested (column + width) columns))

-- a product of two small numbers is small
pub product_le : (a b m n : ℕ) → a ≤ m → b ≤ n → a * b ≤ m * n
product_le a b m n h k = mul-le-mul h k

-- what the number of windows asks of the sides
pub windows_ask : (rows columns height width : ℕ) → Sized rows columns height width
    → (rows ≤ 255) × (columns ≤ 255) × (height ≤ rows) × (width ≤ columns)
windows_ask rows columns height width z =
    (z.sides.rows_good.small, z.sides.columns_good.small, z.fitting.height_le, z.fitting.width_le)
