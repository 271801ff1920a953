-- A mismatch's two cells: where they lie in the pattern and in the text, and the code's tests as the definition has
-- them.
-- Assumes nothing.
use Rattle.std.proofs.Common.{◌≡◌, Bool, true, false, not, List, ℕ, suc, ◌+◌, ◌*◌, ◌≤◌, ◌<◌, eqb, length, sym, ap}
use Rattle.std.proofs.Common.{suc-mul, mul-le-mul_right, arith, lt-ltb, le-ltb}
use Rattle.theory.specs.Test.{both}
use Rattle.theory.specs.Test.Laws.{lt_tested, both_tested, says_true}
use Rattle.view.specs.Places.{cell_count, Placed}
use Rattle.cells.specs.declared.windows.WindowPlace.{WindowPlace}
use Rattle.claims.specs.Claims.{cell_inside_test, alike_only_test, true_mismatch_test}

-- ---- the places of a cell

-- a cell of the pattern is one of its positions
pub cell_position : (v : WindowPlace) (i j : ℕ) → i < v.height → j < v.width → i * v.width + j < cell_count v
cell_position v i j h k = omega (arith, suc-mul i v.width, mul-le-mul_right v.width h)

-- and the window's symbol in it stands in the text
pub cell_in_text : (text : List ℕ) (v : WindowPlace) (i j : ℕ) → Placed text v → i < v.height → j < v.width
    → (v.row + i) * v.columns + v.column + j < length text
cell_in_text text v i j s h k =
    let l : suc (v.row + i) ≤ v.row + v.height = omega arith in
    omega (arith, suc-mul (v.row + i) v.columns, mul-le-mul_right v.columns l, s.down, s.across)

-- what the test of a cell says
pub inside_says : (height width i j : ℕ) → cell_inside_test height width i j ≡ true → (i < height) × (j < width)
inside_says height width i j e = says_true (both_tested (lt_tested i height) (lt_tested j width)) e

-- ---- alike on one side only, by the four symbols

module _ (m w : ℕ → ℕ) (q p a b x y : ℕ) (a_is : a ≡ m q) (b_is : b ≡ m p) (x_is : x ≡ w q) (y_is : y ≡ w p) where
  pub alike_in_pattern : (side : Bool) → side ≡ true → both (eqb a b) (not (eqb x y)) ≡ alike_only_test side m w q p
  alike_in_pattern side s = rw (a_is, b_is, x_is, y_is) (ap (λ (t : Bool). alike_only_test t m w q p) (sym s))

  pub alike_in_window : (side : Bool) → side ≡ false → both (eqb x y) (not (eqb a b)) ≡ alike_only_test side m w q p
  alike_in_window side s = rw (a_is, b_is, x_is, y_is) (ap (λ (t : Bool). alike_only_test t m w q p) (sym s))

-- ---- the tests in their order

module _ (side : Bool) (m w : ℕ → ℕ) (height width i j k l : ℕ) where
  pub earlier_outside : cell_inside_test height width i j ≡ false
      → false ≡ true_mismatch_test side m w height width i j k l
  unfolding true_mismatch_test
  earlier_outside e = rw e

  module _ (first : cell_inside_test height width i j ≡ true) where
    pub later_outside : cell_inside_test height width k l ≡ false
        → false ≡ true_mismatch_test side m w height width i j k l
    unfolding true_mismatch_test
    later_outside e = rw (first, e)

    module _ (second : cell_inside_test height width k l ≡ true) where
      pub not_in_order : k * width + l ≤ i * width + j → false ≡ true_mismatch_test side m w height width i j k l
      unfolding true_mismatch_test
      not_in_order h = rw (first, second, le-ltb (i * width + j) (k * width + l) h)

      pub in_order : i * width + j < k * width + l → (r : Bool)
          → r ≡ alike_only_test side m w (i * width + j) (k * width + l)
          → r ≡ true_mismatch_test side m w height width i j k l
      unfolding true_mismatch_test
      in_order h r e = rw (first, second, lt-ltb (i * width + j) (k * width + l) h) e
