-- A window that lies in the text: every row and every position of it is read inside the text, and what forming a place
-- asks.
-- Assumes nothing.
use Rattle.std.specs.Prelude.{◌≡◌, List, ℕ, suc, ◌+◌, ◌*◌, ◌/◌, ◌%◌, ◌≤◌, ◌<◌, length}
use Rattle.std.proofs.Common.{◌∙◌, ap, suc-mul, mul-le-mul_right, le-mul_of_pos_right, mul-le-mul, mod-lt, add-one}
use Rattle.std.proofs.Common.{div-lt_iff_lt-mul, arith}
use Rattle.view.specs.Places.{cell_count, Placed}
use Rattle.cells.specs.declared.windows.WindowPlace.{WindowPlace}

module _ (text : List ℕ) (v : WindowPlace) where
  -- what a loop over the rows that keeps a row's first place asks: the places of the first row are small
  pub start_small : Placed text v → v.row * v.columns + v.columns ≤ 65025
  start_small s =
      omega (arith, suc-mul v.row v.columns, mul-le-mul_right v.columns first_row, s.down, s.small)
    where
      first_row : suc v.row ≤ v.row + v.height
      first_row = omega (arith, s.tall)

  -- the text has columns, since the window has
  pub columns_some : Placed text v → 0 < v.columns
  columns_some s = omega (arith, s.some, s.across)

  -- every row lies in the text
  pub row_inside : Placed text v → (i : ℕ) → i < v.height
      → (v.row + i) * v.columns + v.column + v.width ≤ length text
  row_inside s i h =
      let down : (v.row + i + 1) * v.columns ≤ (v.row + v.height) * v.columns
      = mul-le-mul_right v.columns (omega arith) in
      omega (arith, one_more, s.down, s.across)
    where
      one_more : (v.row + i + 1) * v.columns ≡ (v.row + i) * v.columns + v.columns
      one_more = ap (λ (x : ℕ). x * v.columns) (add-one (v.row + i)) ∙ suc-mul (v.row + i) v.columns

  -- every position is read inside the text
  pub position_inside : Placed text v → (p : ℕ) → p < cell_count v
      → (v.row + p / v.width) * v.columns + v.column + p % v.width < length text
  position_inside s p h =
      omega (arith, mod-lt p s.some, row_inside s (p / v.width) ((div-lt_iff_lt-mul s.some).1 h))

  -- what forming a place asks
  pub rows_small : Placed text v → v.row + v.height ≤ 65025
  rows_small s = omega (arith, le-mul_of_pos_right (v.row + v.height) (columns_some s), s.down, s.small)

  pub positions_small : Placed text v → cell_count v ≤ 65025
  positions_small s = omega (arith, mul-le-mul tall_le wide_le, s.down, s.small)
    where
      tall_le : v.height ≤ v.row + v.height
      tall_le = omega arith

      wide_le : v.width ≤ v.columns
      wide_le = omega (arith, s.across)
