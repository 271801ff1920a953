-- Window k lies in the text, and the step from it to the next: the corner by division, in the same row or at the head
-- of the next.
-- Assumes nothing.
use Rattle.std.specs.Prelude.{◌≡◌, refl, List, ℕ, ◌+◌, ◌*◌, ◌/◌, ◌%◌, ◌≤◌, ◌<◌, length}
use Rattle.std.proofs.Common.{sym, ◌∙◌, ap, ap₂, subst, mod-lt, div-lt_iff_lt-mul, mod-eq_of_lt, mul-le-mul_right, arith}
use Rattle.std.proofs.Math.Nat.{div-eq_of_lt}
use Rattle.shapes.specs.Shapes.{corners, ShapeOf, across, down}
use Rattle.shapes.specs.Shapes.Laws.{product_le}
use Rattle.shapes.specs.declared.shapes.Shape.{Shape}
use Rattle.view.specs.Places.{Placed}
use Rattle.matching.specs.Compare.Positions.{next_div, next_mod, below_div, below_mod}
use Rattle.cells.specs.declared.windows.WindowPlace.{WindowPlace}
use Rattle.matching.specs.Windows.{window_place, SmallPlace}

-- ---- from window to window

place_is : (columns height width k row column : ℕ) → row ≡ k / corners columns width
    → column ≡ k % corners columns width
    → record { columns = columns; row = row; column = column; height = height; width = width }
    ≡ window_place columns height width k
place_is columns height width k row column e d =
    ap₂ (λ (r c : ℕ). record { columns = columns; row = r; column = c; height = height; width = width }) e d

module _ (v : WindowPlace) (k : ℕ) (is : v ≡ window_place v.columns v.height v.width k) where
  row_is : v.row ≡ k / corners v.columns v.width
  row_is = ap (λ (x : WindowPlace). x.row) is

  column_is : v.column ≡ k % corners v.columns v.width
  column_is = ap (λ (x : WindowPlace). x.column) is

  -- the next one in the row
  pub window_on : v.column + 1 < corners v.columns v.width
      → record { columns = v.columns; row = v.row; column = v.column + 1; height = v.height; width = v.width }
      ≡ window_place v.columns v.height v.width (k + 1)
  window_on h =
      let l : k % corners v.columns v.width + 1 < corners v.columns v.width = omega (arith, column_is) in
      place_is v.columns v.height v.width (k + 1) v.row (v.column + 1)
      (row_is ∙ sym (next_div (corners v.columns v.width) k l))
      (ap (λ (x : ℕ). x + 1) column_is ∙ sym (next_mod (corners v.columns v.width) k l))

  -- the first one of the row below
  pub window_below : 0 < corners v.columns v.width → corners v.columns v.width ≤ v.column + 1
      → record { columns = v.columns; row = v.row + 1; column = 0; height = v.height; width = v.width }
      ≡ window_place v.columns v.height v.width (k + 1)
  window_below pos h =
      let l : corners v.columns v.width ≤ k % corners v.columns v.width + 1 = omega (arith, column_is) in
      place_is v.columns v.height v.width (k + 1) (v.row + 1) 0
      (ap (λ (x : ℕ). x + 1) row_is ∙ sym (below_div (corners v.columns v.width) k pos l))
      (sym (below_mod (corners v.columns v.width) k pos l))

-- the first window
pub window_first : (columns height width : ℕ) → 0 < corners columns width
    → record { columns = columns; row = 0; column = 0; height = height; width = width }
    ≡ window_place columns height width 0
window_first columns height width pos =
    place_is columns height width 0 0 0 (sym (div-eq_of_lt pos)) (sym (mod-eq_of_lt pos))

-- the step, where the sides are known by other names
pub window_next : (columns height width k : ℕ) (v r : WindowPlace) → v ≡ window_place columns height width k
    → ((j : ℕ) → v ≡ window_place v.columns v.height v.width j
    → r ≡ window_place v.columns v.height v.width (j + 1))
    → r ≡ window_place columns height width (k + 1)
window_next columns height width k v r e f =
    subst
    (λ (u : WindowPlace). ((j : ℕ) → u ≡ window_place u.columns u.height u.width j
    → r ≡ window_place u.columns u.height u.width (j + 1)) → r ≡ window_place columns height width (k + 1))
    (sym e) (λ g. g k refl) f

-- ---- window k lies in the text

module _ (cells : ℕ) (s : Shape) (shape : ShapeOf s cells) (k : ℕ) (h : k < down s * across s) where
  some : 0 < across s
  some = omega arith

  row_lt : k / across s < down s
  row_lt = (div-lt_iff_lt-mul some).1 h

  column_lt : k % across s < across s
  column_lt = mod-lt k some

  -- what the step to the next one asks
  pub step_asks : (v : WindowPlace) → v ≡ window_place s.columns s.height s.width k
      → (across s ≡ corners v.columns v.width) × (0 < across s) × (v.column < across s) × (v.row < 65025)
  step_asks v e = (
    rw e,
    some,
    omega (arith, ap (λ (x : WindowPlace). x.column) e, column_lt),
    omega (arith, ap (λ (x : WindowPlace). x.row) e, row_lt),
  )

module _ (text : List ℕ) (s : Shape) (shape : ShapeOf s (length text)) (k : ℕ) (h : k < down s * across s) where
  pub placed_window : Placed text (window_place s.columns s.height s.width k)
  placed_window =
      record {
        some = omega arith;
        tall = omega arith;
        down = omega (arith, shape.cells_is, mul-le-mul_right s.columns rows_le);
        across = omega (arith, column_lt (length text) s shape k h);
        small = omega (arith, shape.cells_is, product_le s.rows s.columns 255 255 (omega arith) (omega arith));
      }
    where
      rows_le : k / across s + s.height ≤ s.rows
      rows_le = omega (arith, row_lt (length text) s shape k h)

  pub small_window : SmallPlace (window_place s.columns s.height s.width k)
  small_window =
      record {
        row_small = omega (arith, row_lt (length text) s shape k h);
        column_small = omega (arith, column_lt (length text) s shape k h);
        height_small = omega arith;
        width_small = omega arith;
        some = omega arith;
      }
