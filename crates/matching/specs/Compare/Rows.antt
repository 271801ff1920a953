-- A window row by row, with no division: where row i begins in the text and in the pattern, that both rows are there,
-- and that their cells are the window's and the pattern's by position. A loop over the rows lends each as a part of its
-- list.
-- Assumes nothing.
use Rattle.std.specs.Prelude.{◌≡◌, refl, List, ℕ, ◌+◌, ◌-◌, ◌*◌, ◌≤◌, ◌<◌, length, get_or, take, drop}
use Rattle.std.proofs.Common.{sym, ◌∙◌, ap, add_assoc, zero-mul, suc-mul, mul-le-mul_right, add-one, arith, length-take, length-drop, get_or-take, get_or-drop}
use Rattle.std.proofs.Math.Nat.{add-sub_cancel_left}
use Rattle.cells.specs.Windows.{cells_of_row}
use Rattle.cells.specs.Windows.Laws.{row_cells_is, window_cell}
use Rattle.matching.specs.Compare.{cell_of_pattern}
use Rattle.view.specs.Places.{window_of, cell_count, Placed}
use Rattle.cells.specs.declared.windows.WindowPlace.{WindowPlace}

-- the part of a list that the code lends, from a place to n further on
pub part_is : (l : List ℕ) (a n : ℕ) → take (a + n - a) (drop a l) ≡ take n (drop a l)
part_is l a n = ap (λ (k : ℕ). take k (drop a l)) (add-sub_cancel_left a n)

-- i rows are behind: the next one begins at start in the text, and at from in the pattern
pub record RowAt (v : WindowPlace) (i start from : ℕ) : Type 0 where
  pub within : i ≤ v.height
  pub start_is : start ≡ (v.row + i) * v.columns + v.column
  pub from_is : from ≡ i * v.width

module _ (v : WindowPlace) where
  -- all rows are behind
  pub rows_behind : (i start from : ℕ) → v.height ≤ i → RowAt v i start from → from ≡ cell_count v
  rows_behind i start from h here =
      let all : i ≡ v.height = omega (arith, here.within) in
      here.from_is ∙ ap (λ (x : ℕ). x * v.width) all

  module _ (i start from : ℕ) (inside : i < v.height) (here : RowAt v i start from) where
    one_more : (v.row + i + 1) * v.columns ≡ (v.row + i) * v.columns + v.columns
    one_more = ap (λ (x : ℕ). x * v.columns) (add-one (v.row + i)) ∙ suc-mul (v.row + i) v.columns

    next_start : (v.row + i) * v.columns + v.column + v.columns ≡ (v.row + (i + 1)) * v.columns + v.column
    next_start = rw (← add_assoc v.row i 1) (omega (arith, one_more))

    next_from : (i + 1) * v.width ≡ i * v.width + v.width
    next_from = ap (λ (x : ℕ). x * v.width) (add-one i) ∙ suc-mul i v.width

    -- one row further
    pub row_below : RowAt v (i + 1) (start + v.columns) (from + v.width)
    row_below =
        record {
          within = omega arith;
          start_is = ap (λ (x : ℕ). x + v.columns) here.start_is ∙ next_start;
          from_is = rw here.from_is (sym next_from);
        }

    -- both rows are there
    module _ (text pattern : List ℕ) (placed : Placed text v) (cells_are : length pattern ≡ cell_count v) where
      pub row_fits : start + v.width ≤ length text
      row_fits =
          let down : (v.row + i + 1) * v.columns ≤ (v.row + v.height) * v.columns = mul-le-mul_right v.columns
          (omega arith) in
          omega (arith, one_more, here.start_is, placed.across, placed.down)

      pub cells_fit : from + v.width ≤ length pattern
      cells_fit =
          let down : (i + 1) * v.width ≤ v.height * v.width = mul-le-mul_right v.width (omega arith) in
          omega (arith, next_from, here.from_is)

      module _ (row cells : List ℕ) (er : row ≡ take v.width (drop start text))
          (ep : cells ≡ take v.width (drop from pattern)) where
        pub length_view_row : length row ≡ v.width
        length_view_row = rw (er, length-take, length-drop) (omega (arith, row_fits))

        -- they are as many as each other
        pub same_length : length cells ≡ length row
        same_length = rw (ep, length-take, length-drop) (omega (arith, cells_fit, length_view_row))

        -- and have the symbols of pattern and window
        pub row_pattern : (j : ℕ) → j < v.width → get_or cells j 0 ≡ cell_of_pattern pattern (from + j)
        row_pattern j h = rw (ep, get_or-take v.width (drop from pattern) j 0 h) (get_or-drop from pattern j 0)

        pub row_window : (j : ℕ) → j < v.width → get_or row j 0 ≡ window_of text v (from + j)
        row_window j h =
            rw (
              er,
              get_or-take v.width (drop start text) j 0 h,
              here.from_is,
              window_cell text v.columns v.row
                  v.column v.width i j h,
              ← here.start_is,
            )
            (get_or-drop start text j 0)

-- ---- rows that are read by their number, so that no place is kept for them

-- where row i begins in the text
abbrev pub row_start : WindowPlace → ℕ → ℕ
row_start v i = (v.row + i) * v.columns + v.column

-- row i, as the view reads it
pub row_read : (text : List ℕ) (v : WindowPlace) (i : ℕ) (row : List ℕ)
    → row ≡ cells_of_row text v.columns (v.row + i) v.column v.width
    → row ≡ take v.width (drop (row_start v i) text)
row_read text v i row e = e ∙ row_cells_is text v.columns (v.row + i) v.column v.width

pub read_first : (v : WindowPlace) → RowAt v 0 (row_start v 0) 0
read_first v = record { within = omega arith; start_is = refl; from_is = rw zero-mul }

pub read_below : (v : WindowPlace) (i from : ℕ) → i < v.height → RowAt v i (row_start v i) from
    → RowAt v (i + 1) (row_start v (i + 1)) (from + v.width)
read_below v i from inside here =
    let r = row_below v i (row_start v i) from inside here in
    record { within = r.within; start_is = refl; from_is = r.from_is }
