-- Reads of a window: a cell by row and column, a row as a part of the text, a window as its rows. Places are sums and
-- products, so most of it is division with remainder by the width.
-- Assumes nothing.
use Rattle.std.specs.Prelude.{◌≡◌, Bool, true, false, Some, None, slice_get, ℕ, suc, ◌+◌, ◌-◌, ◌*◌, ◌/◌, ◌%◌, ◌≤◌, ◌<◌, length, get_or, take, drop, min}
use Rattle.std.proofs.Math.Path.{refl, sym, ap, ap₂}
use Rattle.std.proofs.Common.{◌∙◌, add-zero, add-mul, add_assoc, zero-add, one-mul, mul-le-mul_right, mod-eq_of_lt, arith, drop_of_length-le}
use mathlib.Core.List.{List, [], ◌∷◌, ◌++◌}
use Rattle.std.proofs.Math.Nat.{add_comm, suc-mul, zero-mul, min-le_left, mul-add-div_right, mul-add-mod_self_right, div-eq_of_lt}
use Rattle.std.proofs.Math.ListN.{length-take, length-drop}
use Rattle.std.proofs.Math.Seq.{get_or-take, get_or-drop, take_all, take-nil}
use Rattle.std.proofs.lemmas.Option.{slice_get-get_or, slice_get_past}
use Rattle.theory.specs.Test.{pick, Tested, holds, fails}
use Rattle.theory.specs.Test.Laws.{lt_tested, pick_true, pick_false}
use Rattle.std.proofs.Math.Decide.{dec_le}
use Rattle.theory.specs.Table.{table}
use Rattle.theory.specs.Table.Laws.{table-zero, length-table, get_or-table, table_ext, table-add, table_is}
use Rattle.shapes.specs.Shapes.{Shaped}
use Rattle.cells.specs.Windows.{place, cell_of, window_at, window_cells, cells_of_row, strip_at, corner_row, corner_column}
use Rattle.cells.specs.Windows.{offset_of}

pub corner_row_lem : (across row column : ℕ) → column < across → corner_row across (row * across + column) ≡ row
corner_row_lem across row column h = rw (mul-add-div_right {m = across} (omega arith) row column, div-eq_of_lt h, add-zero)

pub corner_column_lem : (across row column : ℕ) → column < across → corner_column across (row * across + column) ≡ column
corner_column_lem across row column h = rw (mul-add-mod_self_right row across column, mod-eq_of_lt h)

-- ---- one cell

module _ (text : List ℕ) (row_width row column i j : ℕ) where
  pub cell_read : (at : ℕ) → at ≡ (row + i) * row_width + column + j
      → slice_get text at ≡ cell_of text row_width row column i j
  unfolding cell_of place
  cell_read at e = rw (← e) (go _ (lt_tested at (length text)))
    where
      go : (t : Bool) → Tested (at < length text) t → slice_get text at ≡ pick t (Some (get_or text at 0)) None
      go true (holds h) = slice_get-get_or text at 0 h
      go false (fails n) = slice_get_past text at (omega (arith, n))

-- ---- positions

module _ (text : List ℕ) (row_width row column width : ℕ) where
  -- where position p is read
  pub window_at_lem : (p : ℕ) → window_at text row_width row column width p
      ≡ get_or text ((row + p / width) * row_width + column + p % width) 0
  unfolding window_at place
  window_at_lem p = refl

  -- position p lies that far behind the corner
  pub offset_at : (p : ℕ) → get_or text (row * row_width + column + offset_of row_width width p) 0
      ≡ window_at text row_width row column width p
  offset_at p =
      ap (λ (k : ℕ). get_or text k 0) (omega (arith, add-mul row (p / width) row_width)) ∙ sym (window_at_lem p)

  pub window_cell : (i j : ℕ) → j < width
      → window_at text row_width row column width (i * width + j) ≡ get_or text ((row + i) * row_width + column + j) 0
  window_cell i j h =
      rw (
        window_at_lem (i * width + j),
        mul-add-div_right {m = width} (omega arith) i j,
        div-eq_of_lt h,
        mul-add-mod_self_right i width j,
        mod-eq_of_lt h,
        add-zero,
      )

  -- a window lies in the strip of its corner column, its rows from row on
  pub window_strip : (p : ℕ) → 0 < width
      → window_at text row_width row column width p ≡ strip_at text row_width column width (row * width + p)
  unfolding strip_at window_at place
  window_strip p h = rw (mul-add-div_right {m = width} h row p, mul-add-mod_self_right row width p, zero-add)

-- ---- rows

-- a row of a strip lies in the text
pub row_inside : (cells rows columns height width left row : ℕ) → Shaped cells rows columns height width
    → left + width ≤ columns → row < rows → row * columns + left + width ≤ cells
row_inside cells rows columns height width left row s l h =
    omega (arith, s.cells_is, mul-le-mul_right columns h, suc-mul row columns)

module _ (text : List ℕ) (row_width : ℕ) where
  pub row_cells_is : (row column width : ℕ)
      → cells_of_row text row_width row column width ≡ take width (drop (row * row_width + column) text)
  unfolding cells_of_row
  row_cells_is row column width = refl

  -- as far as the text goes
  pub row_cells_cut : (row column width from end : ℕ) → from ≡ min (row * row_width + column) (length text)
      → end ≡ min (row * row_width + column + width) (length text)
      → take (end - from) (drop from text) ≡ cells_of_row text row_width row column width
  unfolding cells_of_row
  row_cells_cut row column width from end e d = go (dec_le (row * row_width + column) (length text))
    where
      go : Dec (row * row_width + column ≤ length text)
          → take (end - from) (drop from text) ≡ take width (drop (row * row_width + column) text)
      go (yes h) = inside (dec_le (row * row_width + column + width) (length text))
        where
          start : from ≡ row * row_width + column
          start = omega arith

          inside : Dec (row * row_width + column + width ≤ length text)
              → take (end - from) (drop from text) ≡ take width (drop (row * row_width + column) text)
          inside (yes l) =
              let all : end - from ≡ width = omega arith in
              ap₂ (λ (n k : ℕ). take n (drop k text)) all start
          inside (no n) =
              ap (λ (k : ℕ). take (end - from) (drop k text)) start
              ∙ take_all (end - from) (drop (row * row_width + column) text) (rw length-drop (omega arith))
              ∙ sym (take_all width (drop (row * row_width + column) text) (rw length-drop (omega arith)))
      go (no n) =
          ap (take (end - from)) (drop_of_length-le text {i = from} (omega arith)) ∙ take-nil (end - from)
          ∙ sym (ap (take width) (drop_of_length-le text {i = row * row_width + column} (omega arith)) ∙ take-nil width)

  pub length_row_le : (row column width : ℕ) → length (cells_of_row text row_width row column width) ≤ width
  unfolding cells_of_row
  length_row_le row column width = rw length-take (min-le_left _ _)

  pub length_row : (row column width : ℕ) → row * row_width + column + width ≤ length text
      → length (cells_of_row text row_width row column width) ≡ width
  unfolding cells_of_row
  length_row row column width h = rw (length-take, length-drop) (omega arith)

  pub row_at : (row column width j : ℕ) → j < width
      → get_or (cells_of_row text row_width row column width) j 0 ≡ window_at text row_width row column width j
  unfolding cells_of_row
  row_at row column width j h =
      get_or-take width (drop (row * row_width + column) text) j 0 h ∙ get_or-drop (row * row_width + column) text j 0
      ∙ sym (ap (window_at text row_width row column width) (sym (rw zero-mul (zero-add j)))
      ∙ window_cell text row_width row column width 0 j h ∙ rw add-zero)

  module _ (column width : ℕ) where
    row_table : (row : ℕ) → row * row_width + column + width ≤ length text
        → cells_of_row text row_width row column width ≡ table (window_at text row_width row column width) width
    row_table row h =
        table_is (window_at text row_width row column width) width 0 (cells_of_row text row_width row column width)
        (length_row row column width h) (row_at row column width)

    -- the rows below the first i are those of the window i further down
    lower : (row i p : ℕ) → 0 < width → window_at text row_width row column width (i * width + p)
        ≡ window_at text row_width (row + i) column width p
    lower row i p h =
        rw (
          window_at_lem text row_width row column width (i * width + p),
          window_at_lem text row_width (row + i) column width p,
          mul-add-div_right {m = width} h i p,
          mul-add-mod_self_right i width p,
          add_assoc row i (p / width),
        )

    pub length-cells : (row height : ℕ) → length (window_cells text row_width row column height width) ≡ height * width
    unfolding window_cells
    length-cells row height = length-table (window_at text row_width row column width) (height * width)

    pub cells_none : (row : ℕ) → window_cells text row_width row column 0 width ≡ []
    unfolding window_cells
    cells_none row = rw zero-mul (table-zero (window_at text row_width row column width))

    -- one row more at the bottom
    pub cells_last_row : (row height : ℕ) → 0 < width → (row + height) * row_width + column + width ≤ length text →
        window_cells text row_width row column (suc height) width ≡ window_cells text row_width row column height width
        ++ cells_of_row text row_width (row + height) column width
    unfolding window_cells
    cells_last_row row height pos h =
        rw suc-mul
        (table-add (window_at text row_width row column width) (height * width) width
        ∙ ap (λ (xs : List ℕ). table (window_at text row_width row column width) (height * width) ++ xs)
        (table_ext _ _ width (λ p _. lower row height p pos) ∙ sym (row_table (row + height) h)))

    -- and one at the top
    pub cells_first_row : (row height : ℕ) → 0 < width → row * row_width + column + width ≤ length text →
        window_cells text row_width row column (suc height) width ≡ cells_of_row text row_width row column width
        ++ window_cells text row_width (row + 1) column height width
    unfolding window_cells
    cells_first_row row height pos h =
        rw (suc-mul, add_comm (height * width) width)
        (table-add (window_at text row_width row column width) width (height * width)
        ∙ ap₂ (λ (xs ys : List ℕ). xs ++ ys) (sym (row_table row h)) (table_ext _ _ (height * width) (λ p _. rest p)))
      where
        rest : (p : ℕ) → window_at text row_width row column width (width + p)
            ≡ window_at text row_width (row + 1) column width p
        rest p =
            ap (window_at text row_width row column width) (ap (λ (x : ℕ). x + p) (sym (one-mul width)))
            ∙ lower row 1 p pos

-- ---- a window's cells, and those of document 01's first draft, text 7 7 3 / 3 7 7: windows and strips of two columns

pub cells-table : (text : List ℕ) (row_width row column height width : ℕ)
    → window_cells text row_width row column height width
    ≡ table (window_at text row_width row column width) (height * width)
unfolding window_cells
cells-table text row_width row column height width = refl

-- the cells of a text of bytes are bytes
pub cells_byte : (text : List ℕ) (row_width row column height width : ℕ) → ((k : ℕ) → get_or text k 0 < 256)
    → (i : ℕ) → i < length (window_cells text row_width row column height width)
    → get_or (window_cells text row_width row column height width) i 0 < 256
cells_byte text row_width row column height width bytes i h =
    let l : i < height * width = omega (arith, length-cells text row_width column width row height) in
    rw (
      cells-table text row_width row column height width,
      get_or-table (window_at text row_width row column width)
          (height * width) i 0 l,
      window_at_lem text row_width row column width i,
    )
    (bytes _)

-- the text: an abbreviation, so that a statement of another crate may write its cells out
abbrev pub example_text : List ℕ
example_text = 7 ∷ 7 ∷ 3 ∷ 3 ∷ 7 ∷ 7 ∷ []

pub example_cells : (window_cells example_text 3 0 0 2 2 ≡ 7 ∷ 7 ∷ 3 ∷ 7 ∷ [])
    × (window_cells example_text 3 0 1 2 2 ≡ 7 ∷ 3 ∷ 7 ∷ 7 ∷ [])
unfolding window_cells window_at place table
example_cells = (refl, refl)

pub example_strips : (table (strip_at example_text 3 0 2) 4 ≡ 7 ∷ 7 ∷ 3 ∷ 7 ∷ [])
    × (table (strip_at example_text 3 1 2) 4 ≡ 7 ∷ 3 ∷ 7 ∷ 7 ∷ [])
unfolding strip_at window_at place table
example_strips = (refl, refl)

pub example_length : length example_text ≡ 6
example_length = refl
