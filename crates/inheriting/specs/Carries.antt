-- A window whose cells have their symbols' images: one cell after another in a row, and row after row. The image of a
-- symbol is what the window has in the symbol's first place.
-- Assumes nothing.
use Rattle.std.specs.Prelude.{◌≡◌, refl, Bool, List, ℕ, ◌+◌, ◌-◌, ◌*◌, ◌≤◌, ◌<◌, length, get_or, take, drop}
use Rattle.std.proofs.Common.{sym, ◌∙◌, ap, subst, add-one, suc-mul, arith}
use Rattle.theory.specs.Test.{Tested, holds, fails}
use Rattle.theory.specs.Test.Laws.{lt_tested}
use Rattle.cells.specs.Windows.{cells_of_row}
use Rattle.matching.specs.Compared.{pattern_seen, window_seen, cells_seen}
use Rattle.matching.specs.Compare.Rows.{RowAt, row_start, row_read, cells_fit, length_view_row, same_length}
use Rattle.matching.specs.Compare.Rows.{row_pattern, row_window}
use Rattle.cells.specs.declared.windows.WindowPlace.{WindowPlace}
use Rattle.matching.specs.declared.compared.Compared.{Compared}
use Rattle.inheriting.specs.declared.images.Imaged.{Imaged}
use Rattle.inheriting.specs.Images.{image_in, ImagesIn}
use Rattle.inheriting.specs.Offsets.{image_from_behind, ImagesInside}
use Rattle.inheriting.specs.Offsets.Laws.{inside_cells}

-- each of the first n positions has its symbol's image
pub record Carried (text : List ℕ) (corner : ℕ) (offsets : List ℕ) (m w : ℕ → ℕ) (n : ℕ) : Type 0 where
  pub carries : (p : ℕ) → p < n → image_from_behind text corner offsets (m p) ≡ w p

-- the same of the first n cells of one row
pub record RowCarried (m : Imaged) (row cells : List ℕ) (n : ℕ) : Type 0 where
  pub carries : (j : ℕ) → j < n → image_in m (get_or cells j 0) ≡ get_or row j 0

-- ---- one row

module _ (m : Imaged) (row cells : List ℕ) where
  pub row_none : RowCarried m row cells 0
  row_none = record { carries = λ j h. absurd (none j h) }
    where
      none : (j : ℕ) → j < 0 → ⊥
      none j h = omega arith

  -- one cell more, whose image is x
  pub row_more : (j x : ℕ) → RowCarried m row cells j
      → x ≡ image_in m (get_or cells j 0) → x ≡ get_or row j 0
      → RowCarried m row cells (j + 1)
  row_more j x here image e = record { carries = λ k h. go k h (lt_tested k j) }
    where
      go : (k : ℕ) {t : Bool} → k < j + 1 → Tested (k < j) t
          → image_in m (get_or cells k 0) ≡ get_or row k 0
      go k h (holds l) = here.carries k l
      go k h (fails n) = let last : k ≡ j = omega arith in rw last (sym image ∙ e)

  -- and two cells more
  pub row_two : (j x y : ℕ) → RowCarried m row cells j
      → x ≡ image_in m (get_or cells j 0) → x ≡ get_or row j 0
      → y ≡ image_in m (get_or cells (j + 1) 0) → y ≡ get_or row (j + 1) 0
      → RowCarried m row cells (j + 2)
  row_two j x y here image e next f =
      let two : j + 1 + 1 ≡ j + 2 = omega arith in
      rw two at (row_more (j + 1) y (row_more j x here image e) next f)

-- ---- all rows

-- i rows of the window are carried
pub record RowsCarried (m : Imaged) (i : ℕ) : Type 0 where
  pub within : i ≤ m.compared.window.place.height
  pub carried : Carried m.compared.window.text.now m.corner m.offsets.now (pattern_seen m.compared)
      (window_seen m.compared) (i * m.compared.window.place.width)

module _ (m : Imaged) where
  abbrev c : Compared
  c = m.compared

  abbrev v : WindowPlace
  v = m.compared.window.place

  abbrev text : List ℕ
  text = m.compared.window.text.now

  abbrev corner : ℕ
  corner = m.corner

  abbrev offsets : List ℕ
  offsets = m.offsets.now

  abbrev pattern : List ℕ
  pattern = m.compared.pattern.now

  pub rows_all : (i : ℕ) → v.height ≤ i → RowsCarried m i
      → Carried text corner offsets (pattern_seen c) (window_seen c) (cells_seen c)
  rows_all i h here =
      let all : i ≡ v.height = omega (arith, here.within) in
      rw all at here.carried

  -- one row more
  module _ (i : ℕ) (inside : i < v.height) (row cells : List ℕ)
      (er : row ≡ cells_of_row text v.columns (v.row + i) v.column
      v.width)
      (ep : cells ≡ take v.width (drop (i * v.width) pattern)) where
    at : RowAt v i (row_start v i) (i * v.width)
    at = record { within = omega arith; start_is = refl; from_is = refl }

    row_is : row ≡ take v.width (drop (row_start v i) text)
    row_is = row_read text v i row er

    -- the pattern's row is as long as the window's
    pub rows_alike : length cells ≡ length row
    rows_alike =
        same_length v i _ _ inside at text pattern c.window.placed c.fitting row cells
        row_is ep

    wide : length row ≡ v.width
    wide =
        length_view_row v i _ _ inside at text pattern c.window.placed c.fitting row
        cells row_is ep

    cell_is : (j : ℕ) → j < v.width
        → get_or cells j 0 ≡ pattern_seen c (i * v.width + j)
    cell_is =
        row_pattern v i _ _ inside at text pattern c.window.placed c.fitting row cells
        row_is ep

    -- the images of its symbols lie in the text
    pub cells_inside : ImagesIn m cells
    cells_inside =
        subst (λ (k : ℕ). ImagesInside text k m.offsets.now cells) (sym m.corner_is)
        (inside_cells text v pattern offsets c.window.placed c.fitting m.leads cells (i * v.width) v.width
        (rows_alike ∙ wide) (cells_fit v i _ _ inside at text pattern c.window.placed c.fitting) cell_is)

    pub rows_more : RowsCarried m i → RowCarried m row cells (length row)
        → RowsCarried m (i + 1)
    rows_more here more =
        record { within = omega arith; carried = record { carries = λ p h. go p h (lt_tested p (i * v.width)) } }
      where
        in_row : (j : ℕ) → j < v.width
            → image_in m (pattern_seen c (i * v.width + j))
            ≡ window_seen c (i * v.width + j)
        in_row j h =
            ap (image_in m) (sym (cell_is j h))
            ∙ more.carries j (omega (arith, wide))
            ∙ row_window v i _ _ inside at text pattern c.window.placed c.fitting row
            cells row_is ep j h

        next : (i + 1) * v.width ≡ i * v.width + v.width
        next = ap (λ (x : ℕ). x * v.width) (add-one i) ∙ suc-mul i v.width

        go : (p : ℕ) {t : Bool} → p < (i + 1) * v.width → Tested (p < i * v.width) t
            → image_in m (pattern_seen c p) ≡ window_seen c p
        go p h (holds l) = here.carried.carries p l
        go p h (fails n) =
            let e : i * v.width + (p - i * v.width) ≡ p = omega arith in
            rw e at (in_row (p - i * v.width) (omega (arith, next)))
