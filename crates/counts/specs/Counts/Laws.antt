-- What the counts operation refuses and leaves; that the occurrences slid down a strip are those of its windows; and
-- that the strips, each written column by column, are all windows row by row.
-- Assumes nothing.
use Rattle.std.specs.Prelude.{Result, Ok, Err, ⊤, ◌≡◌, ℕ, zero, suc, ◌+◌, ◌-◌, ◌*◌, ◌/◌, ◌%◌, ◌≤◌, ◌<◌, leb, length}
use Rattle.std.proofs.Common.{sym, ◌∙◌, subst, mul-le-mul_right, suc-mul, mod-lt, div-lt_iff_lt-mul, div-add-mod', add-one, sub-one, arith}
use Rattle.std.proofs.Math.Path.{ap}
use mathlib.Core.List.{List, [], ◌++◌}
use Rattle.std.proofs.Math.ListN.{drop}
use borrow.Author.Tests.{le-leb, lt-leb}
use Rattle.theory.specs.Test.Laws.{le_tested, says_true}
use Rattle.theory.specs.Table.{table}
use Rattle.theory.specs.Table.Laws.{length-table}
use Rattle.theory.specs.Store.{stored_rows, Covers}
use Rattle.theory.specs.Store.Laws.{rows_all}
use Rattle.refusals.specs.Said.{accepts, refuses, check, outcome_said, filled}
use Rattle.refusals.specs.Said.Laws.{then_stopped, then_both, check_true, filled_kept, filled_new}
use Rattle.shapes.specs.Questions.{text_said}
use Rattle.shapes.specs.Questions.Laws.{text_shaped, text_said_lem}
use Rattle.shapes.specs.Shapes.{corners, ShapeOf, across, down}
use Rattle.shapes.specs.Shapes.Laws.{product_le}
use Rattle.refusals.specs.declared.refusals.Refusal.{Refusal}
use Rattle.cells.specs.Windows.{window_cells, cells_of_row}
use Rattle.cells.specs.Windows.Laws.{corner_row_lem, corner_column_lem, row_inside, length_row_le, length-cells, cells_none}
use Rattle.cells.specs.Windows.Laws.{length_row, cells_last_row, cells_first_row}
use Rattle.occurrences.specs.Distinct.{distinct}
use Rattle.occurrences.specs.Occurrences.{Tracks, RoomToAdd, Adds}
use Rattle.occurrences.specs.declared.occurrences.Occurrences.{Occurrences}
use Rattle.occurrences.specs.Occurrences.Laws.{size_le}
use Rattle.shapes.specs.declared.shapes.Shape.{Shape}
use Rattle.grid.specs.Strips.{StripOf, strip_from}
use Rattle.grid.specs.Strips.Laws.{strip_of}
use Rattle.counts.specs.Counts.{window_count, count_in, counts_said, counts_of, strip_cells}

module _ (text : List ℕ) (s : Shape) (room : ℕ) where
  -- 2, 3, 4 are refused as everywhere
  pub counts_stopped : (o : Result ⊤ Refusal) (why : Refusal) → o ≡ Err why → outcome_said o ≡ text_said text s
      → outcome_said o ≡ counts_said text s room
  unfolding counts_said
  counts_stopped o why e d = then_stopped o why (text_said text s) _ e d

  -- nothing is refused exactly if shape and buffer are good
  pub counts_passed : (values : List ℕ) → counts_said text s room ≡ accepts values
      → ShapeOf s (length text) × (down s * across s ≤ room)
  unfolding counts_said
  counts_passed values e =
      let a = then_both (text_said text s) (check (leb (down s * across s) room) 10) values e in (
        text_shaped text s a.0.0 a.0.1,
        says_true (le_tested (down s * across s) room)
            (check_true _ 10 [] values a.1),
      )

  module _ (shape : ShapeOf s (length text)) where
    pub counts_room_refused : room < down s * across s → refuses 10 [] ≡ counts_said text s room
    unfolding counts_said
    counts_room_refused h = rw (text_said_lem text s shape, lt-leb (down s * across s) room h)

    pub counts_accepted : down s * across s ≤ room → accepts [] ≡ counts_said text s room
    unfolding counts_said
    counts_accepted h = rw (text_said_lem text s shape, le-leb (down s * across s) room h)

module _ (text : List ℕ) (s : Shape) (counts : List ℕ) where
  -- the buffer of an accepted call
  pub counts_after : counts_said text s (length counts) ≡ accepts []
      → (counts_of text s counts).buffer ≡ table (count_in text s) (down s * across s) ++ drop (down s * across s) counts
  unfolding counts_of
  counts_after e = rw (e, length-table (count_in text s) (down s * across s))

  -- a refused call
  pub counts_kept : (o : Result ⊤ Refusal) (why : Refusal) → o ≡ Err why → outcome_said o ≡ counts_said text s (length counts)
      → filled o counts ≡ counts_of text s counts
  unfolding counts_of
  counts_kept o why e d =
      filled_kept o why (counts_said text s (length counts)) (table (count_in text s) (down s * across s)) counts e d

  -- an accepted one
  pub counts_new : (r : List ℕ) → counts_said text s (length counts) ≡ accepts []
      → r ≡ table (count_in text s) (down s * across s) ++ drop (down s * across s) counts
      → filled (Ok tt) r ≡ counts_of text s counts
  unfolding counts_of
  counts_new r z e =
      filled_new (counts_said text s (length counts)) (table (count_in text s) (down s * across s)) counts r z
      (e ∙ ap (λ (n : ℕ). table (count_in text s) (down s * across s) ++ drop n counts)
      (sym (length-table (count_in text s) (down s * across s))))

-- a window's count is the number of different symbols among its cells
pub window_count_lem : (text : List ℕ) (columns height width row column : ℕ) → column < corners columns width
    → window_count text columns height width (row * corners columns width + column)
    ≡ distinct (window_cells text columns row column height width)
unfolding window_count
window_count_lem text columns height width row column h =
    rw (corner_row_lem (corners columns width) row column h, corner_column_lem (corners columns width) row column h)

-- ---- a strip, row by row

module _ (text : List ℕ) (s : Shape) (left : ℕ) (shape : ShapeOf s (length text))
    (inside : left + s.width ≤ s.columns) where
  row_fits : (row : ℕ) → row < s.rows → row * s.columns + left + s.width ≤ length text
  row_fits row h = row_inside (length text) s.rows s.columns s.height s.width left row shape inside h

  window_small : s.height * s.width ≤ 255 * 255
  window_small = product_le s.height s.width 255 255 (omega arith) (omega arith)

  -- the strip that the rows are read of
  pub beside_strip : StripOf (strip_from s.rows s.columns s.width left) (length text)
  beside_strip = strip_of s left (length text) shape (omega arith)

  -- a row is as long as the strip is wide
  pub row_long : (at : ℕ) (row : List ℕ) → row ≡ cells_of_row text s.columns at left s.width → at < s.rows
      → length row ≡ s.width
  row_long at row e h = rw e (length_row text s.columns at left s.width (row_fits at h))

  -- there is room for one row more
  pub room_below : (top n at : ℕ) (row : List ℕ) → n ≤ s.height → row ≡ cells_of_row text s.columns at left s.width
      → length (strip_cells text s top left n) + length row ≤ 65535
  room_below top n at row h e =
      rw e (omega (
        arith,
        length-cells text s.columns left s.width top n,
        length_row_le text s.columns at left s.width,
        window_small,
        mul-le-mul_right s.width h,
      ))

  pub room_row : (o : Occurrences) (top n at : ℕ) (row : List ℕ) → n ≤ s.height
      → Tracks o (strip_cells text s top left n) → row ≡ cells_of_row text s.columns at left s.width
      → RoomToAdd o (length row)
  room_row o top n at row h k e = (strip_cells text s top left n, k, room_below top n at row h e)

  -- a row enters at the bottom
  pub bottom_last : (r : Occurrences) (top n m at : ℕ) (row : List ℕ)
      → row ≡ cells_of_row text s.columns at left s.width → at ≡ top + n → m ≡ n + 1 → at < s.rows
      → Tracks r (strip_cells text s top left n ++ row) → Tracks r (strip_cells text s top left m)
  bottom_last r top n m at row e i j h k =
      rw (
        j,
        add-one,
        cells_last_row text s.columns left s.width top n (omega arith)
            (subst (λ (x : ℕ). x * s.columns + left + s.width ≤ length text) i (row_fits at h)),
        ← i,
        ← e,
      )
      k

  pub add_bottom : (o r : Occurrences) (top n m at : ℕ) (row : List ℕ) → Tracks o (strip_cells text s top left n)
      → row ≡ cells_of_row text s.columns at left s.width
      → at ≡ top + n → m ≡ n + 1 → at < s.rows → Adds o row r → Tracks r (strip_cells text s top left m)
  add_bottom o r top n m at row k e i j h a =
      bottom_last r top n m at row e i j h (a (strip_cells text s top left n) k)

  -- the top row stands first
  pub top_first : (o : Occurrences) (top n : ℕ) (row : List ℕ) → 1 ≤ n → top < s.rows
      → Tracks o (strip_cells text s top left n) → row ≡ cells_of_row text s.columns top left s.width
      → Tracks o (row ++ strip_cells text s (top + 1) left (n - 1))
  top_first o top zero row l h k e = absurd (omega arith)
  top_first o top (suc n) row l h k e =
      rw (e, sub-one) (rw (cells_first_row text s.columns left s.width top n (omega arith) (row_fits top h)) at k)

  -- a window's count fits 16 bits
  pub size_small : (o : Occurrences) (top : ℕ) → Tracks o (strip_cells text s top left s.height) → o.size ≤ 65535
  size_small o top k =
      omega (
        arith,
        size_le o (strip_cells text s top left s.height) k,
        length-cells text s.columns left s.width
            top s.height,
        window_small,
      )

-- no row has entered
pub tracks_start : (text : List ℕ) (s : Shape) (top left : ℕ) (o : Occurrences) → Tracks o []
    → Tracks o (strip_cells text s top left 0)
tracks_start text s top left o k = rw (cells_none text s.columns left s.width top) k

-- ---- the buffer, window by window

-- a window's place lies in the buffer
pub place_lt : (across down top left : ℕ) → left < across → top < down → top * across + left < down * across
place_lt across down top left h k = omega (arith, mul-le-mul_right across k, suc-mul top across)

-- the count of the window that the occurrences track, at its place
pub count_at : (text : List ℕ) (s : Shape) (top left : ℕ) (o : Occurrences) → left < across s
    → Tracks o (strip_cells text s top left s.height)
    → o.size ≡ count_in text s (top * across s + left)
count_at text s top left o h k = k.size_is ∙ sym (window_count_lem text s.columns s.height s.width top left h)

pub windows_small : (s : Shape) (cells : ℕ) → ShapeOf s cells → down s * across s ≤ 255 * 255
windows_small s cells v = product_le (down s) (across s) 255 255 (omega arith) (omega arith)

-- every window lies in one strip
pub windows_covered : (s : Shape) → 0 < across s
    → Covers (λ left top. top * across s + left) (across s) (down s) (down s * across s)
windows_covered s pos =
    record {
      row = λ k. k % across s;
      column = λ k. k / across s;
      place = λ k h. (mod-lt k pos, (div-lt_iff_lt-mul pos).1 h, div-add-mod' k (across s));
      inside = λ left top a b. place_lt (across s) (down s) top left a b;
    }

-- all strips written are the buffer that an accepted call leaves
pub counts_written : (text : List ℕ) (s : Shape) (counts r : List ℕ) → counts_said text s (length counts) ≡ accepts []
    → r ≡ stored_rows (count_in text s) (λ left top. top * across s + left) (across s) (down s) counts
    → filled (Ok tt) r ≡ counts_of text s counts
counts_written text s counts r z e =
    let p = counts_passed text s (length counts) [] z in
    counts_new text s counts r z
    (e
    ∙ rows_all (count_in text s) (λ left top. top * across s + left) (down s) (across s) (down s * across s) counts
    (windows_covered s (omega arith)) p.1)
