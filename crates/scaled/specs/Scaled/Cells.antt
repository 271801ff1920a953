-- The cells of an enlargement: cell (i, j) is the pattern's cell (i / k, j / k) (`scaled_cell`), it has every symbol of
-- the pattern and no other (`same_symbols`), so that there are as many (`same_distinct`); at k = 1 it is the pattern
-- (`scaled_one`). Places are sums and products, so all of it is division with remainder.
-- Assumes nothing.
use Rattle.std.specs.Prelude.{◌≡◌, List, [], ◌∷◌, ℕ, zero, suc, ◌+◌, ◌*◌, ◌/◌, ◌%◌, ◌≤◌, ◌<◌, length, get_or}
use Rattle.std.proofs.Common.{sym, ◌∙◌, ap, subst, one-mul, suc-mul, mul_comm, mul-le-mul_right, le_of_suc-le-suc, div-one, mod-lt, div-add-mod', div-lt_iff_lt-mul, arith}
use Rattle.std.proofs.Math.Nat.{mul-lt-mul_of_pos_left, mul-div_cancel_left}
use Rattle.std.proofs.Math.Decide.{dec_lt, ℕ_discrete}
use Rattle.std.proofs.Math.ListN.{get_or-eq_default}
use Rattle.theory.specs.Test.Laws.{tested_iff, tested_same}
use Rattle.theory.specs.Table.Laws.{get_or-table, table_is}
use Rattle.theory.specs.Bytes.{Bytes}
use Rattle.theory.specs.Count.{Entry}
use Rattle.theory.specs.Count.Laws.{count_ext, members_ext}
use Rattle.shapes.specs.Questions.{Grid, Question}
use Rattle.cells.specs.Windows.Laws.{corner_row_lem, corner_column_lem}
use Rattle.occurrences.specs.Distinct.{contains, distinct}
use Rattle.occurrences.specs.Distinct.Sets.{contains_tested, distinct_count}
use Rattle.sets.specs.Symbols.{symbols_of}
use Rattle.scaled.specs.Scaled.{enlarged_cells, enlarged, scaled}
use Rattle.scaled.specs.Scaled.Fit.{length-enlarged}

-- a place in a table of rows and columns
inside : (rows columns i j : ℕ) → i < rows → j < columns → i * columns + j < rows * columns
inside rows columns i j h k = omega (arith, mul-le-mul_right columns h, suc-mul i columns)

-- a part of k of something
part_lt : (k x n : ℕ) → 1 ≤ k → x < k * n → x / k < n
part_lt k x n pos h = (div-lt_iff_lt-mul {k = k} {x = x} {y = n} pos).1 (omega (arith, mul_comm k n))

-- what has a place inside has rows and columns
columns_some : (rows columns p : ℕ) → p < rows * columns → 0 < columns
columns_some rows columns p h = go (ℕ_discrete columns 0)
  where
    go : Dec (columns ≡ 0) → 0 < columns
    go (yes e) = absurd (omega (arith, subst (λ (c : ℕ). p < rows * c) e h))
    go (no n) = omega arith

-- ---- one cell

module _ (k : ℕ) (g : Grid) where
  -- by position
  pub enlarged_at : (p : ℕ) → p < k * g.rows * (k * g.columns)
      → get_or (enlarged k g).cells p 0
      ≡ get_or g.cells (p / (k * g.columns) / k * g.columns + p % (k * g.columns) / k) 0
  unfolding enlarged_cells
  enlarged_at p h = get_or-table _ (k * g.rows * (k * g.columns)) p 0 h

  -- by row and column: cell (i, j) is the pattern's cell (i / k, j / k)
  pub scaled_cell : (i j : ℕ) → i < k * g.rows → j < k * g.columns
      → get_or (enlarged k g).cells (i * (k * g.columns) + j) 0 ≡ get_or g.cells (i / k * g.columns + j / k) 0
  scaled_cell i j h m =
      enlarged_at (i * (k * g.columns) + j) (inside (k * g.rows) (k * g.columns) i j h m)
      ∙ rw (corner_row_lem (k * g.columns) i j m, corner_column_lem (k * g.columns) i j m)

  -- where it is read lies in the pattern
  pub enlarged_place : 1 ≤ k → (p : ℕ) → p < k * g.rows * (k * g.columns)
      → p / (k * g.columns) / k * g.columns + p % (k * g.columns) / k < g.rows * g.columns
  enlarged_place pos p h =
      let some : 0 < k * g.columns = columns_some (k * g.rows) (k * g.columns) p h in
      inside g.rows g.columns (p / (k * g.columns) / k) (p % (k * g.columns) / k)
      (part_lt k (p / (k * g.columns)) g.rows pos
      ((div-lt_iff_lt-mul {k = k * g.columns} {x = p} {y = k * g.rows} some).1 h))
      (part_lt k (p % (k * g.columns)) g.columns pos (mod-lt p some))

  -- bytes stay bytes
  pub enlarged_bytes : Bytes g.cells → Bytes (enlarged k g).cells
  enlarged_bytes bytes p = go (dec_lt p (k * g.rows * (k * g.columns)))
    where
      go : Dec (p < k * g.rows * (k * g.columns)) → get_or (enlarged k g).cells p 0 < 256
      go (yes h) =
          omega (
            arith,
            enlarged_at p h,
            bytes (p / (k * g.columns) / k * g.columns + p % (k * g.columns) / k),
          )
      go (no n) =
          omega (
            arith,
            get_or-eq_default (enlarged k g).cells 0 {n = p} (omega (arith, length-enlarged k g)),
          )

-- ---- symbols

-- a number above every entry
above : List ℕ → ℕ
above [] = 0
above (x ∷ xs) = suc x + above xs

entry_below : (xs : List ℕ) (i : ℕ) → i < length xs → get_or xs i 0 < above xs
unfolding above
entry_below [] i h = absurd (omega arith)
entry_below (x ∷ xs) zero h = omega arith
entry_below (x ∷ xs) (suc i) h = omega (arith, entry_below xs i (le_of_suc-le-suc h))

-- lists that hold the same symbols hold as many
pub distinct_same : (xs ys : List ℕ) → ((v : ℕ) → contains xs v ≡ contains ys v) → distinct xs ≡ distinct ys
distinct_same xs ys same =
    sym (distinct_count xs (above xs + above ys) (λ i h. omega (arith, entry_below xs i h)))
    ∙ count_ext (contains xs) (contains ys) (above xs + above ys) (λ v _. same v)
    ∙ distinct_count ys (above xs + above ys) (λ i h. omega (arith, entry_below ys i h))

module _ (k : ℕ) (g : Grid) (pos : 1 ≤ k) (size : length g.cells ≡ g.rows * g.columns) where
  -- each entry of the enlargement is one of the pattern
  entry_back : (v : ℕ) → Entry (enlarged k g).cells v → Entry g.cells v
  entry_back v e =
      let h : e.0 < k * g.rows * (k * g.columns) = omega (arith, e.1, length-enlarged k g) in (
        e.0 / (k * g.columns) / k * g.columns + e.0 % (k * g.columns) / k,
        omega (arith, enlarged_place k g pos e.0 h, size),
        sym (enlarged_at k g e.0 h) ∙ e.2,
      )

  -- and each of the pattern stands in the enlargement: the first of its k by k cells
  entry_on : (v : ℕ) → Entry g.cells v → Entry (enlarged k g).cells v
  entry_on v e =
      let some : 0 < g.columns = columns_some g.rows g.columns e.0 (omega (arith, e.1, size)) in
      let row : e.0 / g.columns < g.rows =
      (div-lt_iff_lt-mul {k = g.columns} {x = e.0} {y = g.rows} some).1 (omega (arith, e.1, size)) in
      let column : e.0 % g.columns < g.columns = mod-lt e.0 some in
      let low : k * (e.0 / g.columns) < k * g.rows = mul-lt-mul_of_pos_left row pos in
      let left : k * (e.0 % g.columns) < k * g.columns = mul-lt-mul_of_pos_left column pos in (
        k * (e.0 / g.columns) * (k * g.columns) + k * (e.0 % g.columns),
        omega (
          arith,
          inside (k * g.rows) (k * g.columns) (k * (e.0 / g.columns)) (k * (e.0 % g.columns)) low left,
          length-enlarged k g,
        ),
        scaled_cell k g (k * (e.0 / g.columns)) (k * (e.0 % g.columns)) low left
            ∙ rw (
              mul-div_cancel_left (e.0 / g.columns) pos,
              mul-div_cancel_left (e.0 % g.columns) pos,
              div-add-mod' e.0 g.columns,
            )
            e.2,
      )

  -- so the two hold the same symbols
  pub same_symbols : (v : ℕ) → contains (enlarged k g).cells v ≡ contains g.cells v
  same_symbols v =
      tested_same (tested_iff (entry_back v) (entry_on v) (contains_tested (enlarged k g).cells v))
      (contains_tested g.cells v)

  -- d is the pattern's
  pub same_distinct : distinct (enlarged k g).cells ≡ distinct g.cells
  same_distinct = distinct_same (enlarged k g).cells g.cells same_symbols

  -- and so are the symbols, rising
  pub same_listed : symbols_of (enlarged k g).cells ≡ symbols_of g.cells
  same_listed = members_ext (contains (enlarged k g).cells) (contains g.cells) 256 (λ v _. same_symbols v)

-- ---- at k = 1

one_cells : (g : Grid) → length g.cells ≡ g.rows * g.columns → (enlarged 1 g).cells ≡ g.cells
unfolding enlarged_cells
one_cells g size =
    sym (table_is _ (1 * g.rows * (1 * g.columns)) 0 g.cells (size ∙ rw (one-mul g.rows, one-mul g.columns))
    (λ i _.
    ap (λ (p : ℕ). get_or g.cells p 0)
    (rw (one-mul g.columns, div-one (i / g.columns), div-one (i % g.columns))
    (sym (div-add-mod' i g.columns)))))

pub enlarged_one : (g : Grid) → length g.cells ≡ g.rows * g.columns → enlarged 1 g ≡ g
enlarged_one g size = rw (one_cells g size, one-mul g.rows, one-mul g.columns)

pub scaled_one : (q : Question) → length q.pattern.cells ≡ q.pattern.rows * q.pattern.columns → scaled 1 q ≡ q
scaled_one q size = ap (λ (g : Grid). record { text = q.text; pattern = g }) (enlarged_one q.pattern size)
