-- Laws of blocks: the place that is shown depends on the position divided by the scale and on nothing else of it, so
-- the positions with one quotient show one cell, and in a row the next quotient the next cell.
-- Assumes nothing.
use Rattle.std.specs.Prelude.{◌≡◌, refl, Bool, List, ℕ, ◌+◌, ◌-◌, ◌*◌, ◌/◌, ◌%◌, ◌≤◌, ◌<◌, length, get_or}
use Rattle.std.proofs.Common.{sym, ◌∙◌, ap, subst, add-zero, zero-mul, add-mul, suc-mul, mul_comm, mul_assoc, add-one}
use Rattle.std.proofs.Common.{mul-le-mul_right, lt_of_mul-lt-mul_right, div-mul-le_self, div-lt_iff_lt-mul, arith}
use Rattle.std.proofs.Math.Nat.{div-eq_of_lt-le, div-div-eq-div-mul, lt-div-mul-add}
use Rattle.theory.specs.Test.{Tested, holds, fails}
use Rattle.theory.specs.Test.Laws.{lt_tested}
use Rattle.placed.specs.Placing.{index_at, enlarged, Sound}
use Rattle.placed.specs.Placing.Laws.{enlarged_long, enlarged_cell, place_inside, quotient_along, wide_pos}
use Rattle.placed.specs.Blocks.{AlikeFrom, BlockAt, Shown, Follows}
use Rattle.placed.specs.declared.block.Block.{Block}

-- the place that is shown, by the position divided by the scale
index_by_scale : (k width p : ℕ) → 0 < k
    → index_at k width p ≡ p / k / width / k * width + (p / k - p / k / width * width)
index_by_scale k width p pos =
    rw (div-div-eq-div-mul p k width)
    (let along : p / k ≡ p / (k * width) * width + p % (k * width) / k = quotient_along k width p pos in omega arith)

index_alike : (k width p q : ℕ) → 0 < k → p / k ≡ q / k → index_at k width p ≡ index_at k width q
index_alike k width p q pos e =
    index_by_scale k width p pos
    ∙ ap (λ (x : ℕ). x / width / k * width + (x - x / width * width)) e
    ∙ sym (index_by_scale k width q pos)

-- n quotients further on in the row it is n cells further on
index_further : (k width p q n : ℕ) → 0 < k → q / k ≡ p / k + n → q / (k * width) ≡ p / (k * width)
    → index_at k width q ≡ index_at k width p + n
index_further k width p q n pos e row =
    let at = index_by_scale k width p pos in
    let bt = index_by_scale k width q pos in
    let same : q / k / width ≡ p / k / width =
    div-div-eq-div-mul q k width ∙ row ∙ sym (div-div-eq-div-mul p k width) in
    let along : p / k / width * width ≤ p / k = div-mul-le_self (p / k) width in
    rw (at, bt, same, e) (omega arith)

module _ (pattern : List ℕ) {k height width cells by_scale by_width by_block : ℕ}
    (s : Sound k height width cells by_scale by_width by_block) (sides : length pattern ≡ height * width) (p : ℕ)
    (h : p < cells) where
  pos : 0 < k
  pos = s.scaled

  -- the end of the block m quotients further on
  end_is : (m : ℕ) → (p / k + m + 1) * k ≡ (p / k + m) * k + k
  end_is m = ap (λ (x : ℕ). x * k) (add-one (p / k + m)) ∙ suc-mul (p / k + m) k

  same : (m q : ℕ) → (p / k + m) * k ≤ q → q < (p / k + m + 1) * k → q / k ≡ p / k + m
  same m q lo hi = div-eq_of_lt-le k lo hi

  -- all cells are blocks of k
  cells_blocks : cells ≡ height * (k * width) * k
  cells_blocks =
      s.cells_is
      ∙ ap (λ (x : ℕ). x * (k * width)) (mul_comm k height)
      ∙ mul_assoc height k (k * width)
      ∙ ap (λ (x : ℕ). height * x) (mul_comm k (k * width))
      ∙ sym (mul_assoc height (k * width) k)

  -- so a block that begins before the last cell ends there or before
  block_inside : (x : ℕ) → x * k < cells → (x + 1) * k ≤ cells
  block_inside x lt =
      let below : x * k < height * (k * width) * k = omega (arith, cells_blocks) in
      let le : x < height * (k * width) = lt_of_mul-lt-mul_right k below in
      let all : (x + 1) * k ≤ height * (k * width) * k = mul-le-mul_right k (omega arith) in
      omega (arith, cells_blocks)

  -- that block, from one of its positions on
  block_shown : (m q n : ℕ) → 0 < n → (p / k + m) * k ≤ q → q + n ≤ (p / k + m + 1) * k
      → (p / k + m + 1) * k ≤ cells → q / (k * width) ≡ p / (k * width)
      → Shown pattern (enlarged pattern k width cells) (index_at k width p + m) q n
  block_shown m q n some lo hi inside row =
      let at = index_further k width p q m pos (same m q lo (omega arith)) row in
      record {
        inside = omega (arith, place_inside s q (omega arith), sides);
        shows = ap (λ (x : ℕ). get_or pattern x 0) (sym at) ∙ enlarged_cell pattern k width cells q (omega arith);
        alike =
            record {
              some = some;
              inside = omega (arith, enlarged_long pattern k width cells);
              same = λ r lt.
                  sym (enlarged_cell pattern k width cells q (omega arith))
                  ∙ ap (λ (x : ℕ). get_or pattern x 0)
                  (index_alike k width q (q + r) pos
                  (same m q lo (omega arith) ∙ sym (same m (q + r) (omega arith) (omega arith))))
                  ∙ enlarged_cell pattern k width cells (q + r) (omega arith);
            };
      }

  -- the row's end is not behind the last cell
  row_inside : (p / (k * width) + 1) * (k * width) ≤ cells
  row_inside =
      let row : p / (k * width) < k * height
      = (div-lt_iff_lt-mul (wide_pos s)).1 (omega (arith, s.cells_is)) in
      omega (arith, mul-le-mul_right (k * width) row, s.cells_is)

  pub row_near : (p / (k * width) + 1) * (k * width) ≤ 65025
  row_near = omega (arith, row_inside, s.few)

  over : p < (p / k + 1) * k
  over =
      let next : (p / k + 1) * k ≡ p / k * k + k = ap (λ (x : ℕ). x * k) (add-one (p / k)) ∙ suc-mul (p / k) k in
      omega (arith, lt-div-mul-add {a = p} pos)

  pub end_over : p ≤ (p / k + 1) * k
  end_over = omega (arith, over)

  pub end_near : (p / k + 1) * k ≤ 65025
  end_near = omega (arith, block_inside (p / k) (omega (arith, div-mul-le_self p k)), s.few)

  module _ (place end : ℕ) (place_is : place ≡ index_at k width p) (block_end : end ≡ (p / k + 1) * k) where
    pub block_shown_at : Shown pattern (enlarged pattern k width cells) place p (end - p)
    block_shown_at =
        rw (place_is, block_end)
        (simp add-zero at
        (block_shown 0 p ((p / k + 1) * k - p) (omega (arith, over)) (simp add-zero (div-mul-le_self p k))
        (simp add-zero (omega (arith, over))) (simp add-zero (block_inside (p / k) (omega (arith, div-mul-le_self p k))))
        refl))

    pub block_follows : (stop : ℕ) → stop ≡ (p / (k * width) + 1) * (k * width)
        → Follows pattern (enlarged pattern k width cells) k place (p + (end - p)) stop
    block_follows stop stop_is n less =
        let at : p + (end - p) ≡ (p / k + 1) * k = omega (arith, over) in
        rw (place_is, at) (further (rw (← at, ← stop_is) less))
      where
        further : (p / k + 1) * k + n * k < (p / (k * width) + 1) * (k * width)
            → Shown pattern (enlarged pattern k width cells) (index_at k width p + 1 + n) ((p / k + 1) * k + n * k) k
        further lt =
            let q = (p / k + 1) * k + n * k in
            let next_is : index_at k width p + (1 + n) ≡ index_at k width p + 1 + n = omega arith in
            let sum_is : p / k + (1 + n) ≡ p / k + 1 + n = omega arith in
            let start_is : (p / k + (1 + n)) * k ≡ q = ap (λ (x : ℕ). x * k) sum_is ∙ add-mul (p / k + 1) n k in
            let end_of : (p / k + (1 + n) + 1) * k ≡ q + k
            = end_is (1 + n) ∙ ap (λ (x : ℕ). x + k) start_is in
            let low : p / (k * width) * (k * width) ≤ p = div-mul-le_self p (k * width) in
            subst (λ (x : ℕ). Shown pattern (enlarged pattern k width cells) x q k) next_is
            (block_shown (1 + n) q k pos (omega arith) (omega arith)
            (block_inside (p / k + (1 + n)) (omega (arith, row_inside)))
            (div-eq_of_lt-le (k * width) (omega (arith, over)) lt))

-- what shows a cell is a block, with that cell's symbol
pub block_shows : (pattern l : List ℕ) (p : ℕ) (b : Block) → Shown pattern l b.place p b.cells
    → b.symbol ≡ get_or pattern b.place 0 → BlockAt l p b
block_shows pattern l p b shown symbol = record { shows = symbol ∙ shown.shows; alike = shown.alike }

module _ (pattern l : List ℕ) (k place p stop : ℕ) (follows : Follows pattern l k place p stop) where
  -- the block behind one, in its row
  pub next_shown : p < stop → Shown pattern l (place + 1) p k
  next_shown lt = simp (add-zero, zero-mul) at (follows 0 (simp (add-zero, zero-mul) lt))

  pub next_follows : Follows pattern l k (place + 1) (p + k) stop
  next_follows n h =
      let more : (n + 1) * k ≡ n * k + k = ap (λ (x : ℕ). x * k) (add-one n) ∙ suc-mul n k in
      let at : p + k + n * k ≡ p + (n + 1) * k = omega arith in
      let behind : place + 1 + 1 + n ≡ place + 1 + (n + 1) = omega arith in
      rw (at, behind) (follows (n + 1) (omega arith))

-- a run of alike cells: one block, and one block more where it has the same symbol
pub alike_more : (l : List ℕ) (p n m : ℕ) → AlikeFrom l p n → AlikeFrom l (p + n) m
    → get_or l p 0 ≡ get_or l (p + n) 0 → AlikeFrom l p (n + m)
alike_more l p n m a b e =
    record {
      some = omega (arith, a.some);
      inside = omega (arith, b.inside);
      same = λ q lt. go q lt (lt_tested q n);
    }
  where
    go : (q : ℕ) {t : Bool} → q < n + m → Tested (q < n) t → get_or l p 0 ≡ get_or l (p + q) 0
    go q lt (holds h) = a.same q h
    go q lt (fails h) =
        let at : p + n + (q - n) ≡ p + q = omega arith in
        e ∙ b.same (q - n) (omega arith) ∙ ap (λ (x : ℕ). get_or l x 0) at

-- and as far as it goes it goes shorter
pub alike_shorter : (l : List ℕ) (p n r : ℕ) → 0 < r → r ≤ n → AlikeFrom l p n → AlikeFrom l p r
alike_shorter l p n r some le a =
    record { some = some; inside = omega (arith, a.inside); same = λ q lt. a.same q (omega arith) }
