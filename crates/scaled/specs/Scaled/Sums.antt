-- Sums over k: by the last k, rising, and small. A posed question has at most 65,025 windows, and there are at most 255
-- scales, so that all sums fit in 64 bits: each step of a sum is bounded by the whole (`sum_rises`), and the whole by
-- 255 times one scale's bound (`found_sum_small`, `refused_sum_small`, `length-sum_small` of a pattern of bytes, and
-- `length-sum_bounded` of any).
-- Assumes nothing.
use Rattle.std.specs.Prelude.{◌≡◌}
use Rattle.std.proofs.Math.Path.{refl}
use Prim.Native.Nat.{ℕ, zero, suc, ◌+◌, ◌-◌, ◌*◌, ◌≤◌}
use Rattle.std.proofs.Math.Nat.{mul-le-mul_left, suc-mul}
use Rattle.std.proofs.Common.{mul-le-mul_right, add-one}
use Rattle.std.proofs.Math.Decide.{dec_le}
use native.Mathlib.Omega.{arith}
use Rattle.theory.specs.Bytes.{Bytes}
use Rattle.theory.specs.Count.Laws.{count_le}
use Rattle.shapes.specs.Shapes.Laws.{product_le}
use Rattle.shapes.specs.Questions.{Question, Posed, windows_of}
use Rattle.occurrences.specs.Distinct.{contains, distinct}
use Rattle.occurrences.specs.Distinct.Laws.{distinct_le}
use Rattle.occurrences.specs.Distinct.Sets.{distinct_count}
use Rattle.entries.specs.Listing.{found_in, refused_in, needed_length}
use Rattle.entries.specs.Listing.Totals.{found_refused}
use Rattle.scaled.specs.Scaled.{scaled, largest_of, sum_to, found_to, refused_to, length_to}
use Rattle.scaled.specs.Scaled.Fit.{PosedAt, posed_between, scaled_posed, largest_small}
use Rattle.scaled.specs.Scaled.Cells.{enlarged_bytes}

-- ---- any sum

module _ (f : ℕ → ℕ) where
  pub sum_none : sum_to f 0 ≡ 0
  unfolding sum_to
  sum_none = refl

  pub sum_next : (n : ℕ) → sum_to f (n + 1) ≡ sum_to f n + f (n + 1)
  unfolding sum_to
  sum_next n = rw (add-one n)

  -- a shorter sum is no greater
  pub sum_rises : (n m : ℕ) → n ≤ m → sum_to f n ≤ sum_to f m
  unfolding sum_to
  sum_rises n zero h = rw (none n h) (omega arith)
    where
      none : (n : ℕ) → n ≤ 0 → n ≡ 0
      none n h = omega arith
  sum_rises n (suc m) h = go (sum_rises n m) (dec_le n m)
    where
      last : (n m : ℕ) → n ≤ suc m → (n ≤ m → ⊥) → n ≡ suc m
      last n m h l = omega arith

      go : (n ≤ m → sum_to f n ≤ sum_to f m) → Dec (n ≤ m) → sum_to f n ≤ sum_to f m + f (suc m)
      go ih (yes l) = omega (arith, ih l)
      go ih (no l) = rw (last n m h l) (omega arith)

  -- nor is a shorter sum with the part after it: a piece behind those before it lies inside the whole
  pub sum_part : (n m : ℕ) → n + 1 ≤ m → sum_to f n + f (n + 1) ≤ sum_to f m
  sum_part n m h = omega (arith, sum_next n, sum_rises (n + 1) m h)

  -- bounded parts give a bounded sum
  pub sum_le : (b n : ℕ) → ((k : ℕ) → 1 ≤ k → k ≤ n → f k ≤ b) → sum_to f n ≤ n * b
  unfolding sum_to
  sum_le b zero h = omega arith
  sum_le b (suc n) h =
      let ih = sum_le b n (λ k low high. h k low (omega arith)) in
      omega (arith, ih, h (suc n) (omega arith) (omega arith), suc-mul n b)

-- ---- one scale

module _ (q : Question) (p : Posed q) where
  pub windows_few : windows_of q ≤ 65025
  windows_few =
      let s = p.shape.sized.sides in
      omega (
        arith,
        product_le (q.text.rows + 1 - q.pattern.rows) (q.text.columns + 1 - q.pattern.columns) 255 255
            (omega (arith, s.rows_good.small, s.height_good.positive))
            (omega (arith, s.columns_good.small, s.width_good.positive)),
      )

  pub found_few : found_in q ≤ 65025
  found_few = omega (arith, windows_few, found_refused q)

  pub refused_few : refused_in q ≤ 65025
  refused_few = omega (arith, windows_few, found_refused q)

  length_by : (d : ℕ) → 7 ≤ 3 + 3 * d → distinct q.pattern.cells ≤ d → needed_length q ≤ 65025 * (3 + 3 * d) + 5
  unfolding needed_length
  length_by d seven h =
      let each : 3 + 3 * distinct q.pattern.cells ≤ 3 + 3 * d = omega (arith, h) in
      let a = mul-le-mul_left (found_in q) each in
      let b = mul-le-mul_left (refused_in q) seven in
      let c : found_in q + refused_in q ≤ 65025 = omega (arith, windows_few, found_refused q) in
      omega (arith, a, b, mul-le-mul_left (3 + 3 * d) c)

  -- a pattern of bytes has at most 256 symbols
  pub length_few : Bytes q.pattern.cells → needed_length q ≤ 65025 * 771 + 5
  length_few bytes =
      length_by 256 (omega arith)
      (omega (
        arith,
        distinct_count q.pattern.cells 256 (λ i _. bytes i),
        count_le (contains q.pattern.cells) 256,
      ))

  -- whatever the symbols are, there are no more than cells
  pub length_bounded : needed_length q ≤ 65025 * 195078 + 5
  length_bounded =
      let s = p.shape.sized.sides in
      length_by 65025 (omega arith)
      (omega (
        arith,
        distinct_le q.pattern.cells,
        p.size,
        product_le q.pattern.rows q.pattern.columns 255 255 s.height_good.small s.width_good.small,
      ))

-- ---- all scales

module _ (q : Question) (p : PosedAt 1 q) where
  abbrev posed_at : (k : ℕ) → 1 ≤ k → k ≤ largest_of q → Posed (scaled k q)
  posed_at k low high = scaled_posed k q (posed_between q k p low high)

  whole : (b : ℕ) → largest_of q * b ≤ 255 * b
  whole b = mul-le-mul_right b (largest_small q p)

  pub found_sum_small : found_to q (largest_of q) ≤ 255 * 65025
  found_sum_small =
      omega (
        arith,
        sum_le (λ k. found_in (scaled k q)) 65025 (largest_of q)
            (λ k low high. found_few (scaled k q) (posed_at k low high)),
        whole 65025,
      )

  pub refused_sum_small : refused_to q (largest_of q) ≤ 255 * 65025
  refused_sum_small =
      omega (
        arith,
        sum_le (λ k. refused_in (scaled k q)) 65025 (largest_of q)
            (λ k low high. refused_few (scaled k q) (posed_at k low high)),
        whole 65025,
      )

  pub length-sum_bounded : length_to q (largest_of q) ≤ 255 * (65025 * 195078 + 5)
  length-sum_bounded =
      omega (
        arith,
        sum_le (λ k. needed_length (scaled k q)) (65025 * 195078 + 5) (largest_of q)
            (λ k low high. length_bounded (scaled k q) (posed_at k low high)),
        whole (65025 * 195078 + 5),
      )

  pub length-sum_small : Bytes q.pattern.cells → length_to q (largest_of q) ≤ 255 * (65025 * 771 + 5)
  length-sum_small bytes =
      omega (
        arith,
        sum_le (λ k. needed_length (scaled k q)) (65025 * 771 + 5) (largest_of q)
            (λ k low high. length_few (scaled k q) (posed_at k low high) (enlarged_bytes k q.pattern bytes)),
        whole (65025 * 771 + 5),
      )
