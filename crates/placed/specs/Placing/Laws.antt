-- Laws of an enlargement: that a quotient is a product's upper half, that the code's place of a position is the right
-- one and lies in the pattern, and that bytes stay bytes. A quotient as a product is Granlund and Montgomery's
-- theorem (1994): the product exceeds a multiple by too little to reach the next.
-- Assumes nothing.
use Rattle.std.specs.Prelude.{◌≡◌, Bool, List, ℕ, suc, ◌+◌, ◌-◌, ◌*◌, ◌/◌, ◌%◌, ◌≤◌, ◌<◌, length, get_or}
use Rattle.std.proofs.Common.{sym, ◌∙◌, ap, subst, le_refl, le_trans, le_of_eq, lt_of_lt_of_le, lt_of_le_of_lt}
use Rattle.std.proofs.Common.{lt-suc_self}
use Rattle.std.proofs.Common.{add-lt-add_of_le_of_lt, mul_right_comm, mul_assoc, mul_comm, mul-add, add-mul, suc-mul}
use Rattle.std.proofs.Common.{mul-le-mul, mul-le-mul_left, mul-le-mul_right, lt_of_mul-lt-mul_right, div-mul-le_self}
use Rattle.std.proofs.Common.{div-lt_iff_lt-mul, div-add-mod', mod-lt, div-le_self, add-one, arith}
use Rattle.std.proofs.Math.Nat.{div-eq_of_lt-le, div-div-eq-div-mul, mul-add-div_right, lt-div-mul-add}
use Rattle.std.proofs.Math.ListN.{get_or-eq_default}
use Rattle.theory.specs.Test.{Tested, holds, fails}
use Rattle.theory.specs.Test.Laws.{lt_tested}
use Rattle.theory.specs.Table.Laws.{length-table, get_or-table}
use Rattle.placed.specs.Placing.{index_at, inverse, enlarged, Sound}

-- ---- a quotient as a product

quotient_le : (d m P n : ℕ) → P ≤ m * d → n / d * P ≤ n * m
quotient_le d m P n lo =
    le_trans (mul-le-mul_left (n / d) lo)
    (le_trans (le_of_eq (sym (mul_assoc (n / d) m d) ∙ mul_right_comm (n / d) m d))
    (mul-le-mul_right m (div-mul-le_self n d)))

-- with both sides times d: n * m * d ≤ n * P + n * e < n * P + P ≤ suc (n / d) * P * d
quotient_lt : (d m P e n : ℕ) → 0 < d → m * d ≤ P + e → n * e < P → n * m < suc (n / d) * P
quotient_lt d m P e n hd hi small =
    lt_of_mul-lt-mul_right d
    (lt_of_lt_of_le (lt_of_le_of_lt product_le (add-lt-add_of_le_of_lt (le_refl (n * P)) small)) next_le)
  where
    product_le : n * m * d ≤ n * P + n * e
    product_le = le_trans (le_of_eq (mul_assoc n m d)) (le_trans (mul-le-mul_left n hi) (le_of_eq (mul-add n P e)))

    next_le : n * P + P ≤ suc (n / d) * P * d
    next_le =
        le_trans (le_of_eq (sym (suc-mul n P)))
        (le_trans (mul-le-mul_right P ((div-lt_iff_lt-mul hd).0 (lt-suc_self (n / d))))
        (le_of_eq (mul_right_comm (suc (n / d)) d P)))

inverse_times : (d : ℕ) → inverse d * d ≡ 4294967296 / d * d + d
inverse_times d = ap (λ (x : ℕ). x * d) (add-one (4294967296 / d)) ∙ suc-mul (4294967296 / d) d

pub quotient_is : (d p : ℕ) → 0 < d → d ≤ 65025 → p ≤ 65025 → p * inverse d / 4294967296 ≡ p / d
quotient_is d p pos small few =
    let over : 4294967296 < 4294967296 / d * d + d = lt-div-mul-add pos in
    div-eq_of_lt-le 4294967296
    (quotient_le d (inverse d) 4294967296 p (omega (arith, inverse_times d)))
    (subst (λ (x : ℕ). p * inverse d < x * 4294967296) (sym (add-one (p / d)))
    (quotient_lt d (inverse d) 4294967296 d p pos
    (omega (arith, inverse_times d, div-mul-le_self 4294967296 d))
    (omega (arith, mul-le-mul few small))))

-- a quotient of that kind is small
pub quotient_small : (p by : ℕ) → p ≤ 65025 → by ≤ 4294967297 → p * by / 4294967296 ≤ 65026
quotient_small p by few le =
    let small : p * by ≤ 65025 * 4294967297 = mul-le-mul few le in
    let positive : 0 < 4294967296 = omega arith in
    let under : p * by / 4294967296 < 65027 = (div-lt_iff_lt-mul positive).1 (omega arith) in
    omega arith

-- an inverse is small
pub inverse_le : (d : ℕ) → inverse d ≤ 4294967297
inverse_le d = omega (arith, div-le_self 4294967296 d)

-- ---- the place of a position

-- a position divided by the scale, by its row and column
pub quotient_along : (k width p : ℕ) → 0 < k → p / k ≡ p / (k * width) * width + p % (k * width) / k
quotient_along k width p pos =
    ap (λ (x : ℕ). x / k) split ∙ mul-add-div_right pos (p / (k * width) * width) (p % (k * width))
  where
    split : p ≡ p / (k * width) * width * k + p % (k * width)
    split =
        sym (div-add-mod' p (k * width))
        ∙ ap (λ (x : ℕ). x + p % (k * width))
        (ap (λ (x : ℕ). p / (k * width) * x) (mul_comm k width) ∙ sym (mul_assoc (p / (k * width)) width k))

module _ {k height width cells by_scale by_width by_block : ℕ}
    (s : Sound k height width cells by_scale by_width by_block) where
  -- the enlargement's width, and the cells of as many rows as show one of the pattern's
  wide : ℕ
  wide = k * width

  pub wide_pos : 0 < k * width
  wide_pos = mul-le-mul s.scaled s.broad

  block_pos : 0 < k * width * k
  block_pos = mul-le-mul wide_pos s.scaled

  -- height times the cells of a block are all cells
  cells_blocks : cells ≡ height * (k * width * k)
  cells_blocks = s.cells_is ∙ blocks k height (k * width)
    where
      blocks : (a h w : ℕ) → a * h * w ≡ h * (w * a)
      blocks a h w = ap (λ (x : ℕ). x * w) (mul_comm a h) ∙ mul_assoc h a w ∙ ap (λ (x : ℕ). h * x) (mul_comm a w)

  block_le : k * width * k ≤ 65025
  block_le =
      omega (
        arith,
        s.few,
        cells_blocks,
        mul-le-mul_right (k * width * k) s.tall,
      )

  pub wide_le : k * width ≤ 65025
  wide_le = omega (arith, block_le, mul-le-mul_left (k * width) s.scaled)

  pub scale_le : k ≤ 65025
  scale_le = omega (arith, wide_le, mul-le-mul_left k s.broad)

  module _ (p : ℕ) (h : p < cells) where
    few : p ≤ 65025
    few = omega (arith, s.few)

    pub row_is : p * by_width / 4294967296 ≡ p / (k * width)
    row_is = rw s.width_inverse (quotient_is (k * width) p wide_pos wide_le few)

    pub shown_is : p * by_block / 4294967296 ≡ p / (k * width) / k
    shown_is =
        rw s.block_inverse (quotient_is (k * width * k) p block_pos block_le few)
        ∙ sym (div-div-eq-div-mul p (k * width) k)

    pub block_is : p * by_scale / 4294967296 ≡ p / k
    block_is = rw s.scale_inverse (quotient_is k p s.scaled scale_le few)

    pub along_is : p * by_scale / 4294967296
        ≡ p / (k * width) * width + p % (k * width) / k
    along_is = block_is ∙ quotient_along k width p s.scaled

    -- the row that is shown is not below the row of the enlargement
    pub shown_le : p * by_block / 4294967296 ≤ p * by_width / 4294967296
    shown_le = rw (shown_is, row_is) (div-le_self (p / (k * width)) k)

    -- what the code finds is the place of the cell that is shown
    pub place_is : p * by_scale / 4294967296
        - width * (p * by_width / 4294967296 - p * by_block / 4294967296)
        ≡ index_at k width p
    place_is =
        rw (along_is, row_is, shown_is)
        (less (p / (k * width)) (p / (k * width) / k) width
        (p % (k * width) / k) (div-le_self _ k))
      where
        less : (i u c y : ℕ) → u ≤ i → i * c + y - c * (i - u) ≡ u * c + y
        less i u c y le =
            let split : i * c ≡ (i - u) * c + u * c = ap (λ (x : ℕ). x * c) (back i u le) ∙ add-mul (i - u) u c in
            let turned : c * (i - u) ≡ (i - u) * c = mul_comm c (i - u) in
            omega arith
          where
            back : (i u : ℕ) → u ≤ i → i ≡ i - u + u
            back i u le = omega arith

    -- and it does not go below 0
    pub place_sub : width * (p * by_width / 4294967296 - p * by_block / 4294967296)
        ≤ p * by_scale / 4294967296
    place_sub =
        rw (along_is, row_is, shown_is)
        (under (p / (k * width)) (p / (k * width) / k) width
        (p % (k * width) / k))
      where
        under : (i u c y : ℕ) → c * (i - u) ≤ i * c + y
        under i u c y =
            let m : c * (i - u) ≤ c * i = mul-le-mul_left c (omega arith) in
            let turned : c * i ≡ i * c = mul_comm c i in
            omega arith

    -- a cell of the pattern
    pub place_inside : index_at k width p < height * width
    place_inside =
        let row_lt : p / (k * width) / k < height = rows in
        let column_lt : p % (k * width) / k < width = columns in
        let next : (p / (k * width) / k + 1) * width
        ≡ p / (k * width) / k * width + width
        = ap (λ (x : ℕ). x * width) (add-one (p / (k * width) / k))
        ∙ suc-mul (p / (k * width) / k) width in
        let below : (p / (k * width) / k + 1) * width ≤ height * width
        = mul-le-mul_right width (omega arith) in
        omega arith
      where
        rows : p / (k * width) / k < height
        rows =
            rw (div-div-eq-div-mul p (k * width) k)
            ((div-lt_iff_lt-mul block_pos).1 (omega (arith, cells_blocks)))

        columns : p % (k * width) / k < width
        columns =
            (div-lt_iff_lt-mul s.scaled).1
            (omega (arith, mod-lt p wide_pos, mul_comm k width))

-- ---- the list

-- its length and its cells
module _ (pattern : List ℕ) (k width cells : ℕ) where
  pub enlarged_long : length (enlarged pattern k width cells) ≡ cells
  enlarged_long = length-table _ _

  pub enlarged_cell : (p : ℕ) → p < cells
      → get_or pattern (index_at k width p) 0 ≡ get_or (enlarged pattern k width cells) p 0
  enlarged_cell p h = sym (get_or-table _ cells p 0 h)

  -- the cells of bytes are bytes
  pub enlarged_bytes : ((i : ℕ) → get_or pattern i 0 < 256) → (p : ℕ)
      → get_or (enlarged pattern k width cells) p 0 < 256
  enlarged_bytes bytes p = go (lt_tested p cells)
    where
      go : {t : Bool} → Tested (p < cells) t → get_or (enlarged pattern k width cells) p 0 < 256
      go (holds h) = rw (← enlarged_cell p h) (bytes _)
      go (fails n) =
          let out : length (enlarged pattern k width cells) ≤ p = omega (arith, enlarged_long) in
          rw (get_or-eq_default (enlarged pattern k width cells) 0 out) (omega arith)
