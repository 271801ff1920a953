-- Where a cell of the pattern is shown first: `laid_at`, the corner of its scale by scale cells. It shows the cell
-- (`laid_shows`), lies in the enlargement (`laid_inside`), and no position before it shows that cell or a later one
-- (`laid_first`): rows come before columns in both.
-- Assumes nothing.
use Rattle.std.specs.Prelude.{◌≡◌, Bool, ℕ, ◌+◌, ◌*◌, ◌/◌, ◌%◌, ◌≤◌, ◌<◌}
use Rattle.std.proofs.Common.{sym, ◌∙◌, ap, mul_comm, mul_assoc, add-mul, suc-mul, mul-le-mul_left, mul-le-mul_right}
use Rattle.std.proofs.Common.{div-mul-le_self, div-add-mod', mod-lt, div-lt_iff_lt-mul, mod-eq_of_lt, mul-div_cancel}
use Rattle.std.proofs.Common.{add-zero, add-one, arith}
use Rattle.std.proofs.Math.Nat.{mul-add-mod_self_right, div-eq_of_lt, mul-add-div_right}
use Rattle.theory.specs.Test.{Tested, holds, fails}
use Rattle.theory.specs.Test.Laws.{lt_tested}
use Rattle.placed.specs.Placing.{index_at, laid_at}

module _ (k width : ℕ) (pos : 1 ≤ k) (broad : 1 ≤ width) where
  next : (x y : ℕ) → (x + 1) * y ≡ x * y + y
  next x y = ap (λ (z : ℕ). z * y) (add-one x) ∙ suc-mul x y

  wide_pos : 0 < k * width
  wide_pos = omega (arith, mul-le-mul_left k broad)

  module _ (p : ℕ) where
    column_lt : p % width < width
    column_lt = mod-lt p broad

    -- the corner's column lies in a row of the enlargement
    along_lt : p % width * k < k * width
    along_lt =
        let below : (p % width + 1) * k ≤ width * k = mul-le-mul_right k (omega (arith, column_lt)) in
        omega (arith, next (p % width) k, mul_comm width k)

    laid_split : laid_at k width p ≡ p / width * k * (k * width) + p % width * k
    laid_split =
        add-mul (p / width * (k * width)) (p % width) k
        ∙ ap (λ (x : ℕ). x + p % width * k)
        (mul_assoc (p / width) (k * width) k ∙ ap (λ (x : ℕ). p / width * x) (mul_comm (k * width) k)
        ∙ sym (mul_assoc (p / width) k (k * width)))

    laid_row : laid_at k width p / (k * width) ≡ p / width * k
    laid_row =
        ap (λ (x : ℕ). x / (k * width)) laid_split
        ∙ mul-add-div_right wide_pos (p / width * k) (p % width * k)
        ∙ rw (div-eq_of_lt along_lt) (add-zero _)

    laid_column : laid_at k width p % (k * width) ≡ p % width * k
    laid_column =
        ap (λ (x : ℕ). x % (k * width)) laid_split
        ∙ mul-add-mod_self_right (p / width * k) (k * width) (p % width * k)
        ∙ mod-eq_of_lt along_lt

    pub laid_shows : index_at k width (laid_at k width p) ≡ p
    laid_shows =
        rw (laid_row, laid_column, mul-div_cancel (p / width) pos, mul-div_cancel (p % width) pos)
        (div-add-mod' p width)

    pub laid_inside : (height : ℕ) → p < height * width → laid_at k width p < k * height * (k * width)
    laid_inside height h =
        let row : p / width < height = (div-lt_iff_lt-mul broad).1 h in
        let rows : (p / width + 1) * k ≤ height * k = mul-le-mul_right k (omega arith) in
        let all : (p / width + 1) * k * (k * width) ≤ height * k * (k * width) = mul-le-mul_right (k * width) rows in
        let more : (p / width + 1) * k * (k * width) ≡ (p / width * k + k) * (k * width)
        = ap (λ (x : ℕ). x * (k * width)) (next (p / width) k) in
        let last : p / width * k * (k * width) + k * width ≤ (p / width * k + k) * (k * width)
        = omega (arith, add-mul (p / width * k) k (k * width), mul-le-mul_right (k * width) pos) in
        let turned : height * k * (k * width) ≡ k * height * (k * width)
        = ap (λ (x : ℕ). x * (k * width)) (mul_comm height k) in
        omega (arith, laid_split, along_lt)

    pub laid_first : (q : ℕ) → p ≤ index_at k width q → laid_at k width p ≤ q
    laid_first q h = go (lt_tested (p / width) (q / (k * width) / k))
      where
        whole : q / (k * width) * (k * width) + q % (k * width) ≡ q
        whole = div-add-mod' q (k * width)

        own : p / width * width + p % width ≡ p
        own = div-add-mod' p width

        up : q / (k * width) / k * k ≤ q / (k * width)
        up = div-mul-le_self (q / (k * width)) k

        along : q % (k * width) / k * k ≤ q % (k * width)
        along = div-mul-le_self (q % (k * width)) k

        column : q % (k * width) / k < width
        column = (div-lt_iff_lt-mul pos).1 (omega (arith, mod-lt q wide_pos, mul_comm k width))

        up_wide : q / (k * width) / k * k * (k * width) ≤ q / (k * width) * (k * width)
        up_wide = mul-le-mul_right (k * width) up

        go : {t : Bool} → Tested (p / width < q / (k * width) / k) t → laid_at k width p ≤ q
        go (holds less) =
            let rows : (p / width + 1) * k ≤ q / (k * width) / k * k = mul-le-mul_right k (omega arith) in
            let cells : (p / width + 1) * k * (k * width) ≤ q / (k * width) / k * k * (k * width)
            = mul-le-mul_right (k * width) rows in
            let more : (p / width + 1) * k * (k * width) ≡ (p / width * k + k) * (k * width)
            = ap (λ (x : ℕ). x * (k * width)) (next (p / width) k) in
            omega (
              arith,
              laid_split,
              along_lt,
              add-mul (p / width * k) k (k * width),
              mul-le-mul_right (k * width) pos,
              up_wide,
              whole,
            )
        go (fails more) =
            let same : p / width ≡ q / (k * width) / k = omega (arith, not_more) in
            let columns : p % width ≤ q % (k * width) / k
            = omega (arith, own, h, ap (λ (x : ℕ). x * width) same) in
            let cells : p % width * k ≤ q % (k * width) / k * k = mul-le-mul_right k columns in
            omega (
              arith,
              laid_split,
              ap (λ (x : ℕ). x * k * (k * width)) same,
              cells,
              up_wide,
              along,
              whole,
            )
          where
            over : q / (k * width) / k + 1 ≤ p / width → ⊥
            over x =
                omega (
                  arith,
                  mul-le-mul_right width x,
                  next (q / (k * width) / k) width,
                  own,
                  h,
                  column,
                )

            not_more : p / width ≤ q / (k * width) / k
            not_more = let o : q / (k * width) / k + 1 ≤ p / width → ⊥ = over in omega arith
