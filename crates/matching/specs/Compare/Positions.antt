-- The positions of a window: the next one in the same row and in the row below, without a division.
-- Assumes nothing.
use Rattle.std.specs.Prelude.{◌≡◌, ℕ, ◌+◌, ◌*◌, ◌/◌, ◌%◌, ◌≤◌, ◌<◌}
use Rattle.std.proofs.Common.{◌∙◌, ap, add-zero, suc-mul, mod-lt, div-add-mod', mod-eq_of_lt, arith}
use Rattle.std.proofs.Math.Nat.{mul-add-div_right, mul-add-mod_self_right, div-eq_of_lt}

-- q rows of w and r cells more are position q w + r
place_div : (w q r : ℕ) → r < w → (q * w + r) / w ≡ q
place_div w q r h = rw (mul-add-div_right {m = w} (omega arith) q r, div-eq_of_lt h, add-zero)

place_mod : (w q r : ℕ) → r < w → (q * w + r) % w ≡ r
place_mod w q r h = rw (mul-add-mod_self_right q w r, mod-eq_of_lt h)

-- the next position in the same row, and in the row below
pub next_div : (w p : ℕ) → p % w + 1 < w → (p + 1) / w ≡ p / w
next_div w p h =
    let e : p + 1 ≡ (p / w) * w + (p % w + 1) = omega (arith, div-add-mod' p w) in
    ap (λ (x : ℕ). x / w) e ∙ place_div w (p / w) (p % w + 1) h

pub next_mod : (w p : ℕ) → p % w + 1 < w → (p + 1) % w ≡ p % w + 1
next_mod w p h =
    let e : p + 1 ≡ (p / w) * w + (p % w + 1) = omega (arith, div-add-mod' p w) in
    ap (λ (x : ℕ). x % w) e ∙ place_mod w (p / w) (p % w + 1) h

pub below_div : (w p : ℕ) → 0 < w → w ≤ p % w + 1 → (p + 1) / w ≡ p / w + 1
below_div w p pos h =
    let e : p + 1 ≡ (p / w + 1) * w + 0 = omega (arith, div-add-mod' p w, mod-lt p pos, suc-mul (p / w) w, row_more) in
    ap (λ (x : ℕ). x / w) e ∙ place_div w (p / w + 1) 0 pos
  where
    row_more : (p / w + 1) * w ≡ (p / w) * w + w
    row_more = ap (λ (x : ℕ). x * w) (omega arith) ∙ suc-mul (p / w) w

pub below_mod : (w p : ℕ) → 0 < w → w ≤ p % w + 1 → (p + 1) % w ≡ 0
below_mod w p pos h =
    let e : p + 1 ≡ (p / w + 1) * w + 0 = omega (arith, div-add-mod' p w, mod-lt p pos, suc-mul (p / w) w, row_more) in
    ap (λ (x : ℕ). x % w) e ∙ place_mod w (p / w + 1) 0 pos
  where
    row_more : (p / w + 1) * w ≡ (p / w) * w + w
    row_more = ap (λ (x : ℕ). x * w) (omega arith) ∙ suc-mul (p / w) w
