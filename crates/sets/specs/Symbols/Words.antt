-- The bits of a word: a word below 2 ^ n is its n bits, and what clearing one bit, the count of its ones and
-- the count of its trailing zeros do to them or say of them. Each law goes by one bit at a time: the lowest bit is w %
-- 2, and the others are the bits of w / 2.
-- Assumes nothing.
use Rattle.std.specs.Prelude.{◌≡◌, refl, Bool, true, false, ℕ, zero, suc, ◌+◌, ◌-◌, ◌*◌, ◌/◌, ◌%◌, ◌^◌, ◌≤◌, ◌<◌, eqb}
use Rattle.std.proofs.Common.{sym, ap, ap₂, ◌∙◌, subst, le_of_suc-le-suc, div-one, one-mul, pow-suc, add-one, one-add, arith, shr-shr, shr_lt, shl_exact}
use Rattle.std.proofs.Math.Dec.{eqb-zero-suc, eqb-suc-zero, eqb-suc-suc}
use Rattle.std.specs.Int.Count.{ones, ones_step, under, count_trailing_zeros}
use borrow.Author.Tests.{eq-eqb, ne_eqb, eqb-true, eqb-false}
use Rattle.theory.specs.Test.{pick, Tested, holds, fails}
use Rattle.theory.specs.Test.Laws.{pick_false, eq_tested}
use Rattle.theory.specs.First.{first}
use Rattle.theory.specs.First.Laws.{first_ext}
use Rattle.theory.specs.Count.{count}
use Rattle.theory.specs.Count.Laws.{count_ext, count_front}
use Rattle.sets.specs.Symbols.{bit_of, word_of}

double : (k : ℕ) → 2 ^ suc k ≡ 2 * 2 ^ k
double k = pow-suc 2 k ∙ omega arith

-- the lowest bit, and the others
bit_low : (w : ℕ) → bit_of w 0 ≡ eqb (w % 2) 1
unfolding bit_of
bit_low w = ap (λ (u : ℕ). eqb (u % 2) 1) (div-one w)

pub bit_next : (w k : ℕ) → bit_of w (suc k) ≡ bit_of (w / 2) k
unfolding bit_of
bit_next w k = ap (λ (u : ℕ). eqb (u % 2) 1) (sym (shr-shr w 1 k ∙ ap (λ (u : ℕ). w / 2 ^ u) (one-add k)))

eqb_one : (b : Bool) → eqb (pick b 1 0) 1 ≡ b
eqb_one true = refl
eqb_one false = refl

-- the lowest bit of w is b where w % 2 says so
low_bit : (w : ℕ) (b : Bool) → w % 2 ≡ pick b 1 0 → bit_of w 0 ≡ b
low_bit w b e = bit_low w ∙ ap (λ (u : ℕ). eqb u 1) e ∙ eqb_one b

low_digit : (w : ℕ) → w % 2 ≡ pick (bit_of w 0) 1 0
low_digit w = go (eqb (w % 2) 1) refl ∙ ap (λ (b : Bool). pick b 1 0) (sym (bit_low w))
  where
    go : (b : Bool) → eqb (w % 2) 1 ≡ b → w % 2 ≡ pick b 1 0
    go true e = eqb-true (w % 2) 1 e
    go false e = let n : w % 2 ≡ 1 → ⊥ = eqb-false (w % 2) 1 e in omega arith

-- a word made of a lowest bit and the others
made_half : (b : Bool) (v : ℕ) → (pick b 1 0 + 2 * v) / 2 ≡ v
made_half true v = omega arith
made_half false v = omega arith

made_low : (b : Bool) (v : ℕ) → (pick b 1 0 + 2 * v) % 2 ≡ pick b 1 0
made_low true v = omega arith
made_low false v = omega arith

made_self : (w : ℕ) → w ≡ w % 2 + 2 * (w / 2)
made_self w = omega arith

half_below : (w n : ℕ) → w < 2 ^ suc n → w / 2 < 2 ^ n
half_below w n h = shr_lt n 1 (subst (λ (u : ℕ). w < 2 ^ u) (sym (add-one n)) h)

-- bit k of the word of P is P k
pub bit_word : (P : ℕ → Bool) (n k : ℕ) → k < n → bit_of (word_of P n) k ≡ P k
unfolding word_of
bit_word P zero k h = absurd (omega arith)
bit_word P (suc n) zero h = low_bit _ (P zero) (made_low (P zero) (word_of (λ j. P (suc j)) n))
bit_word P (suc n) (suc k) h =
    bit_next (pick (P zero) 1 0 + 2 * word_of (λ j. P (suc j)) n) k
    ∙ ap (λ (u : ℕ). bit_of u k) (made_half (P zero) (word_of (λ j. P (suc j)) n))
    ∙ bit_word (λ j. P (suc j)) n k (le_of_suc-le-suc h)

-- a word below 2 ^ n is the word of its bits
pub word_is : (P : ℕ → Bool) (n w : ℕ) → w < 2 ^ n → ((k : ℕ) → k < n → bit_of w k ≡ P k) → w ≡ word_of P n
unfolding word_of
word_is P zero w l h = omega arith
word_is P (suc n) w l h =
    made_self w
    ∙ ap₂ (λ (a b : ℕ). a + 2 * b)
    (low_digit w ∙ ap (λ (b : Bool). pick b 1 0) (h zero (omega arith)))
    (word_is (λ k. P (suc k)) n (w / 2) (half_below w n l) (λ k b. sym (bit_next w k) ∙ h (suc k) (omega arith)))

pub word_ext : (P Q : ℕ → Bool) (n : ℕ) → ((k : ℕ) → k < n → P k ≡ Q k) → word_of P n ≡ word_of Q n
unfolding word_of
word_ext P Q zero h = refl
word_ext P Q (suc n) h =
    ap₂ (λ (b : Bool) (v : ℕ). pick b 1 0 + 2 * v) (h zero (omega arith))
    (word_ext (λ k. P (suc k)) (λ k. Q (suc k)) n (λ k l. h (suc k) (omega arith)))

pub word_none : (n : ℕ) → word_of (λ _. false) n ≡ 0
unfolding word_of
word_none zero = refl
word_none (suc n) = ap (λ (v : ℕ). 0 + 2 * v) (word_none n)

-- n bits make a word below 2 ^ n
pub word_below : (P : ℕ → Bool) (n : ℕ) → word_of P n < 2 ^ n
unfolding word_of
word_below P zero = omega arith
word_below P (suc n) = go (P zero) (word_below (λ k. P (suc k)) n)
  where
    go : (b : Bool) → word_of (λ k. P (suc k)) n < 2 ^ n → pick b 1 0 + 2 * word_of (λ k. P (suc k)) n < 2 ^ suc n
    go true h = omega (arith, double n)
    go false h = omega (arith, double n)

pub bit_zero : (k : ℕ) → bit_of 0 k ≡ false
bit_zero zero = low_bit 0 false refl
bit_zero (suc k) = bit_next 0 k ∙ bit_zero k

no_ones : ones 0 ≡ 0
unfolding ones
no_ones = refl

-- the ones among n bits
pub ones-count : (n w : ℕ) → w < 2 ^ n → ones w ≡ count (bit_of w) n
unfolding count
ones-count zero w l = let w_zero : w ≡ 0 = omega arith in ap ones w_zero ∙ no_ones
ones-count (suc n) w l =
    ones_step w
    ∙ ap₂ (λ (a b : ℕ). a + b) (low_digit w)
    (ones-count n (w / 2) (half_below w n l)
    ∙ count_ext (bit_of (w / 2)) (λ k. bit_of w (suc k)) n (λ k _. sym (bit_next w k)))
    ∙ sym (count_front (bit_of w) n)

under_pick : (b : Bool) (t : ℕ) → under (pick b 1 0) t ≡ pick b zero (suc t)
under_pick true t = refl
under_pick false t = refl

-- the trailing zeros of n bits are those below the lowest one
pub trailing_first : (n w : ℕ) → count_trailing_zeros n w ≡ first (bit_of w) n
unfolding count_trailing_zeros first
trailing_first zero w = refl
trailing_first (suc n) w =
    ap₂ under (low_digit w) (trailing_first n (w / 2)
    ∙ first_ext (bit_of (w / 2)) (λ k. bit_of w (suc k)) n (λ k _. sym (bit_next w k)))
    ∙ under_pick (bit_of w 0) (first (λ k. bit_of w (suc k)) n)

-- a word with bit k is at least 2 ^ k
pub bit_least : (k w : ℕ) → bit_of w k ≡ true → 2 ^ k ≤ w
bit_least zero w e = omega (arith, low_digit w ∙ ap (λ (b : Bool). pick b 1 0) e)
bit_least (suc k) w e = omega (arith, double k, bit_least k (w / 2) (sym (bit_next w k) ∙ e))

-- one bit less: only bit k of w - 2 ^ k differs from w's, where w has it
pub bit_sub : (k j w : ℕ) → bit_of w k ≡ true → bit_of (w - 2 ^ k) j ≡ pick (eqb j k) false (bit_of w j)
bit_sub zero zero w e = low_bit _ false (omega (arith, low_digit w ∙ ap (λ (b : Bool). pick b 1 0) e))
bit_sub zero (suc j) w e =
    bit_next (w - 1) j ∙ ap (λ (u : ℕ). bit_of u j) half ∙ sym (bit_next w j)
    ∙ sym (pick_false false (bit_of w (suc j)) (eqb-suc-zero j))
  where
    half : (w - 1) / 2 ≡ w / 2
    half = omega (arith, low_digit w ∙ ap (λ (b : Bool). pick b 1 0) e)
bit_sub (suc k) zero w e =
    low_bit _ (bit_of w 0) (low ∙ low_digit w) ∙ sym (pick_false false (bit_of w 0) (eqb-zero-suc k))
  where
    low : (w - 2 ^ suc k) % 2 ≡ w % 2
    low = omega (arith, double k, bit_least (suc k) w e)
bit_sub (suc k) (suc j) w e =
    bit_next (w - 2 ^ suc k) j ∙ ap (λ (u : ℕ). bit_of u j) half ∙ bit_sub k j (w / 2) (sym (bit_next w k) ∙ e)
    ∙ ap₂ (λ (t b : Bool). pick t false b) (sym (eqb-suc-suc j k)) (sym (bit_next w j))
  where
    half : (w - 2 ^ suc k) / 2 ≡ w / 2 - 2 ^ k
    half = omega (arith, double k, bit_least (suc k) w e)

-- where w does not have bit k, clearing it changes nothing
pub bit_absent : (k j w : ℕ) → bit_of w k ≡ false → bit_of w j ≡ pick (eqb j k) false (bit_of w j)
bit_absent k j w e = go (eqb j k) (eq_tested j k)
  where
    go : (t : Bool) → Tested (j ≡ k) t → bit_of w j ≡ pick t false (bit_of w j)
    go true (holds z) = ap (bit_of w) z ∙ e
    go false (fails _) = refl

-- the code's test of a bit, and its words
module _ (w k : ℕ) where
  pub test_present : w / 2 ^ k % 2 ≡ 1 → bit_of w k ≡ true
  unfolding bit_of
  test_present e = eq-eqb (w / 2 ^ k % 2) 1 e

  pub test_absent : (w / 2 ^ k % 2 ≡ 1 → ⊥) → bit_of w k ≡ false
  unfolding bit_of
  test_absent d = ne_eqb (w / 2 ^ k % 2) 1 d

  module _ (n : ℕ) (small : w < 2 ^ n) where
    pub cleared_word : bit_of w k ≡ true → w - 2 ^ k ≡ word_of (λ j. pick (eqb j k) false (bit_of w j)) n
    cleared_word e = word_is _ n (w - 2 ^ k) (omega arith) (λ j _. bit_sub k j w e)

    pub kept_word : bit_of w k ≡ false → w ≡ word_of (λ j. pick (eqb j k) false (bit_of w j)) n
    kept_word e = word_is _ n w small (λ j _. bit_absent k j w e)

-- the code's 1 << k at 64 bits
pub shifted_one : (k : ℕ) → k < 64 → (1 * 2 ^ k) % 2 ^ 64 ≡ 2 ^ k
shifted_one k h = shl_exact 1 k 64 (omega arith) (omega arith) ∙ one-mul (2 ^ k)
