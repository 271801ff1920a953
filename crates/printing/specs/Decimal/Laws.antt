-- Decimal digits: they spell the number, each is a digit, none but 0 begins with a zero. By the three sizes that a byte
-- has.
-- Assumes nothing.
use Rattle.std.specs.Prelude.{◌≡◌, List, [], ◌∷◌, ℕ, zero, suc, ◌+◌, ◌/◌, ◌%◌, ◌≤◌, ◌<◌, length, get_or}
use Rattle.std.proofs.Common.{arith, lt-ltb, le-ltb}
use Rattle.theory.specs.Test.{Tested, holds, fails}
use Rattle.theory.specs.Test.Laws.{lt_tested}
use Rattle.printing.specs.Decimal.{decimal, spelled, Digit}

-- ---- one, two or three digits

pub decimal_one : (n : ℕ) → n < 10 → decimal n ≡ (48 + n) ∷ []
unfolding decimal
decimal_one n h = rw (lt-ltb n 10 h)

pub decimal_two : (n : ℕ) → 10 ≤ n → n < 100 → decimal n ≡ (48 + n / 10) ∷ (48 + n % 10) ∷ []
unfolding decimal
decimal_two n h k = rw (le-ltb n 10 h, lt-ltb n 100 k)

pub decimal_three : (n : ℕ) → 100 ≤ n → decimal n ≡ (48 + n / 100) ∷ (48 + n / 10 % 10) ∷ (48 + n % 10) ∷ []
unfolding decimal
decimal_three n h = let k : 10 ≤ n = omega arith in rw (le-ltb n 10 k, le-ltb n 100 h)

-- a number by its digits, to be taken apart by clauses
data InDigits (n : ℕ) : List ℕ → Type 0 where
  one : n < 10 → InDigits n ((48 + n) ∷ [])
  two : 10 ≤ n → n < 100 → InDigits n ((48 + n / 10) ∷ (48 + n % 10) ∷ [])
  three : 100 ≤ n → InDigits n ((48 + n / 100) ∷ (48 + n / 10 % 10) ∷ (48 + n % 10) ∷ [])

in_digits : (n : ℕ) → InDigits n (decimal n)
in_digits n = go (lt_tested n 10) (lt_tested n 100)
  where
    go : {a b : _} → Tested (n < 10) a → Tested (n < 100) b → InDigits n (decimal n)
    go (holds h) t = rw (decimal_one n h) (one h)
    go (fails h) (holds k) = let l : 10 ≤ n = omega arith in rw (decimal_two n l k) (two l k)
    go (fails h) (fails k) = let l : 100 ≤ n = omega arith in rw (decimal_three n l) (three l)

-- ---- what the digits say

-- they spell the number
pub spells : (n : ℕ) → spelled 0 (decimal n) ≡ n
unfolding spelled
spells n = go (in_digits n)
  where
    go : {ds : List ℕ} → InDigits n ds → spelled 0 ds ≡ n
    go (one h) = omega arith
    go (two h k) = omega arith
    go (three h) = omega arith

-- each is a digit
pub digits : (n : ℕ) → n < 1000 → (k : ℕ) → k < length (decimal n) → Digit (get_or (decimal n) k 0)
digits n h = go (in_digits n)
  where
    go : {ds : List ℕ} → InDigits n ds → (k : ℕ) → k < length ds → Digit (get_or ds k 0)
    go (one l) zero i = record { zero_or_more = omega arith; nine_or_less = omega arith }
    go (one l) (suc k) i = absurd (omega arith)
    go (two l m) zero i = record { zero_or_more = omega arith; nine_or_less = omega arith }
    go (two l m) (suc zero) i = record { zero_or_more = omega arith; nine_or_less = omega arith }
    go (two l m) (suc (suc k)) i = absurd (omega arith)
    go (three l) zero i = record { zero_or_more = omega arith; nine_or_less = omega arith }
    go (three l) (suc zero) i = record { zero_or_more = omega arith; nine_or_less = omega arith }
    go (three l) (suc (suc zero)) i = record { zero_or_more = omega arith; nine_or_less = omega arith }
    go (three l) (suc (suc (suc k))) i = absurd (omega arith)

-- where there is more than one, the first is no zero
pub no_zero_in_front : (n : ℕ) → 1 < length (decimal n) → 48 < get_or (decimal n) 0 0
no_zero_in_front n = go (in_digits n)
  where
    go : {ds : List ℕ} → InDigits n ds → 1 < length ds → 48 < get_or ds 0 0
    go (one h) l = absurd (omega arith)
    go (two h k) l = omega arith
    go (three h) l = omega arith

-- there are at most three
pub at_most_three : (n : ℕ) → length (decimal n) ≤ 3
at_most_three n = go (in_digits n)
  where
    go : {ds : List ℕ} → InDigits n ds → length ds ≤ 3
    go (one h) = omega arith
    go (two h k) = omega arith
    go (three h) = omega arith
