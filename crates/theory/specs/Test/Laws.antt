-- What tests say: from a test to what it tests and back, tests of numbers, and both of two tests. Each is a case on the
-- Boolean.
-- Assumes nothing.
use Rattle.std.proofs.Common.{ap, sym, ◌∙◌, true≢false, inl, inr}
use Rattle.std.specs.Prelude.{◌≡◌, refl, Bool, true, false, not, ◌⊎◌, ℕ, ◌≤◌, ◌<◌, eqb, ltb, leb}
use borrow.Author.Tests.{lt-ltb, ltb-true, le-leb, leb-true, eqb-true}
use Rattle.theory.specs.Test.{pick, both, Tested, holds, fails}

-- the case that a test picks, as an equation to cite
pub pick_true {ℓ} : {A : Type ℓ} (a b : A) {t : Bool} → t ≡ true → pick t a b ≡ a
pick_true a b e = ap (λ x. pick x a b) e

pub pick_false {ℓ} : {A : Type ℓ} (a b : A) {t : Bool} → t ≡ false → pick t a b ≡ b
pick_false a b e = ap (λ x. pick x a b) e

pub true_false : {b : Bool} → b ≡ true → b ≡ false → ⊥
true_false t f = true≢false (sym t ∙ f)

pub true_or_false : (b : Bool) → (b ≡ true) ⊎ (b ≡ false)
true_or_false true = inl refl
true_or_false false = inr refl

-- what follows where P holds, where it does not, and where the test is known
pub is_true : {P : Type 0} {b : Bool} → Tested P b → P → b ≡ true
is_true (holds p) q = refl
is_true (fails n) q = absurd (n q)

pub is_false : {P : Type 0} {b : Bool} → Tested P b → (P → ⊥) → b ≡ false
is_false (holds p) n = absurd (n p)
is_false (fails m) n = refl

pub says_true : {P : Type 0} {b : Bool} → Tested P b → b ≡ true → P
says_true (holds p) e = p
says_true (fails n) e = absurd (true_false e refl)

pub says_false : {P : Type 0} {b : Bool} → Tested P b → b ≡ false → P → ⊥
says_false (holds p) e = λ _. true_false refl e
says_false (fails n) e = n

pub tested : {P : Type 0} (b : Bool) → (b ≡ true → P) → (P → b ≡ true) → Tested P b
tested true f g = holds (f refl)
tested false f g = fails (λ p. true_false (g p) refl)

-- two tests that say the same are the same
pub tested_same : {P : Type 0} {b c : Bool} → Tested P b → Tested P c → b ≡ c
tested_same (holds p) t = sym (is_true t p)
tested_same (fails n) t = sym (is_false t n)

pub tested_iff : {P Q : Type 0} {b : Bool} → (P → Q) → (Q → P) → Tested P b → Tested Q b
tested_iff f g (holds p) = holds (f p)
tested_iff f g (fails n) = fails (λ q. n (g q))

pub eq_tested : (a b : ℕ) → Tested (a ≡ b) (eqb a b)
eq_tested a b = tested (eqb a b) (eqb-true a b) (borrow.Author.Tests.eq-eqb a b)

pub lt_tested : (a b : ℕ) → Tested (a < b) (ltb a b)
lt_tested a b = tested (ltb a b) (ltb-true a b) (lt-ltb a b)

pub le_tested : (a b : ℕ) → Tested (a ≤ b) (leb a b)
le_tested a b = tested (leb a b) (leb-true a b) (le-leb a b)

pub both_tested : {P Q : Type 0} {a b : Bool} → Tested P a → Tested Q b → Tested (P × Q) (both a b)
both_tested (holds p) (holds q) = holds (p, q)
both_tested (holds p) (fails n) = fails (λ h. n h.1)
both_tested (fails n) t = fails (λ h. n h.0)

-- a test after a test, as `&&` has it: the first fails, and is the answer
pub first_fails : (a b : Bool) → a ≡ false → a ≡ both a b
first_fails true b e = absurd (true_false refl e)
first_fails false b e = refl

-- the first passes, and the second is the answer
pub first_passes : (a b : Bool) → a ≡ true → b ≡ both a b
first_passes true b e = refl
first_passes false b e = absurd (true_false e refl)

pub not_tested : {P : Type 0} {a : Bool} → Tested P a → Tested (P → ⊥) (not a)
not_tested (holds p) = fails (λ n. n p)
not_tested (fails n) = holds n
