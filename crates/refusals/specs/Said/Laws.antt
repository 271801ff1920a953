-- Laws of chains of refusals: what stops a chain, what passes it, and what a chain that accepts has passed. Each is a
-- case on the first part.
-- Assumes nothing.
use Rattle.std.specs.Prelude.{◌≡◌, refl, Bool, true, false, List, [], ℕ, ◌≤◌, ◌<◌, Result, Ok, Err, ⊤}
use Rattle.std.proofs.Common.{sym, ◌∙◌, ap, arith}
use Rattle.std.specs.Result.{result_and}
use Rattle.theory.specs.Test.{both}
use Rattle.theory.specs.Test.Laws.{true_false}
use Rattle.refusals.specs.declared.refusals.Refusal.{Refusal}
use Rattle.refusals.specs.Said.{Said, Filled, filled, filled_by, over_front, ◌then◌, check_with, check, outcome_said}
use Rattle.refusals.specs.Said.{said_number, answer_said, number_in, refuses, accepts}

-- ---- a chain from its front

-- an outcome and another one is a chain
pub and_said : (a b : Result ⊤ Refusal) → outcome_said (result_and a b) ≡ outcome_said a then outcome_said b
and_said (Ok x) b = refl
and_said (Err why) b = refl

-- an answer's number does not hang on what it gives
pub number_said : {A : Type 0} (values : A → List ℕ) (r : Result A Refusal)
    → number_in r ≡ said_number (answer_said values r)
number_said values (Ok x) = refl
number_said values (Err why) = refl

-- what refuses stays
pub then_stopped : (o : Result ⊤ Refusal) (why : Refusal) (a b : Said) → o ≡ Err why → outcome_said o ≡ a
    → outcome_said o ≡ a then b
then_stopped o why a b e d = d ∙ rw (← d, e)

-- the same of a refusal by its case
pub then_refused : (o : Result ⊤ Refusal) (why : Refusal) (b : Said) → o ≡ Err why
    → outcome_said (Err why) ≡ outcome_said o then b
then_refused o why b e = rw e

-- what is refused leaves a buffer as it was
pub filled_kept : (o : Result ⊤ Refusal) (why : Refusal) (a : Said) (new old : List ℕ) → o ≡ Err why → outcome_said o ≡ a
    → filled o old ≡ filled_by a new old
filled_kept o why a new old e d = rw (← d, e)

-- what is accepted has the new values first
pub filled_new : (a : Said) (new old buffer : List ℕ) → a ≡ accepts [] → buffer ≡ over_front new old
    → filled (Ok tt) buffer ≡ filled_by a new old
filled_new a new old buffer e d = rw (e, d)

-- the two parts of such an answer
pub same_said : {a b : Filled} → a ≡ b → a.said ≡ b.said
same_said e = ap (λ (f : Filled). f.said) e

pub same_buffer : {a b : Filled} → a ≡ b → a.buffer ≡ b.buffer
same_buffer e = ap (λ (f : Filled). f.buffer) e

-- an accepted outcome accepts
pub passed_said : (o : Result ⊤ Refusal) (a : Said) → o ≡ Ok tt → outcome_said o ≡ a → a ≡ accepts []
passed_said o a e d = sym d ∙ rw e

-- refused is not accepted
is_accepted : Said → Bool
is_accepted (accepts values) = true
is_accepted (refuses number values) = false

pub not_accepted : (number : ℕ) (values returned : List ℕ) → refuses number values ≡ accepts returned → ⊥
unfolding is_accepted
not_accepted number values returned e = true_false {b = true} refl (sym (ap is_accepted e))

-- it accepts, or it refuses by that number and nothing besides
pub data Numbered (number : ℕ) : Said → Type 0 where
  passing : Numbered number (accepts [])
  refusing : Numbered number (refuses number [])

pub check_numbered : (ok : Bool) (number : ℕ) → Numbered number (check ok number)
check_numbered true number = passing
check_numbered false number = refusing

pub then_numbered : {number : ℕ} {a b : Said} → Numbered number a → Numbered number b → Numbered number (a then b)
then_numbered passing b = b
then_numbered refusing b = refusing

-- a chain that accepts passed its first test, and the rest accepts
pub check_passed : (ok : Bool) (number : ℕ) (values : List ℕ) (b : Said) (returned : List ℕ)
    → check_with ok number values then b ≡ accepts returned
    → (ok ≡ true) × (b ≡ accepts returned)
check_passed true number values b returned e = (refl, e)
check_passed false number values b returned e = absurd (not_accepted number values returned e)

-- a check alone
pub check_refuses : (ok : Bool) (number : ℕ) (values : List ℕ) → ok ≡ false
    → refuses number values ≡ check_with ok number values
check_refuses ok number values e = rw e

pub check_accepts : (ok : Bool) (number : ℕ) (values : List ℕ) → ok ≡ true → accepts [] ≡ check_with ok number values
check_accepts ok number values e = rw e

pub check_true : (ok : Bool) (number : ℕ) (values returned : List ℕ) → check_with ok number values ≡ accepts returned
    → ok ≡ true
check_true true number values returned e = refl
check_true false number values returned e = absurd (not_accepted number values returned e)

-- two checks by one number are one
pub check_both : (a b : Bool) (number : ℕ) → check a number then check b number ≡ check (both a b) number
check_both true b number = refl
check_both false b number = refl

-- a chain that accepts: each of its two parts does
pub then_both : (a b : Said) (returned : List ℕ) → a then b ≡ accepts returned
    → ((values : List ℕ) × (a ≡ accepts values)) × (b ≡ accepts returned)
then_both (accepts values) b returned e = ((values, refl), e)
then_both (refuses number values) b returned e = absurd (not_accepted number values returned e)

-- chains are joined in either order
pub then_assoc : (a b c : Said) → (a then b) then c ≡ a then (b then c)
then_assoc (accepts values) b c = refl
then_assoc (refuses number values) b c = refl

-- ---- number 0 means accepted

-- what refuses does so by a number other than 0
pub data Proper : Said → Type 0 where
  accepting : (values : List ℕ) → Proper (accepts values)
  refused_by : (number : ℕ) (values : List ℕ) → 0 < number → Proper (refuses number values)

pub check_proper : (ok : Bool) (number : ℕ) (values : List ℕ) → 0 < number → Proper (check_with ok number values)
check_proper true number values h = accepting []
check_proper false number values h = refused_by number values h

pub then_proper : {a b : Said} → Proper a → Proper b → Proper (a then b)
then_proper (accepting values) b = b
then_proper (refused_by number values h) b = refused_by number values h

pub numbered_proper : {number : ℕ} {a : Said} → Numbered number a → 0 < number → Proper a
numbered_proper passing h = accepting []
numbered_proper refusing h = refused_by _ [] h

pub zero_accepts : (a : Said) → Proper a → said_number a ≡ 0 → (values : List ℕ) × (a ≡ accepts values)
zero_accepts (accepts values) p e = (values, refl)
zero_accepts (refuses number values) (refused_by n v h) e = absurd (omega (arith, h, e))

-- ---- numbers at most n

-- what refuses does so by a number of at most n
pub data AtMost (n : ℕ) : Said → Type 0 where
  none_given : (values : List ℕ) → AtMost n (accepts values)
  given_below : (number : ℕ) (values : List ℕ) → number ≤ n → AtMost n (refuses number values)

pub check_at_most : (n : ℕ) (ok : Bool) (number : ℕ) (values : List ℕ) → number ≤ n
    → AtMost n (check_with ok number values)
check_at_most n true number values h = none_given []
check_at_most n false number values h = given_below number values h

pub then_at_most : {n : ℕ} {a b : Said} → AtMost n a → AtMost n b → AtMost n (a then b)
then_at_most (none_given values) b = b
then_at_most (given_below number values h) b = given_below number values h

pub numbered_at_most : {number : ℕ} {a : Said} (n : ℕ) → Numbered number a → number ≤ n → AtMost n a
numbered_at_most n passing h = none_given []
numbered_at_most n refusing h = given_below _ [] h

pub number_at_most : (n : ℕ) (a : Said) → AtMost n a → said_number a ≤ n
number_at_most n (accepts values) m = omega arith
number_at_most n (refuses number values) (given_below k v h) = h
