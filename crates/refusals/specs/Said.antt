-- What an operation says: accepted, with what it returns, or refused by a number, with what the refusal returns
-- besides. Document 01's order of refusals is a chain of these: `a then b` is b where a accepts, and a where it
-- refuses.
-- Assumes nothing.
pub mod Laws
use Rattle.std.specs.Prelude.{Bool, List, [], ◌++◌, ℕ, length, drop, Result, Ok, Err, ⊤}
use Rattle.theory.specs.Test.{pick}
use Rattle.refusals.specs.Refusals.{number_of, values_of}
use Rattle.refusals.specs.declared.refusals.Refusal.{Refusal}

-- accepted, with what is returned; or refused by a number, with what the refusal returns besides
pub data Said : Type 0 where
  accepts : List ℕ → Said
  refuses : ℕ → List ℕ → Said

-- the number, 0 where it is accepted
abbrev pub said_number : Said → ℕ
said_number (accepts values) = 0
said_number (refuses number values) = number

-- what is returned besides
abbrev pub said_values : Said → List ℕ
said_values (accepts values) = values
said_values (refuses number values) = values

infixr 20 ◌then◌
-- the first that refuses, or the last
abbrev pub ◌then◌ : Said → Said → Said
◌then◌ (accepts values) after = after
◌then◌ (refuses number values) after = refuses number values

-- refused by a number, with these values, unless the test passes
abbrev pub check_with : Bool → ℕ → List ℕ → Said
check_with ok number values = pick ok (accepts []) (refuses number values)

-- the same, with nothing besides
abbrev pub check : Bool → ℕ → Said
check ok number = check_with ok number []

-- the new values first, and the rest as it was
abbrev pub over_front : List ℕ → List ℕ → List ℕ
over_front new old = new ++ drop (length new) old

-- accepted, the new; refused, the old
abbrev pub new_by : {A : Type 0} → Said → A → A → A
new_by (accepts values) new old = new
new_by (refuses number values) new old = old

-- a buffer after an operation that says so: accepted, the new values first and the rest as it was; refused, all as it
-- was
abbrev pub buffer_by : Said → List ℕ → List ℕ → List ℕ
buffer_by said new old = new_by said (over_front new old) old

-- what an operation that is lent one buffer says, and the buffer then
pub record Filled : Type 0 where
  pub said : Said
  pub buffer : List ℕ

-- the new values at its front, or all of it as it was
abbrev pub filled_by : Said → List ℕ → List ℕ → Filled
filled_by said new old = record { said = said; buffer = buffer_by said new old }

-- what a refusal says
abbrev pub refusal_said : Refusal → Said
refusal_said why = refuses (number_of why) (values_of why)

-- what an answer says: what it gives as values, or its refusal
abbrev pub answer_said : {A : Type 0} → (A → List ℕ) → Result A Refusal → Said
answer_said values (Ok answer) = accepts (values answer)
answer_said values (Err why) = refusal_said why

-- what an outcome says, which gives nothing
abbrev pub outcome_said : Result ⊤ Refusal → Said
outcome_said o = answer_said (λ _. []) o

-- an outcome, and what the buffer holds
abbrev pub filled : Result ⊤ Refusal → List ℕ → Filled
filled o buffer = record { said = outcome_said o; buffer = buffer }

-- What the inner functions' contracts cite.

-- the number of an answer, whatever it gives
abbrev pub number_in : {A : Type 0} → Result A Refusal → ℕ
number_in (Ok answer) = 0
number_in (Err why) = number_of why
