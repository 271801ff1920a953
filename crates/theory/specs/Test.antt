-- Boolean tests: choosing by one, and what one says. A sealed test exports a `Tested` law, and a proof needs nothing
-- else of it.
-- Assumes nothing.
pub mod Laws
use Rattle.std.specs.Prelude.{Bool, true, false}

-- a where the test passes, else b
abbrev pub pick {ℓ} : {A : Type ℓ} → Bool → A → A → A
pick true a b = a
pick false a b = b

-- both tests pass
abbrev pub both : Bool → Bool → Bool
both true b = b
both false b = false

-- a test with what it says, to be taken apart by clauses
pub data Tested (P : Type 0) : Bool → Type 0 where
  holds : P → Tested P true
  fails : (P → ⊥) → Tested P false
