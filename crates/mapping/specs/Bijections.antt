-- Document 01's renamings: a forward and a backward column of 256 places, 256 for no image and no preimage.
-- Assumes nothing.
pub mod Numbers
pub mod Laws
use Rattle.std.specs.Prelude.{Bool, [], ℕ, set, replicate, Result, Ok, Err}
use Rattle.theory.specs.Columns.{agree, free, chained}
use Rattle.refusals.specs.declared.refusals.Refusal.{Refusal}
use Rattle.refusals.specs.Said.{Said, accepts, new_by, ◌then◌, check, refusal_said}
use Rattle.mapping.specs.declared.bijections.Bijection.{Bijection}

-- no symbol has an image
unfoldable pub empty_bijection : Bijection
empty_bijection = record { forward = replicate 256 256; backward = replicate 256 256 }

-- the columns agree and hold nothing above 256 (otherwise 14)
unfoldable pub good_columns : Bijection → Bool
good_columns b = agree b.forward b.backward

-- the bijection with the pair of a and c: document 01's mating
unfoldable pub paired : Bijection → ℕ → ℕ → Bijection
paired b a c = record { forward = set b.forward a c; backward = set b.backward c a }

-- the columns exchanged
unfoldable pub inverse : Bijection → Bijection
inverse b = record { forward = b.backward; backward = b.forward }

-- first b, then d
unfoldable pub composite : Bijection → Bijection → Bijection
composite b d = record { forward = chained b.forward d.forward; backward = chained d.backward b.backward }

-- ---- the operations

-- what an operation says, and the bijection that it answers
pub record Renamed : Type 0 where
  pub said : Said
  pub bijection : Bijection

-- an answer as such a pair: refused, the bijection is the one that was given
abbrev pub renamed : Bijection → Result Bijection Refusal → Renamed
renamed given (Ok new) = record { said = accepts []; bijection = new }
renamed given (Err why) = record { said = refusal_said why; bijection = given }

-- accepted, the new bijection; refused, the old one
abbrev pub renamed_by : Said → Bijection → Bijection → Renamed
renamed_by said new old = record { said = said; bijection = new_by said new old }

-- pairing a with c: 14, then 12 where a has another image, then 13 where c is another's image
unfoldable pub pair_said : Bijection → ℕ → ℕ → Said
pair_said b a c = check (good_columns b) 14 then check (free b.forward a c) 12 then check (free b.backward c a) 13

-- the operation: a and c paired
unfoldable pub pair_of : Bijection → ℕ → ℕ → Renamed
pair_of b a c = renamed_by (pair_said b a c) (paired b a c) b

-- inverting: 14
unfoldable pub invert_said : Bijection → Said
invert_said b = check (good_columns b) 14

-- the operation: the columns exchanged
unfoldable pub invert_of : Bijection → Renamed
invert_of b = renamed_by (invert_said b) (inverse b) b

-- composing: 14 if either earns it
unfoldable pub compose_said : Bijection → Bijection → Said
compose_said b d = check (good_columns b) 14 then check (good_columns d) 14

-- the operation: first b, then d
unfoldable pub compose_of : Bijection → Bijection → Renamed
compose_of b d = renamed_by (compose_said b d) (composite b d) b
