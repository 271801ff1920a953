-- The case lists over the refusals, all of them: no refusal has the number 0, so the number alone tells whether an
-- operation accepted; a refusal returns one number at most; and one that returns something is known by what it says.
-- Assumes nothing.
use Rattle.std.specs.Prelude.{◌≡◌, refl, List, [], ◌∷◌, ℕ, ◌<◌, eqb, length, get_or}
use Rattle.std.proofs.Common.{ap, arith}
use Rattle.theory.specs.Test.{pick}
use Rattle.refusals.specs.declared.refusals.Refusal.{Refusal}
use Rattle.refusals.specs.declared.refusals.Reason.{Reason}
use Rattle.refusals.specs.declared.refusals.Reason.TheVariants.{SizesMissing, SideRange, CellCount, TooLarge}
use Rattle.refusals.specs.declared.refusals.Reason.TheVariants.{CornerOutside, TooManyCells, LinksBufferShort}
use Rattle.refusals.specs.declared.refusals.Reason.TheVariants.{WindowBufferShort, HasOtherImage}
use Rattle.refusals.specs.declared.refusals.Reason.TheVariants.{HasOtherPreimage}
use Rattle.refusals.specs.declared.refusals.Reason.TheVariants.{ColumnsDisagree, FlagsFalse, ScaleUnfit}
use Rattle.refusals.specs.declared.refusals.Refusal.TheVariants.{Plain, ListingForm, ListingFalse}
use Rattle.refusals.specs.declared.refusals.Refusal.TheVariants.{ListingBufferShort, CursorSpent}
use Rattle.std.specs.Option.{unwrap_or}
use Rattle.refusals.specs.Refusals.{number_of_reason, number_of, value_of, values_of, value_or_given}

-- no refusal has the number 0
reason_positive : (why : Reason) → 0 < number_of_reason why
reason_positive SizesMissing = omega arith
reason_positive SideRange = omega arith
reason_positive CellCount = omega arith
reason_positive TooLarge = omega arith
reason_positive CornerOutside = omega arith
reason_positive TooManyCells = omega arith
reason_positive LinksBufferShort = omega arith
reason_positive WindowBufferShort = omega arith
reason_positive HasOtherImage = omega arith
reason_positive HasOtherPreimage = omega arith
reason_positive ColumnsDisagree = omega arith
reason_positive FlagsFalse = omega arith
reason_positive ScaleUnfit = omega arith

pub number_positive : (why : Refusal) → 0 < number_of why
number_positive (Plain why) = reason_positive why
number_positive (ListingForm at) = omega arith
number_positive (ListingFalse at) = omega arith
number_positive (ListingBufferShort needed) = omega arith
number_positive (CursorSpent at) = omega arith

-- nothing, or one number
pub data Few : List ℕ → Type 0 where
  nothing : Few []
  one : (n : ℕ) → Few (n ∷ [])

-- that is what a refusal returns
pub values_few : (why : Refusal) → Few (values_of why)
values_few (Plain why) = nothing
values_few (ListingForm at) = one at
values_few (ListingFalse at) = one at
values_few (ListingBufferShort needed) = one needed
values_few (CursorSpent at) = one at

-- the refusal that returns something, by its number and values
pub refusal_by : ℕ → List ℕ → Refusal
refusal_by n v =
    pick (eqb n 6) (ListingForm (get_or v 0 0))
    (pick (eqb n 7) (ListingFalse (get_or v 0 0))
    (pick (eqb n 11) (ListingBufferShort (get_or v 0 0)) (CursorSpent (get_or v 0 0))))

pub refusal_by_lem : (why : Refusal) (at : ℕ) → values_of why ≡ at ∷ [] → refusal_by (number_of why) (values_of why) ≡ why
unfolding refusal_by
refusal_by_lem (Plain why) at h = absurd (let z : ◌≡◌ {A = ℕ} 0 1 = ap length h in omega arith)
refusal_by_lem (ListingForm x) at h = refl
refusal_by_lem (ListingFalse x) at h = refl
refusal_by_lem (ListingBufferShort needed) at h = refl
refusal_by_lem (CursorSpent x) at h = refl

-- the value that a refusal returns, or another number
pub value_given : (why : Refusal) (other : ℕ) → unwrap_or (value_of why) other ≡ value_or_given (values_of why) other
value_given (Plain why) other = refl
value_given (ListingForm at) other = refl
value_given (ListingFalse at) other = refl
value_given (ListingBufferShort needed) other = refl
value_given (CursorSpent at) other = refl
