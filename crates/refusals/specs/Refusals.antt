-- Document 01, 'Refused by number', with the numbers that R-1 and R-2 of document 02 add, 16 and 17: the number of each
-- refusal and what it returns besides.
-- Assumes nothing.
pub mod Laws
use Rattle.std.specs.Prelude.{ℕ, List, [], ◌∷◌, Option, Some, None}
use Rattle.std.specs.Option.{option_to_list}
use Rattle.refusals.specs.declared.refusals.Refusal.{Refusal}
use Rattle.refusals.specs.declared.refusals.Reason.{Reason}
use Rattle.refusals.specs.declared.refusals.Reason.TheVariants.{SizesMissing, SideRange, CellCount, TooLarge}
use Rattle.refusals.specs.declared.refusals.Reason.TheVariants.{CornerOutside, TooManyCells, LinksBufferShort}
use Rattle.refusals.specs.declared.refusals.Reason.TheVariants.{WindowBufferShort, HasOtherImage}
use Rattle.refusals.specs.declared.refusals.Reason.TheVariants.{HasOtherPreimage}
use Rattle.refusals.specs.declared.refusals.Reason.TheVariants.{ColumnsDisagree, FlagsFalse, ScaleUnfit}
use Rattle.refusals.specs.declared.refusals.Refusal.TheVariants.{Plain, ListingForm, ListingFalse}
use Rattle.refusals.specs.declared.refusals.Refusal.TheVariants.{ListingBufferShort, CursorSpent}

-- the number of a reason: 1 to 15 are document 01's, 16 and 17 are document 02's
abbrev pub number_of_reason : Reason → ℕ
number_of_reason SizesMissing = 1
number_of_reason SideRange = 2
number_of_reason CellCount = 3
number_of_reason TooLarge = 4
number_of_reason CornerOutside = 5
number_of_reason TooManyCells = 8
number_of_reason LinksBufferShort = 9
number_of_reason WindowBufferShort = 10
number_of_reason HasOtherImage = 12
number_of_reason HasOtherPreimage = 13
number_of_reason ColumnsDisagree = 14
number_of_reason FlagsFalse = 16
number_of_reason ScaleUnfit = 17

-- the same of a refusal
abbrev pub number_of : Refusal → ℕ
number_of (Plain why) = number_of_reason why
number_of (ListingForm at) = 6
number_of (ListingFalse at) = 7
number_of (ListingBufferShort needed) = 11
number_of (CursorSpent at) = 15

-- what a refusal returns besides its number: a place in the listing for 6, 7 and 15, the length needed for 11
abbrev pub value_of : Refusal → Option ℕ
value_of (Plain why) = None
value_of (ListingForm at) = Some at
value_of (ListingFalse at) = Some at
value_of (ListingBufferShort needed) = Some needed
value_of (CursorSpent at) = Some at

-- the same as a list
abbrev pub values_of : Refusal → List ℕ
values_of why = option_to_list (value_of why)

-- What the inner functions' contracts cite.

-- the first of the values, or another number where there is none
abbrev pub value_or_given : List ℕ → ℕ → ℕ
value_or_given [] other = other
value_or_given (value ∷ rest) other = value
