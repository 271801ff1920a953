-- Document 01's check of a listing, as far as one record claims something of its window: where the check stands, when a
-- record stands at a place, and what a pair and a mismatch have to say. The walk over all windows is `Check` of the
-- crate rules.
-- Assumes nothing.
pub mod Standing
use Rattle.std.specs.Prelude.{Result, Bool, true, false, not, List, [], ◌∷◌, ℕ, ◌+◌, ◌*◌, eqb, ltb, get_or}
use Rattle.theory.specs.Test.{pick, both}
use Rattle.theory.specs.First.{every}
use Rattle.occurrences.specs.Distinct.{contains}
use Rattle.refusals.specs.declared.refusals.Refusal.{Refusal}
use Rattle.refusals.specs.declared.refusals.Refusal.TheVariants.{ListingForm, ListingFalse}
use Rattle.reading.specs.Reader.{whole_at}
use Rattle.std.specs.Prelude.{Ok, Err}

-- ---- a walk: `Ok at`, every record so far is right and the next one begins there; or `Err why`, at the first bad
-- one

abbrev pub Walk : Type 0
Walk = Result ℕ Refusal

-- it stops unless the test passes, and otherwise goes on with what comes after
abbrev pub or_stop : Bool → Refusal → Walk → Walk
or_stop ok why after = pick ok after (Err why)

-- what comes after, from the place that was reached
abbrev pub onward : Walk → (ℕ → Walk) → Walk
onward (Ok at) after = after at
onward (Err why) after = Err why

-- ---- one record

-- a whole record of that kind stands at the place, as the reader has it
unfoldable pub stands : List ℕ → ℕ → ℕ → Bool
stands listing kind at = both (eqb (get_or listing at 0) kind) (whole_at listing at)

-- byte i of what stands at a place
abbrev pub byte_at : List ℕ → ℕ → ℕ → ℕ
byte_at listing at i = get_or listing (at + i) 0

-- the window has the symbol b in every cell where the pattern has a
unfoldable pub has_image_test : (ℕ → ℕ) → (ℕ → ℕ) → ℕ → ℕ → ℕ → Bool
has_image_test m w n a b = every (λ p. pick (eqb (m p) a) (eqb (w p) b) true) n

-- a pair is right: its pattern symbol is the next one, a, and its text symbol stands in all of a's cells and was not
-- given before for this window
unfoldable pub right_pair : (ℕ → ℕ) → (ℕ → ℕ) → ℕ → List ℕ → ℕ → List ℕ → ℕ → Bool
right_pair m w n listing a given at =
    both (eqb (byte_at listing at 1) a) (both (has_image_test m w n a (byte_at listing at 2))
    (not (contains given (byte_at listing at 2))))

-- a cell lies in the pattern
abbrev pub cell_inside_test : ℕ → ℕ → ℕ → ℕ → Bool
cell_inside_test height width row column = both (ltb row height) (ltb column width)

-- two positions are alike on that side only: in the pattern (true), or in the window (false)
abbrev pub alike_only_test : Bool → (ℕ → ℕ) → (ℕ → ℕ) → ℕ → ℕ → Bool
alike_only_test true m w q p = both (eqb (m q) (m p)) (not (eqb (w q) (w p)))
alike_only_test false m w q p = both (eqb (w q) (w p)) (not (eqb (m q) (m p)))

-- two cells (i, j) and (k, l) lie in the pattern, the earlier first, and are alike on that side only
unfoldable pub true_mismatch_test : Bool → (ℕ → ℕ) → (ℕ → ℕ) → ℕ → ℕ → ℕ → ℕ → ℕ → ℕ → Bool
true_mismatch_test side m w height width i j k l =
    both (cell_inside_test height width i j) (both (cell_inside_test height width k l)
    (both (ltb (i * width + j) (k * width + l)) (alike_only_test side m w (i * width + j) (k * width + l))))

-- ---- the pairs of a window: 6 where another kind or no whole record stands, 7 where a pair is not right

-- the pairs of a found window, one for each of these symbols; the window's symbols of the pairs before them are given
unfoldable pub pairs_from : (ℕ → ℕ) → (ℕ → ℕ) → ℕ → List ℕ → List ℕ → List ℕ → ℕ → Walk
pairs_from m w n listing [] given at = Ok at
pairs_from m w n listing (a ∷ symbols) given at =
    or_stop (stands listing 2 at) (ListingForm at)
    (or_stop (right_pair m w n listing a given at) (ListingFalse at)
    (pairs_from m w n listing symbols (byte_at listing at 2 ∷ given) (at + 3)))
