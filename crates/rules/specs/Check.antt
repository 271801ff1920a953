-- Document 01's check of a listing, as a walk: for each window in order a found record with its pairs or a mismatch,
-- then the closing, then the end. The first bad record stops it, with 6 where its form is wrong and 7 where it is
-- false. What a listing must be for the walk to reach the end is said without a walk in `Rules`.
-- Assumes nothing.
use Rattle.std.specs.Prelude.{Bool, true, false, not, List, [], ◌∷◌, ℕ, zero, suc, ◌+◌, ◌*◌, eqb, length, Result, Ok, Err}
use Rattle.theory.specs.Test.{pick, both}
use Rattle.theory.specs.Count.{count}
use Rattle.refusals.specs.Said.{Said, ◌then◌, answer_said}
use Rattle.shapes.specs.Questions.{Question, windows_of, shape_said}
use Rattle.sets.specs.Symbols.{symbols_of}
use Rattle.refusals.specs.declared.refusals.Refusal.TheVariants.{ListingForm, ListingFalse}
use Rattle.matching.specs.Compare.{cell_of_pattern}
use Rattle.view.specs.Places.{window_of, cell_count}
use Rattle.matching.specs.Windows.{window_place}
use Rattle.cells.specs.declared.windows.WindowPlace.{WindowPlace}
use Rattle.claims.specs.Claims.{or_stop, onward, stands, byte_at, true_mismatch_test, pairs_from}
use Rattle.claims.specs.Claims.{Walk}
use Rattle.refusals.specs.declared.refusals.Refusal.{Refusal}
use Rattle.rules.specs.declared.checked.Tally.{Tally}

-- ---- one record

-- it names the window that is due
unfoldable pub is_due : WindowPlace → List ℕ → ℕ → Bool
is_due v listing at = both (eqb (byte_at listing at 1) v.row) (eqb (byte_at listing at 2) v.column)

-- a mismatch is right: it names the window that is due, and its cells spoil it as the kind says
unfoldable pub right_mismatch : Bool → List ℕ → List ℕ → WindowPlace → List ℕ → ℕ → Bool
right_mismatch side text pattern v listing at =
    both (is_due v listing at)
    (true_mismatch_test side (cell_of_pattern pattern) (window_of text v) v.height v.width (byte_at listing at 3)
    (byte_at listing at 4) (byte_at listing at 5) (byte_at listing at 6))

-- a closing is right: it has these counts, two bytes each, high byte first
unfoldable pub right_closing : List ℕ → ℕ → ℕ → ℕ → Bool
right_closing listing found refused at =
    both (eqb (byte_at listing at 1 * 256 + byte_at listing at 2) found)
    (eqb (byte_at listing at 3 * 256 + byte_at listing at 4) refused)

-- ---- the walk: 6 where another kind or no whole record stands, 7 where a record is not right

-- the records of a window: found and its pairs, or a mismatch of one kind or the other
unfoldable pub entry_from : List ℕ → List ℕ → WindowPlace → List ℕ → ℕ → Walk
entry_from text pattern v listing at =
    pick (stands listing 1 at)
    (or_stop (is_due v listing at) (ListingFalse at)
    (pairs_from (cell_of_pattern pattern) (window_of text v) (cell_count v) listing (symbols_of pattern) [] (at + 3)))
    (pick (stands listing 3 at) (or_stop (right_mismatch true text pattern v listing at) (ListingFalse at)
    (Ok (at + 7)))
    (pick (stands listing 4 at) (or_stop (right_mismatch false text pattern v listing at) (ListingFalse at)
    (Ok (at + 7)))
    (Err (ListingForm at))))

-- window k of a question
abbrev pub place_in : Question → ℕ → WindowPlace
place_in q k = window_place q.text.columns q.pattern.rows q.pattern.columns k

-- the first k windows, from the listing's first byte
unfoldable pub windows_to : Question → List ℕ → ℕ → Walk
windows_to q listing zero = Ok 0
windows_to q listing (suc k) =
    onward (windows_to q listing k) (entry_from q.text.cells q.pattern.cells (place_in q k) listing)

-- the place reached; where the check has stopped it does not matter, and is 0
abbrev pub place_reached : Walk → ℕ
place_reached (Ok at) = at
place_reached (Err why) = 0

-- window k stands as found
unfoldable pub stands_found : Question → List ℕ → ℕ → Bool
stands_found q listing k = stands listing 1 (place_reached (windows_to q listing k))

-- how many of the first n windows do
unfoldable pub found_to : Question → List ℕ → ℕ → ℕ
found_to q listing n = count (stands_found q listing) n

-- and how many do not: as long as the check goes on, these stand as refused
unfoldable pub refused_to : Question → List ℕ → ℕ → ℕ
refused_to q listing n = count (λ k. not (stands_found q listing k)) n

-- the closing, and behind it the end
unfoldable pub closing_from : List ℕ → ℕ → ℕ → ℕ → Walk
closing_from listing found refused at =
    or_stop (stands listing 5 at) (ListingForm at)
    (or_stop (right_closing listing found refused at) (ListingFalse at)
    (or_stop (eqb (at + 5) (length listing)) (ListingForm (at + 5)) (Ok (at + 5))))

-- the whole listing
unfoldable pub listing_walk : Question → List ℕ → Walk
listing_walk q listing =
    onward (windows_to q listing (windows_of q))
    (closing_from listing (found_to q listing (windows_of q))
    (refused_to q listing (windows_of q)))

-- ---- the operation

-- what it answers: the listing keeps the rules, and so many windows stand as found and so many as refused; or the
-- refusal
abbrev pub Checked : Type 0
Checked = Result Tally Refusal

abbrev pub kept : ℕ → ℕ → Checked
kept found refused = Ok (record { found = found; refused = refused })

-- document 01's number and values of an answer: accepted, found and refused; of a refusal its number and what it
-- returns besides, for 6 and 7 the place of the bad record
abbrev pub checked_said : Checked → Said
checked_said = answer_said (λ (t : Tally). t.found ∷ t.refused ∷ [])

-- a check that goes so, with these counts
abbrev pub walk_said : Walk → ℕ → ℕ → Said
walk_said walk found refused = answer_said (λ (at : ℕ). found ∷ refused ∷ []) walk

-- 6 or 7 by the first bad record; accepted, found and refused
unfoldable pub listing_said : Question → List ℕ → Said
listing_said q listing =
    walk_said (listing_walk q listing) (found_to q listing (windows_of q)) (refused_to q listing (windows_of q))

-- the check: 2, 3, 4, then the listing
unfoldable pub check_of : Question → List ℕ → Said
check_of q listing = shape_said q then listing_said q listing
