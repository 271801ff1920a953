-- What List says and leaves, refusal by refusal: before the flags are looked at, by 16, by 11; and where there is room,
-- the listing.
-- Assumes nothing.
use Rattle.std.specs.Prelude.{Result, Ok, Err, ⊤, ◌≡◌, refl, List, [], ◌∷◌, ℕ, ◌*◌, ◌≤◌, ◌<◌, leb, length, get_or}
use Rattle.std.proofs.Common.{sym, ap, ◌∙◌, arith}
use Rattle.theory.specs.Test.Laws.{le_tested, says_true}
use Rattle.refusals.specs.Refusals.{number_of, values_of}
use Rattle.refusals.specs.Said.{Said, accepts, ◌then◌, check, check_with, over_front, filled_by, refusal_said}
use Rattle.refusals.specs.Said.{outcome_said}
use Rattle.refusals.specs.Said.Laws.{check_true, not_accepted}
use Rattle.refusals.specs.declared.refusals.Refusal.{Refusal}
use Rattle.shapes.specs.Questions.{Question, Posed, asked, windows_of}
use Rattle.shapes.specs.Shapes.{across, down}
use Rattle.shapes.specs.declared.shapes.Shape.{Shape}
use Rattle.occurrences.specs.Distinct.{distinct}
use Rattle.flags.specs.Flags.{flags_truth}
use Rattle.flags.specs.Flags.Laws.{flags_true_tested}
use Rattle.entries.specs.Listing.{listing_length, needed_length, search_listing}
use Rattle.entries.specs.Listing.Length.{length_listing}
use Rattle.entries.specs.Listing.Totals.{ones, others, totals_in}
use Rattle.listing.specs.declared.totals.Totals.{Totals}
use Rattle.passes.specs.Windows.{Flagged}
use Rattle.rooms.specs.Rooms.{flags_room_said}
use Rattle.totals.specs.Totalled.{totalled}
use Rattle.searched.specs.Search.{listed_said, list_said, list_done, list_of}

-- What the inner functions' contracts cite.

-- flags that were judged, and totals: where nothing is refused the flags are those of all windows, and the totals are
-- theirs
pub record Trusted (text pattern : List ℕ) (s : Shape) (judged : Result ⊤ Refusal) (flags : List ℕ)
    (totals : Totals ℕ) : Type 0 where
  pub flagged : judged ≡ Ok tt → Flagged text pattern s flags
  pub totalled : judged ≡ Ok tt → totals ≡ totals_in (asked text pattern s)

-- ---- what was judged, then 11, then the listing

module _ (q : Question) (judged : Result ⊤ Refusal) (totals : Totals ℕ) (is : judged ≡ Ok tt → totals ≡ totals_in q)
    (listing : List ℕ) where
  -- 11, by the totals
  abbrev pub room_said : Said
  room_said = check_with (leb totals.length (length listing)) 11 (totals.length ∷ [])

  size_is : judged ≡ Ok tt → totals.length ≡ needed_length q
  size_is e = ap (λ (t : Totals ℕ). t.length) (is e)

  -- nothing is refused only if the flags were not, and there is room
  pub passed : accepts [] ≡ outcome_said judged then room_said
      → (judged ≡ Ok tt) × (totals.length ≤ length listing)
  passed chain = go judged refl chain
    where
      go : (o : Result ⊤ Refusal) → judged ≡ o → accepts [] ≡ outcome_said o then room_said
          → (judged ≡ Ok tt) × (totals.length ≤ length listing)
      go (Ok v) d c =
          (d, says_true (le_tested totals.length (length listing)) (check_true _ 11 (totals.length ∷ []) [] (sym c)))
      go (Err why) d c = absurd (not_accepted (number_of why) (values_of why) [] (sym c))

  -- refused
  pub listing_stopped : (why : Refusal) → refusal_said why ≡ outcome_said judged then room_said
      → list_done (Err why) listing
      ≡ filled_by (outcome_said judged then listed_said q (length listing)) (search_listing q) listing
  unfolding listed_said
  listing_stopped why chain = go judged refl chain
    where
      go : (o : Result ⊤ Refusal) → judged ≡ o → refusal_said why ≡ outcome_said o then room_said
          → list_done (Err why) listing
          ≡ filled_by (outcome_said judged then listed_said q (length listing)) (search_listing q) listing
      go (Ok v) d c = rw (d, ← size_is d, ← c)
      go (Err before) d c = rw (d, ← c)

  -- else there is room
  pub listing_fits : ((k : ℕ) → get_or q.pattern.cells k 0 < 256) → accepts [] ≡ outcome_said judged then room_said
      → length (search_listing q) ≤ length listing
  listing_fits bytes chain =
      let p = passed chain in omega (arith, size_is p.0, length_listing q bytes, p.1)

  -- and it is written
  pub listing_written : accepts [] ≡ outcome_said judged then room_said → (after : List ℕ)
      → after ≡ over_front (search_listing q) listing
      → list_done (Ok totals) after
      ≡ filled_by (outcome_said judged then listed_said q (length listing)) (search_listing q) listing
  unfolding listed_said
  listing_written chain after w =
      let d = (passed chain).0 in
      rw (d, ← size_is d, ← (rw d at chain), w, is d)

-- ---- the flags

-- flags that are the truth are the flags of all windows
pub flags_flagged : (text pattern : List ℕ) (s : Shape) (flags : List ℕ) → Posed (asked text pattern s)
    → windows_of (asked text pattern s) ≤ length flags
    → accepts [] ≡ check (flags_truth (asked text pattern s) flags) 16
    → Flagged text pattern s flags
flags_flagged text pattern s flags p room e =
    record {
      shape = p.shape;
      size = p.size;
      flags_room = room;
      flags_are =
          says_true (flags_true_tested (asked text pattern s) flags)
          (check_true (flags_truth (asked text pattern s) flags) 16 [] [] (sym e));
    }

-- an outcome that says 16 where they are not
pub flags_trusted : (text pattern : List ℕ) (s : Shape) (judged : Result ⊤ Refusal) (flags : List ℕ)
    (totals : Totals ℕ) → Posed (asked text pattern s) → windows_of (asked text pattern s) ≤ length flags
    → outcome_said judged ≡ check (flags_truth (asked text pattern s) flags) 16
    → totals.found ≡ ones flags (down s * across s) → totals.refused ≡ others flags (down s * across s)
    → totals.length ≡ listing_length totals.found totals.refused (distinct pattern)
    → Trusted text pattern s judged flags totals
flags_trusted text pattern s judged flags totals p room is a b e =
    record {
      flagged = there;
      totalled = λ d. totalled text pattern s flags (there d).flags_are _ _ _ a b e;
    }
  where
    there : judged ≡ Ok tt → Flagged text pattern s flags
    there d = flags_flagged text pattern s flags p room (ap outcome_said (sym d) ∙ is)

-- ---- before the flags are looked at

module _ (q : Question) (flags listing : List ℕ) where
  -- refused
  pub list_stopped : (why : Refusal) → refusal_said why ≡ flags_room_said q (length flags)
      → list_done (Err why) listing ≡ list_of q flags listing
  unfolding list_of list_said
  list_stopped why e = rw (← e)

  -- else the flags decide
  pub list_goes_on : accepts [] ≡ flags_room_said q (length flags)
      → filled_by (check (flags_truth q flags) 16 then listed_said q (length listing)) (search_listing q) listing
      ≡ list_of q flags listing
  unfolding list_of list_said
  list_goes_on e = rw (← e)
