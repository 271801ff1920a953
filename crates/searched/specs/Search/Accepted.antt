-- The search's refusals in their order: each number where its test fails and the earlier ones pass, and what a search
-- that is not refused has.
-- Assumes nothing.
use Rattle.std.specs.Prelude.{Result, Err, ⊤, ◌≡◌, List, [], ◌∷◌, ℕ, ◌≤◌, ◌<◌, leb, length, get_or}
use Rattle.std.proofs.Math.Path.{refl, ap}
use Rattle.std.proofs.Common.{sym, ◌∙◌}
use borrow.Author.Tests.{le-leb, lt-leb}
use Rattle.theory.specs.Test.Laws.{le_tested, says_true}
use Rattle.refusals.specs.Said.{over_front, Said, accepts, refuses, ◌then◌, said_values, outcome_said, refusal_said}
use Rattle.refusals.specs.Said.Laws.{then_both, check_passed, not_accepted}
use Rattle.shapes.specs.Questions.{Question}
use Rattle.refusals.specs.declared.refusals.Refusal.{Refusal}
use Rattle.flags.specs.Flags.{Rooms, rooms_of, RoomFor}
use Rattle.entries.specs.Listing.{found_in, refused_in, needed_length, search_listing}
use Rattle.searched.specs.Search.{Lent, Done, listed_said, search_said, listed_of, stopped, search_of}
use Rattle.rooms.specs.Rooms.{room_said}
use Rattle.rooms.specs.Rooms.Laws.{room_passed, room_passes}

module _ (q : Question) (l : Lent) where
  -- refused before it begins, nothing is changed
  pub search_stopped : (o : Result ⊤ Refusal) (why : Refusal) → o ≡ Err why → outcome_said o ≡ room_said q (rooms_of l.work)
      → record { said = refusal_said why; lent = l } ≡ search_of q l
  unfolding search_of
  search_stopped o why e d = rw (← d, e)

  -- else the listing decides
  pub search_goes : room_said q (rooms_of l.work) ≡ accepts [] → listed_of q l ≡ search_of q l
  unfolding search_of
  search_goes e = rw e

-- a search that is accepted: there was room for everything, its values are those of the windows, and the listing is
-- written
pub record Lists (q : Question) (l : Lent) (found refused size : ℕ) : Type 0 where
  pub room : RoomFor q (rooms_of l.work)
  pub found_is : found ≡ found_in q
  pub refused_is : refused ≡ refused_in q
  pub size_is : size ≡ needed_length q
  pub fits : needed_length q ≤ length l.listing
  pub written : (search_of q l).lent.listing ≡ over_front (search_listing q) l.listing

-- accepted values are equal one by one
pub values_same : (a b c x y z : ℕ) → accepts (a ∷ b ∷ c ∷ []) ≡ accepts (x ∷ y ∷ z ∷ []) → (a ≡ x) × (b ≡ y) × (c ≡ z)
values_same a b c x y z e =
    let v : a ∷ b ∷ c ∷ [] ≡ x ∷ y ∷ z ∷ [] = ap said_values e in
    (ap (λ (l : List ℕ). get_or l 0 0) v, ap (λ (l : List ℕ). get_or l 1 0) v, ap (λ (l : List ℕ). get_or l 2 0) v)

module _ (q : Question) (l : Lent) (found refused size : ℕ) where
  lists_by : (a : Said) → room_said q (rooms_of l.work) ≡ a
      → accepts (found ∷ refused ∷ size ∷ []) ≡ (stopped a l (listed_of q l)).said
      → (stopped a l (listed_of q l) ≡ listed_of q l) × RoomFor q (rooms_of l.work)
      × (accepts (found ∷ refused ∷ size ∷ []) ≡ (listed_of q l).said)
  lists_by (accepts values) d e = (refl, room_passed q (rooms_of l.work) values d, e)
  lists_by (refuses number values) d e = absurd (not_accepted number values _ (sym e))

  pub lists : accepts (found ∷ refused ∷ size ∷ []) ≡ (search_of q l).said → Lists q l found refused size
  unfolding search_of listed_of listed_said
  lists e =
      let r = lists_by (room_said q (rooms_of l.work)) refl e in
      let t = check_passed (leb (needed_length q) (length l.listing)) 11 (needed_length q ∷ []) _ _ (sym r.2) in
      let v = values_same found refused size (found_in q) (refused_in q) (needed_length q) (sym t.1) in
      record {
        room = r.1;
        found_is = v.0;
        refused_is = v.1;
        size_is = v.2;
        fits = says_true (le_tested (needed_length q) (length l.listing)) t.0;
        written = ap (λ (d : Done). d.lent.listing) r.0 ∙ rw t.0;
      }

-- what a search says depends on its buffers' lengths alone
pub said_is : (q : Question) (l : Lent) → (search_of q l).said ≡ search_said q (rooms_of l.work) (length l.listing)
unfolding search_of search_said listed_of
said_is q l = go (room_said q (rooms_of l.work))
  where
    go : (a : Said) → (stopped a l (listed_of q l)).said ≡ a then listed_said q (length l.listing)
    go (accepts values) = refl
    go (refuses number values) = refl

-- accepted, with room for everything; refused by 11; and back
module _ (q : Question) (r : Rooms) (listing : ℕ) where
  pub search_accepted : RoomFor q r → needed_length q ≤ listing
      → search_said q r listing ≡ accepts (found_in q ∷ refused_in q ∷ needed_length q ∷ [])
  unfolding search_said listed_said
  search_accepted room h = rw (room_passes q r room, le-leb (needed_length q) listing h)

  pub search_short : RoomFor q r → listing < needed_length q → search_said q r listing ≡ refuses 11 (needed_length q ∷ [])
  unfolding search_said listed_said
  search_short room h = rw (room_passes q r room, lt-leb (needed_length q) listing h)

  pub search_passed : (values : List ℕ) → search_said q r listing ≡ accepts values
      → RoomFor q r × (needed_length q ≤ listing)
  unfolding search_said listed_said
  search_passed values e =
      let a = then_both (room_said q r) (listed_said q listing) values e in
      let b = check_passed (leb (needed_length q) listing) 11 (needed_length q ∷ [])
      (accepts (found_in q ∷ refused_in q ∷ needed_length q ∷ [])) values a.1 in
      (room_passed q r a.0.0 a.0.1, says_true (le_tested (needed_length q) listing) b.0)
