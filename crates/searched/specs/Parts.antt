-- THE SEARCH IS COUNT FOLLOWED BY LIST (`search_parts`): one equation over number, values and every buffer, for every
-- question and whatever is lent. Why it holds: Count is refused just where the search is before 11, and where it
-- accepts, the flags that it leaves are the truth, so that of List's own refusals 11 alone is left. Hence the search
-- never gives 16 (`search_never_16`), and who calls Count and then List has what the search answers and leaves
-- (`called_in_turn`, `counting_refused`). Then what a reader may ask of the two by themselves.
-- Assumes nothing.
use Rattle.std.specs.Prelude.{Err, ◌≡◌, true, List, [], ◌∷◌, ◌⊎◌, ℕ, ◌+◌, ◌*◌, ◌≤◌, ◌<◌, leb, length, get_or}
use Rattle.std.proofs.Math.Path.{refl}
use Rattle.std.proofs.Common.{sym, ◌∙◌, inl, inr, ⊎_elim, arith}
use Rattle.theory.specs.Test.{both}
use Rattle.theory.specs.Test.Laws.{is_true, says_true, tested_same, tested_iff}
use Rattle.refusals.specs.Said.{Said, accepts, refuses, said_number}
use Rattle.refusals.specs.Said.Laws.{Proper, accepting, check_proper, then_proper, zero_accepts}
use Rattle.refusals.specs.Said.Laws.{then_both, AtMost, none_given, check_at_most, then_at_most, number_at_most}
use Rattle.refusals.specs.declared.refusals.Refusal.{Refusal}
use Rattle.shapes.specs.Questions.{Question, across_of, windows_of, links_needed}
use Rattle.shapes.specs.Questions.Laws.{shape_proper, shape_at_most}
use Rattle.flags.specs.Flags.{Work, RoomFor, Rooms, rooms_of, work_after, flags_truth}
use Rattle.matching.specs.Compare.{MatchesAt}
use Rattle.entries.specs.Listing.{found_in, refused_in, needed_length}
use Rattle.flags.specs.Flags.Laws.{flag_one, flag_is_bit, flags_true_tested, flags_after_long, flags_after_true}
use Rattle.rooms.specs.Rooms.{room_said, flags_room_said}
use Rattle.rooms.specs.Rooms.Laws.{room_passed, room_passes, flags_room_passes}
use Rattle.searched.specs.Search.{totalling, Searched, Lent, done, listed_said, listed_of, search_of, search_said}
use Rattle.searched.specs.Search.{count_said, count_done, count_of, list_said, list_done, list_of, count_then_list}
use Rattle.searched.specs.Search.Accepted.{said_is}
use Rattle.searched.specs.Search.Writes.{list_passed}

-- where Count accepts, the flags that it leaves are the truth
module _ (q : Question) (w : Work) (room : RoomFor q (rooms_of w)) where
  pub flags_left_true : flags_truth q (work_after q w).flags ≡ true
  flags_left_true = is_true (flags_true_tested q (work_after q w).flags) (flags_after_true q w (work_after q w) room refl)

  -- so that List has nothing but 11 to ask
  pub list_goes : (n : ℕ) → list_said q (work_after q w).flags n ≡ listed_said q n
  unfolding list_said
  list_goes n =
      rw (
        flags_room_passes q (length (work_after q w).flags) (record { shape = room.shape; size = room.size })
            (omega (arith, flags_after_long q w (work_after q w) room refl, room.flags_room)),
        flags_left_true,
      )

-- ---- one after the other

pub search_parts : (q : Question) (l : Lent) → search_of q l ≡ count_then_list q l
unfolding search_of count_then_list count_of count_said list_of listed_of
search_parts q l = go (room_said q (rooms_of l.work)) refl
  where
    go : (a : Said) → room_said q (rooms_of l.work) ≡ a → search_of q l ≡ count_then_list q l
    go (accepts values) e =
        rw (e, list_goes q l.work (room_passed q (rooms_of l.work) values e) (length l.listing))
    go (refuses number values) e = rw e

-- who calls Count and then, where it accepts, List with the flags that it left, has what the search answers and leaves
pub called_in_turn : (q : Question) (l : Lent) (first second : Searched) (work : Work) (listing : List ℕ)
    (found refused size : ℕ) → first ≡ totalling found refused size → count_done first work ≡ count_of q l.work
    → list_done second listing ≡ list_of q work.flags l.listing
    → done second (record { work = work; listing = listing }) ≡ search_of q l
unfolding count_then_list
called_in_turn q l first second work listing found refused size e c d = sym (search_parts q l ∙ rw (← c, e, ← d))

-- and where Count refuses, that is the search's answer
pub counting_refused : (q : Question) (l : Lent) (first : Searched) (work : Work) (why : Refusal) → first ≡ Err why
    → count_done first work ≡ count_of q l.work
    → done first (record { work = work; listing = l.listing }) ≡ search_of q l
unfolding count_then_list
counting_refused q l first work why e c = sym (search_parts q l ∙ rw (← c, e))

-- ---- the numbers

-- no refusal of the search has a number above 11
at_most_11 : (q : Question) (r : Rooms) (listing : ℕ) → AtMost 11 (search_said q r listing)
unfolding search_said room_said listed_said
at_most_11 q r listing =
    then_at_most
    (then_at_most (shape_at_most q 11 (omega arith))
    (then_at_most (check_at_most 11 (leb (links_needed q) r.links) 9 [] (omega arith))
    (check_at_most 11 (both (leb (windows_of q) r.counts) (leb (windows_of q) r.flags)) 10 [] (omega arith))))
    (then_at_most (check_at_most 11 (leb (needed_length q) listing) 11 (needed_length q ∷ []) (omega arith)) (none_given _))

pub search_number : (q : Question) (l : Lent) → said_number (search_of q l).said ≤ 11
search_number q l =
    number_at_most 11 (search_of q l).said
    (rw (said_is q l) (at_most_11 q (rooms_of l.work) (length l.listing)))

-- so the search never gives 16
pub search_never_16 : (q : Question) (l : Lent) → said_number (search_of q l).said ≡ 16 → ⊥
search_never_16 q l e = omega (arith, search_number q l, e)

-- no refusal of Count or of List has the number 0
count_proper : (q : Question) (r : Rooms) → Proper (count_said q r)
unfolding count_said room_said
count_proper q r =
    then_proper
    (then_proper (shape_proper q)
    (then_proper (check_proper (leb (links_needed q) r.links) 9 [] (omega arith))
    (check_proper (both (leb (windows_of q) r.counts) (leb (windows_of q) r.flags)) 10 [] (omega arith))))
    (accepting _)

list_proper : (q : Question) (flags : List ℕ) (listing : ℕ) → Proper (list_said q flags listing)
unfolding list_said flags_room_said listed_said
list_proper q flags listing =
    then_proper
    (then_proper (shape_proper q) (check_proper (leb (windows_of q) (length flags)) 10 [] (omega arith)))
    (then_proper (check_proper (flags_truth q flags) 16 [] (omega arith))
    (then_proper (check_proper (leb (needed_length q) listing) 11 (needed_length q ∷ []) (omega arith)) (accepting _)))

-- ---- Count by itself

-- Count accepts exactly where there is room
pub count_passed : (q : Question) (r : Rooms) (values : List ℕ) → count_said q r ≡ accepts values → RoomFor q r
unfolding count_said
count_passed q r values e =
    let a = then_both (room_said q r) (accepts (found_in q ∷ refused_in q ∷ needed_length q ∷ [])) values e in
    room_passed q r a.0.0 a.0.1

pub count_accepted : (q : Question) (r : Rooms) → RoomFor q r
    → count_said q r ≡ accepts (found_in q ∷ refused_in q ∷ needed_length q ∷ [])
unfolding count_said
count_accepted q r room = rw (room_passes q r room)

-- what Count and List answer of one question, where both accept, is the same, whoever made List's flags
pub same_answers : (q : Question) (r : Rooms) (flags : List ℕ) (listing : ℕ) (values other : List ℕ)
    → count_said q r ≡ accepts values → list_said q flags listing ≡ accepts other → accepts values ≡ accepts other
same_answers q r flags listing values other c l =
    sym c ∙ count_accepted q r (count_passed q r values c) ∙ (list_passed q flags listing other l).4

-- ---- the truth of flags, in the words of the request

-- a flag that is the truth is 1 where the pattern matches the window, and 0 where it does not; no other is
pub true_flags : (q : Question) (flags : List ℕ) → flags_truth q flags ≡ true → (row column : ℕ) → column < across_of q
    → row * across_of q + column < windows_of q
    → (MatchesAt q row column × (get_or flags (row * across_of q + column) 0 ≡ 1))
    ⊎ ((MatchesAt q row column → ⊥) × (get_or flags (row * across_of q + column) 0 ≡ 0))
true_flags q flags t row column beside inside =
    let here = says_true (flags_true_tested q flags) t (row * across_of q + column) inside in
    let iff = flag_one q row column beside in
    ⊎_elim (λ one. inl (iff.0 one, here ∙ one)) (λ none. inr ((λ m. one_zero (iff.1 m) none), here ∙ none))
    (flag_is_bit q (row * across_of q + column))
  where
    one_zero : {x : ℕ} → x ≡ 1 → x ≡ 0 → ⊥
    one_zero a b = omega arith

-- and what stands behind the last window's entry counts for nothing
pub flags_behind : (q : Question) (flags other : List ℕ)
    → ((k : ℕ) → k < windows_of q → get_or flags k 0 ≡ get_or other k 0) → flags_truth q flags ≡ flags_truth q other
flags_behind q flags other same =
    tested_same (flags_true_tested q flags)
    (tested_iff (λ all k h. same k h ∙ all k h) (λ all k h. sym (same k h) ∙ all k h) (flags_true_tested q other))

-- ---- number 0

-- where Count's number is 0, it is accepted, with the windows found and refused and the length
pub counting_zero : (q : Question) (w : Work) → said_number (count_of q w).said ≡ 0
    → (count_of q w).said ≡ accepts (found_in q ∷ refused_in q ∷ needed_length q ∷ [])
unfolding count_of
counting_zero q w e =
    let z = zero_accepts (count_said q (rooms_of w)) (count_proper q (rooms_of w)) e in
    count_accepted q (rooms_of w) (count_passed q (rooms_of w) z.0 z.1)

-- and so of List
pub listing_zero : (q : Question) (flags listing : List ℕ) → said_number (list_of q flags listing).said ≡ 0
    → (list_of q flags listing).said ≡ accepts (found_in q ∷ refused_in q ∷ needed_length q ∷ [])
unfolding list_of
listing_zero q flags listing e =
    let z = zero_accepts (list_said q flags (length listing)) (list_proper q flags (length listing)) e in
    z.1 ∙ sym (list_passed q flags (length listing) z.0 z.1).4
