-- What an accepted search and an accepted List have in common: a question that is not refused, its totals, and its
-- listing at the front of the buffer (`searched_writes`, `listed_writes`); so that as many first bytes as the length
-- says are the listing (`writes_bytes`). And when List is accepted, by 16 and by 11.
-- Assumes nothing.
use Rattle.std.specs.Prelude.{◌≡◌, true, false, List, [], ◌∷◌, ℕ, ◌≤◌, ◌<◌, leb, length, take}
use Rattle.std.proofs.Common.{sym, ◌∙◌, ap, le-leb}
use Rattle.std.proofs.lemmas.Bool.{lt-leb}
use Rattle.std.proofs.Math.Seq.{take-append_seam}
use Rattle.theory.specs.Bytes.{Bytes}
use Rattle.theory.specs.Test.Laws.{le_tested, says_true}
use Rattle.refusals.specs.Said.{Said, accepts, refuses, ◌then◌, over_front, buffer_by}
use Rattle.refusals.specs.Said.Laws.{then_both, check_passed, same_said, same_buffer}
use Rattle.shapes.specs.Questions.{Question, Posed, windows_of}
use Rattle.flags.specs.Flags.{flags_truth}
use Rattle.entries.specs.Listing.{found_in, refused_in, needed_length, search_listing}
use Rattle.entries.specs.Listing.Length.{length_listing}
use Rattle.rooms.specs.Rooms.{flags_room_said}
use Rattle.rooms.specs.Rooms.Laws.{flags_room_passed, flags_room_passes}
use Rattle.searched.specs.Search.{totalling, Lent, Done, done, listed_said, search_of, list_said, list_done, list_of}
use Rattle.searched.specs.Search.Accepted.{Lists, lists, values_same}

-- the listing of a question that is not refused was written over the front of a buffer, and its totals were answered
pub record Writes (q : Question) (old after : List ℕ) (found refused size : ℕ) : Type 0 where
  pub posed_is : Posed q
  pub found_is : found ≡ found_in q
  pub refused_is : refused ≡ refused_in q
  pub size_is : size ≡ needed_length q
  pub written : after ≡ over_front (search_listing q) old

-- as many first bytes as the length says are the listing
pub writes_bytes : (q : Question) (old after : List ℕ) (found refused size : ℕ) → Bytes q.pattern.cells
    → Writes q old after found refused size → take size after ≡ search_listing q
writes_bytes q old after found refused size bytes w =
    rw (w.written, w.size_is, ← length_listing q bytes) (take-append_seam (search_listing q) _)

-- of an accepted search
pub lists_writes : (q : Question) (l : Lent) (found refused size : ℕ) → Lists q l found refused size
    → Writes q l.listing (search_of q l).lent.listing found refused size
lists_writes q l found refused size a =
    record {
      posed_is = record { shape = a.room.shape; size = a.room.size };
      found_is = a.found_is;
      refused_is = a.refused_is;
      size_is = a.size_is;
      written = a.written;
    }

pub searched_writes : (q : Question) (l after : Lent) (found refused size : ℕ)
    → done (totalling found refused size) after ≡ search_of q l
    → Writes q l.listing after.listing found refused size
searched_writes q l after found refused size is =
    rw (ap (λ (d : Done). d.lent.listing) is)
    (lists_writes q l found refused size (lists q l found refused size (ap (λ (d : Done). d.said) is)))

-- of an accepted List; the flags that it was lent are then the truth, one for each window
pub list_passed : (q : Question) (flags : List ℕ) (listing : ℕ) (values : List ℕ)
    → list_said q flags listing ≡ accepts values
    → Posed q × (windows_of q ≤ length flags) × (flags_truth q flags ≡ true)
    × (needed_length q ≤ listing) × (accepts (found_in q ∷ refused_in q ∷ needed_length q ∷ []) ≡ accepts values)
unfolding list_said listed_said
list_passed q flags listing values e =
    let a = then_both (flags_room_said q (length flags)) _ values e in
    let room = flags_room_passed q (length flags) a.0.0 a.0.1 in
    let t = check_passed (flags_truth q flags) 16 [] (listed_said q listing) values a.1 in
    let s = check_passed (leb (needed_length q) listing) 11 (needed_length q ∷ [])
    (accepts (found_in q ∷ refused_in q ∷ needed_length q ∷ [])) values t.1 in
    (room.0, room.1, t.0, says_true (le_tested (needed_length q) listing) s.0, s.1)

-- and back: where there is a true flag for every window, and room, it is accepted
pub list_accepted : (q : Question) (flags : List ℕ) (listing : ℕ) → Posed q → windows_of q ≤ length flags
    → flags_truth q flags ≡ true → needed_length q ≤ listing
    → list_said q flags listing ≡ accepts (found_in q ∷ refused_in q ∷ needed_length q ∷ [])
unfolding list_said listed_said
list_accepted q flags listing p room t h =
    rw (flags_room_passes q (length flags) p room, t, le-leb (needed_length q) listing h)

-- 16 comes before 11: false flags are refused whatever room there is
pub list_false : (q : Question) (flags : List ℕ) (listing : ℕ) → Posed q → windows_of q ≤ length flags
    → flags_truth q flags ≡ false → list_said q flags listing ≡ refuses 16 []
unfolding list_said
list_false q flags listing p room t = rw (flags_room_passes q (length flags) p room, t)

-- and 11 is given where the flags are the truth
pub list_short : (q : Question) (flags : List ℕ) (listing : ℕ) → Posed q → windows_of q ≤ length flags
    → flags_truth q flags ≡ true → listing < needed_length q
    → list_said q flags listing ≡ refuses 11 (needed_length q ∷ [])
unfolding list_said listed_said
list_short q flags listing p room t h =
    rw (flags_room_passes q (length flags) p room, t, lt-leb (needed_length q) listing h)

pub listed_writes : (q : Question) (flags old after : List ℕ) (found refused size : ℕ)
    → list_done (totalling found refused size) after ≡ list_of q flags old
    → Writes q old after found refused size
unfolding list_of
listed_writes q flags old after found refused size is =
    let said : list_said q flags (length old) ≡ accepts (found ∷ refused ∷ size ∷ []) = sym (same_said is) in
    let a = list_passed q flags (length old) (found ∷ refused ∷ size ∷ []) said in
    let v = values_same found refused size (found_in q) (refused_in q) (needed_length q) (sym a.4) in
    record {
      posed_is = a.0;
      found_is = v.0;
      refused_is = v.1;
      size_is = v.2;
      written = same_buffer is ∙ ap (λ (s : Said). buffer_by s (search_listing q) old) said;
    }
