-- Document 01's search: one function from what is asked and lent to what is said and left (`search_of`). Beside it the
-- two operations that it is made of, Count (`count_of`) and List (`list_of`), which R-1 of document 02 asks for; that the
-- search is the first followed by the second (`count_then_list`) is `search_parts` of Parts.antt.
-- Assumes nothing.
pub mod Accepted
pub mod Outcome
pub mod Writes
use Rattle.std.specs.Prelude.{List, [], ◌∷◌, ℕ, leb, length, Result, Ok}
use Rattle.refusals.specs.Said.{Said, accepts, refuses, ◌then◌, check, check_with, new_by, buffer_by, answer_said}
use Rattle.refusals.specs.Said.{Filled, filled_by}
use Rattle.shapes.specs.Questions.{Question}
use Rattle.flags.specs.Flags.{Work, working, Rooms, rooms_of, work_after, flags_truth}
use Rattle.entries.specs.Listing.{found_in, refused_in, needed_length, search_listing}
use Rattle.rooms.specs.Rooms.{room_said, flags_room_said}
use Rattle.refusals.specs.declared.refusals.Refusal.{Refusal}
use Rattle.listing.specs.declared.totals.Totals.{Totals}

-- the buffers that a search is lent
pub record Lent : Type 0 where
  pub work : Work
  pub listing : List ℕ

-- by its parts
abbrev pub lend : List ℕ → List ℕ → List ℕ → List ℕ → Lent
lend links counts flags listing = record { work = working links counts flags; listing = listing }

-- what it says, and the buffers then
pub record Done : Type 0 where
  pub said : Said
  pub lent : Lent

-- what the search answers, and Count and List: the windows found and refused, and the length of the listing; or a
-- refusal
abbrev pub Searched : Type 0
Searched = Result (Totals ℕ) Refusal

-- an accepted answer by its numbers
abbrev pub totalling : ℕ → ℕ → ℕ → Searched
totalling found refused size = Ok (record { found = found; refused = refused; length = size })

-- the papers' number and values of an answer: accepted, found, refused and the length; of a refusal its number and
-- what it returns besides
abbrev pub searched_said : Searched → Said
searched_said answer = answer_said (λ (t : Totals ℕ). t.found ∷ t.refused ∷ t.length ∷ []) answer

-- an answer, with the buffers then
abbrev pub done : Searched → Lent → Done
done r l = record { said = searched_said r; lent = l }

-- then 11, which returns the length needed; accepted, found, refused and the length
unfoldable pub listed_said : Question → ℕ → Said
listed_said q listing =
    check_with (leb (needed_length q) listing) 11 (needed_length q ∷ [])
    then accepts (found_in q ∷ refused_in q ∷ needed_length q ∷ [])

-- the search where nothing but 11 is left to ask: links, counts and flags are written under 11 too, the listing is not
unfoldable pub listed_of : Question → Lent → Done
listed_of q l =
    record {
      said = listed_said q (length l.listing);
      lent =
          record {
            work = work_after q l.work;
            listing = buffer_by (listed_said q (length l.listing)) (search_listing q)
                l.listing;
          };
    }

-- a refusal that changes no buffer, or what is done after it
abbrev pub stopped : Said → Lent → Done → Done
stopped (accepts values) l after = after
stopped (refuses number values) l after = record { said = refuses number values; lent = l }

-- the search
unfoldable pub search_of : Question → Lent → Done
search_of q l = stopped (room_said q (rooms_of l.work)) l (listed_of q l)

-- what it says: the buffers' lengths decide
unfoldable pub search_said : Question → Rooms → ℕ → Said
search_said q r listing = room_said q r then listed_said q listing

-- ---- Count

-- what Count says: 2, 3, 4, 9, 10 in this order; accepted, found, refused and the length of the listing
unfoldable pub count_said : Question → Rooms → Said
count_said q r = room_said q r then accepts (found_in q ∷ refused_in q ∷ needed_length q ∷ [])

-- what it says, and links, counts and flags then
pub record Counted : Type 0 where
  pub said : Said
  pub work : Work

-- an answer, with those buffers then
abbrev pub count_done : Searched → Work → Counted
count_done r w = record { said = searched_said r; work = w }

-- Count: accepted, it leaves links, counts and flags as the search does; refused, as they were
unfoldable pub count_of : Question → Work → Counted
count_of q w =
    record { said = count_said q (rooms_of w); work = new_by (count_said q (rooms_of w)) (work_after q w) w }

-- ---- List

-- what List says: 2, 3, 4, then 10 where the flags are fewer than the windows, 16 where they are not the truth, and 11
unfoldable pub list_said : Question → List ℕ → ℕ → Said
list_said q flags listing =
    flags_room_said q (length flags) then check (flags_truth q flags) 16 then listed_said q listing

-- an answer, with the listing's buffer then
abbrev pub list_done : Searched → List ℕ → Filled
list_done r listing = record { said = searched_said r; buffer = listing }

-- List, from flags that it only reads and the listing's buffer: accepted, the listing of the search is written;
-- refused, nothing
unfoldable pub list_of : Question → List ℕ → List ℕ → Filled
list_of q flags listing = filled_by (list_said q flags (length listing)) (search_listing q) listing

-- ---- one after the other

-- a refusal that leaves the listing as it was, or what List does then
abbrev pub list_after : Said → List ℕ → Filled → Filled
list_after (accepts values) listing after = after
list_after (refuses number values) listing after = record { said = refuses number values; buffer = listing }

-- Count and then, where it accepts, List on the flags that it left: what is said last, and every buffer then
unfoldable pub count_then_list : Question → Lent → Done
count_then_list q l =
    let c = count_of q l.work in
    let f = list_after c.said l.listing (list_of q c.work.flags l.listing) in
    record { said = f.said; lent = record { work = c.work; listing = f.buffer } }
