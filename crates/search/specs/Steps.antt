-- The search where nothing but 11 is left to ask is its two steps: what the first leaves in links, counts and flags,
-- and what the second says and leaves in the listing.
-- Assumes nothing.
use Rattle.std.specs.Prelude.{◌≡◌, List, ℕ, length}
use Rattle.std.proofs.Common.{arith}
use Rattle.refusals.specs.Said.{filled_by}
use Rattle.refusals.specs.Said.Laws.{same_said, same_buffer}
use Rattle.shapes.specs.Questions.{Question, asked}
use Rattle.shapes.specs.declared.shapes.Shape.{Shape}
use Rattle.flags.specs.Flags.{Work, RoomFor, rooms_of, work_after}
use Rattle.flags.specs.Flags.Laws.{flags_after_long, flags_after_true}
use Rattle.passes.specs.Windows.{Flagged}
use Rattle.entries.specs.Listing.{search_listing}
use Rattle.searched.specs.Search.{Searched, Lent, done, listed_said, listed_of, list_done}

-- the flags that the first leaves are the flags of all windows
pub flagged_after : (text pattern : List ℕ) (s : Shape) (w after : Work)
    → RoomFor (asked text pattern s) (rooms_of w) → after ≡ work_after (asked text pattern s) w
    → Flagged text pattern s after.flags
flagged_after text pattern s w after room is =
    record {
      shape = room.shape;
      size = room.size;
      flags_room =
          omega (arith, flags_after_long (asked text pattern s) w after room is, room.flags_room);
      flags_are = flags_after_true (asked text pattern s) w after room is;
    }

-- and both together are the search
pub steps_joined : (q : Question) (l : Lent) (work : Work) (r : Searched) (listing : List ℕ)
    → work ≡ work_after q l.work
    → list_done r listing ≡ filled_by (listed_said q (length l.listing)) (search_listing q) l.listing
    → done r (record { work = work; listing = listing }) ≡ listed_of q l
unfolding listed_of
steps_joined q l work r listing e f = rw (e, same_said f, same_buffer f)
