-- What Count says and leaves: refused before it begins, everything as it was; else what the windows add up to, with
-- links, counts and flags written.
-- Assumes nothing.
use Rattle.std.specs.Prelude.{Ok, Err, ◌≡◌, [], ℕ}
use Rattle.refusals.specs.Said.{accepts, refusal_said}
use Rattle.refusals.specs.declared.refusals.Refusal.{Refusal}
use Rattle.shapes.specs.Questions.{Question}
use Rattle.flags.specs.Flags.{Work, rooms_of, work_after}
use Rattle.entries.specs.Listing.Totals.{totals_in}
use Rattle.listing.specs.declared.totals.Totals.{Totals}
use Rattle.rooms.specs.Rooms.{room_said}
use Rattle.searched.specs.Search.{count_said, count_done, count_of}

module _ (q : Question) (w : Work) where
  -- refused before it begins
  pub count_stopped : (why : Refusal) → refusal_said why ≡ room_said q (rooms_of w)
      → count_done (Err why) w ≡ count_of q w
  unfolding count_of count_said
  count_stopped why e = rw (← e)

  -- else counted
  pub count_accepts : accepts [] ≡ room_said q (rooms_of w) → (totals : Totals ℕ) (after : Work)
      → after ≡ work_after q w → totals ≡ totals_in q → count_done (Ok totals) after ≡ count_of q w
  unfolding count_of count_said
  count_accepts good totals after e t = rw (← good, e, t)
