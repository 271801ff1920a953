-- 2, 3, 4, 9, 10 in their order: nothing is refused exactly if there is room. The same of 2, 3, 4, 10 for flags alone.
-- Assumes nothing.
use Rattle.std.specs.Prelude.{◌≡◌, Bool, ℕ, ◌≤◌, ◌<◌, leb}
use Rattle.std.proofs.Common.{sym}
use mathlib.Core.List.{List, []}
use borrow.Author.Tests.{le-leb, lt-leb}
use Rattle.theory.specs.Test.{both, Tested}
use Rattle.theory.specs.Test.Laws.{both_tested, le_tested, says_true}
use Rattle.refusals.specs.Said.{accepts, refuses, ◌then◌, check}
use Rattle.refusals.specs.Said.Laws.{then_both, check_passed, check_true}
use Rattle.shapes.specs.Questions.{Question, Posed, shape_said, links_needed, windows_of}
use Rattle.shapes.specs.Questions.Laws.{posed, posed_said}
use Rattle.flags.specs.Flags.{Rooms, RoomFor}
use Rattle.rooms.specs.Rooms.{room_said, flags_room_said}

module _ (q : Question) (w : Rooms) where
  abbrev windows_good : Bool
  windows_good = both (leb (windows_of q) w.counts) (leb (windows_of q) w.flags)

  windows_tested : Tested ((windows_of q ≤ w.counts) × (windows_of q ≤ w.flags)) windows_good
  windows_tested = both_tested (le_tested (windows_of q) w.counts) (le_tested (windows_of q) w.flags)

  -- which refusal is given, where those before it are not
  module _ (shape : shape_said q ≡ accepts []) where
    pub room_links_refused : w.links < links_needed q → refuses 9 [] ≡ room_said q w
    unfolding room_said
    room_links_refused h = rw (shape, lt-leb (links_needed q) w.links h)

    module _ (links : links_needed q ≤ w.links) where
      pub room_counts_refused : w.counts < windows_of q → refuses 10 [] ≡ room_said q w
      unfolding room_said
      room_counts_refused h = rw (shape, le-leb (links_needed q) w.links links, lt-leb (windows_of q) w.counts h)

      pub room_flags_refused : windows_of q ≤ w.counts → w.flags < windows_of q → refuses 10 [] ≡ room_said q w
      unfolding room_said
      room_flags_refused k h =
          rw (
            shape,
            le-leb (links_needed q) w.links links,
            le-leb (windows_of q) w.counts k,
            lt-leb (windows_of q) w.flags h,
          )

      pub room_accepted : windows_of q ≤ w.counts → windows_of q ≤ w.flags → accepts [] ≡ room_said q w
      unfolding room_said
      room_accepted k h =
          rw (
            shape,
            le-leb (links_needed q) w.links links,
            le-leb (windows_of q) w.counts k,
            le-leb (windows_of q)
                w.flags h,
          )

  -- nothing is refused exactly if there is room
  pub room_passed : (returned : List ℕ) → room_said q w ≡ accepts returned → RoomFor q w
  unfolding room_said
  room_passed returned e =
      let a = then_both (shape_said q) (check (leb (links_needed q) w.links) 9 then check windows_good 10) returned e in
      let p = posed q a.0.0 a.0.1 in
      let l = check_passed (leb (links_needed q) w.links) 9 [] (check windows_good 10) returned a.1 in
      let k = says_true windows_tested (check_true windows_good 10 [] returned l.1) in
      record {
        shape = p.shape;
        size = p.size;
        links_room = says_true (le_tested (links_needed q) w.links) l.0;
        counts_room = k.0;
        flags_room = k.1;
      }

  pub room_passes : RoomFor q w → room_said q w ≡ accepts []
  room_passes r =
      sym (room_accepted (posed_said q (record { shape = r.shape; size = r.size })) r.links_room r.counts_room
      r.flags_room)

-- ---- of flags alone

module _ (q : Question) (flags : ℕ) where
  module _ (shape : shape_said q ≡ accepts []) where
    pub flags_room_refused : flags < windows_of q → refuses 10 [] ≡ flags_room_said q flags
    unfolding flags_room_said
    flags_room_refused h = rw (shape, lt-leb (windows_of q) flags h)

    pub flags_room_accepted : windows_of q ≤ flags → accepts [] ≡ flags_room_said q flags
    unfolding flags_room_said
    flags_room_accepted h = rw (shape, le-leb (windows_of q) flags h)

  -- nothing is refused exactly if the question is posed and there is a flag for every window
  pub flags_room_passed : (returned : List ℕ) → flags_room_said q flags ≡ accepts returned
      → Posed q × (windows_of q ≤ flags)
  unfolding flags_room_said
  flags_room_passed returned e =
      let a = then_both (shape_said q) (check (leb (windows_of q) flags) 10) returned e in
      (posed q a.0.0 a.0.1, says_true (le_tested (windows_of q) flags) (check_true _ 10 [] returned a.1))

  pub flags_room_passes : Posed q → windows_of q ≤ flags → flags_room_said q flags ≡ accepts []
  flags_room_passes p h = sym (flags_room_accepted (posed_said q p) h)
