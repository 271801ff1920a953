-- By what the search is refused before it begins: the question, then the room for links, counts and flags. List is
-- lent the flags alone of these three.
-- Assumes nothing.
pub mod Laws
use Rattle.std.specs.Prelude.{ℕ, ◌*◌, leb}
use Rattle.theory.specs.Test.{both}
use Rattle.refusals.specs.Said.{Said, ◌then◌, check}
use Rattle.shapes.specs.Questions.{Question, shape_said, links_needed, windows_of}
use Rattle.shapes.specs.Shapes.{windows}
use Rattle.shapes.specs.declared.shapes.Shape.{Shape}
use Rattle.flags.specs.Flags.{Rooms}

-- The room of the sides alone: an enlarged pattern is stored nowhere, and its sides are all that 9 and 10 ask of it.

-- 9: so many links are fewer than a strip has positions
unfoldable pub links_said : Shape → ℕ → Said
links_said s links = check (leb (s.rows * s.width) links) 9

-- 10: so many counts or flags are fewer than there are windows
unfoldable pub windows_said : Shape → ℕ → ℕ → Said
windows_said s counts flags =
    check
    (both (leb (windows s.rows s.columns s.height s.width) counts)
    (leb (windows s.rows s.columns s.height s.width) flags)) 10

-- 2, 3, 4, 9, 10 in this order: of the search, and of Count
unfoldable pub room_said : Question → Rooms → Said
room_said q r =
    shape_said q then check (leb (links_needed q) r.links) 9 then check
    (both (leb (windows_of q) r.counts) (leb (windows_of q) r.flags)) 10

-- 2, 3, 4, and 10 where the flags are fewer than the windows: of List, which is lent no links and no counts
unfoldable pub flags_room_said : Question → ℕ → Said
flags_room_said q flags = shape_said q then check (leb (windows_of q) flags) 10
