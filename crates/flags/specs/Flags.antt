-- The flag of a window: 1 where the pattern matches it, 0 where it does not. Document 004 finds it from the window's
-- distinct count and the links of its strip, and the two are the same (`flag_right`).
-- Assumes nothing.
pub mod Strips
pub mod Swept
pub mod Laws
use Rattle.std.specs.Prelude.{◌≡◌, Bool, true, List, ℕ, ◌-◌, ◌*◌, ◌≤◌, eqb, ltb, length, get_or}
use Rattle.theory.specs.Test.{pick, both}
use Rattle.theory.specs.First.{every}
use Rattle.theory.specs.Table.{table}
use Rattle.theory.specs.Match.{is_match}
use Rattle.refusals.specs.Said.{over_front}
use Rattle.shapes.specs.Questions.{Question, windows_of, links_needed, sides_of}
use Rattle.counts.specs.Counts.{window_count}
use Rattle.shapes.specs.Shapes.{ShapeOf, across, down}
use Rattle.shapes.specs.declared.shapes.Shape.{Shape}
use Rattle.matching.specs.Questions.{answer_at}

-- the flag of window k
unfoldable pub window_flag : Question → ℕ → ℕ
window_flag q k = pick (is_match (answer_at q k)) 1 0

-- the flags are the truth: for every window its entry is the window's flag
unfoldable pub flags_truth : Question → List ℕ → Bool
flags_truth q flags = every (λ k. eqb (get_or flags k 0) (window_flag q k)) (windows_of q)

-- the count of window k
abbrev pub count_at : Question → ℕ → ℕ
count_at q = window_count q.text.cells q.text.columns q.pattern.rows q.pattern.columns

-- the buffers that the flagging is lent
pub record Work : Type 0 where
  pub links : List ℕ
  pub counts : List ℕ
  pub flags : List ℕ

-- by its parts
abbrev pub working : List ℕ → List ℕ → List ℕ → Work
working links counts flags = record { links = links; counts = counts; flags = flags }

-- how long they are
pub record Rooms : Type 0 where
  pub links : ℕ
  pub counts : ℕ
  pub flags : ℕ

-- by its parts
abbrev pub rooms : ℕ → ℕ → ℕ → Rooms
rooms links counts flags = record { links = links; counts = counts; flags = flags }

-- of buffers that are lent
abbrev pub rooms_of : Work → Rooms
rooms_of w = rooms (length w.links) (length w.counts) (length w.flags)

-- what it leaves in them: as many links 0 as a strip has positions, the count and the flag of every window, and behind
-- them what was there
unfoldable pub work_after : Question → Work → Work
work_after q w =
    working (over_front (table (λ p. 0) (links_needed q)) w.links)
    (over_front (table (count_at q) (windows_of q)) w.counts)
    (over_front (table (window_flag q) (windows_of q)) w.flags)

-- Document 004's flag, which is the same (`flag_right` of Laws.antt).

-- a link d of position p leads out of the window or to a position with the same symbol in the pattern; 0, no link,
-- leads to p itself
abbrev pub link_agrees : (ℕ → ℕ) → ℕ → ℕ → Bool
link_agrees m p d = pick (ltb p d) true (eqb (m (p - d)) (m p))

-- the links l of all positions do
unfoldable pub links_agree : (ℕ → ℕ) → (ℕ → ℕ) → ℕ → Bool
links_agree m l n = every (λ p. link_agrees m p (l p)) n

-- the flag as document 004 finds it
abbrev pub flag_by : (ℕ → ℕ) → ℕ → ℕ → (ℕ → ℕ) → ℕ → ℕ
flag_by m symbols count l n = pick (both (eqb count symbols) (links_agree m l n)) 1 0

-- What the inner functions' contracts cite.

-- sides that were not refused, and buffers with room for all windows and all positions of a strip: links, counts and
-- flags are their lengths
pub record Room (cells pattern_cells : ℕ) (s : Shape) (links counts flags : ℕ) : Type 0 where
  pub shape : ShapeOf s cells
  pub size : pattern_cells ≡ s.height * s.width
  pub links_room : s.rows * s.width ≤ links
  pub counts_room : down s * across s ≤ counts
  pub flags_room : down s * across s ≤ flags

-- the same of a question
abbrev pub RoomFor : Question → Rooms → Type 0
RoomFor q r = Room (length q.text.cells) (length q.pattern.cells) (sides_of q) r.links r.counts r.flags
