-- The listing window by window: what the writing of every window needs.
-- Assumes nothing.
use Rattle.std.specs.Prelude.{◌≡◌, List, ℕ, ◌*◌, ◌≤◌, ◌<◌, length, get_or}
use Rattle.std.proofs.Common.{sym, subst}
use Rattle.theory.specs.Join.{joined}
use Rattle.shapes.specs.Questions.{asked}
use Rattle.shapes.specs.Shapes.{ShapeOf, across, down}
use Rattle.shapes.specs.declared.shapes.Shape.{Shape}
use Rattle.view.specs.Places.{Placed}
use Rattle.matching.specs.Windows.{window_place}
use Rattle.matching.specs.Windows.Laws.{placed_window, small_window}
use Rattle.cells.specs.declared.windows.WindowPlace.{WindowPlace}
use Rattle.listing.specs.Entries.{bytes_all}
use Rattle.flags.specs.Flags.{window_flag}
use Rattle.flags.specs.Flags.Strips.{flag_of}
use Rattle.entries.specs.Listing.{entry_of_window}
use Rattle.entries.specs.Listing.Offsets.{pair_places}
use Rattle.entries.specs.declared.offsets.PairPlace.{PairPlace}
use Rattle.entries.specs.Listing.Entries.{Answered, Unmatched, flag_unmatched}

-- sides that were not refused, and the flag of every window
pub record Flagged (text pattern : List ℕ) (s : Shape) (flags : List ℕ) : Type 0 where
  pub shape : ShapeOf s (length text)
  pub size : length pattern ≡ s.height * s.width
  pub flags_room : down s * across s ≤ length flags
  pub flags_are : (k : ℕ) → k < down s * across s → get_or flags k 0 ≡ flag_of text pattern s k

-- ---- window k lies in the text, and its flag says its answer

pub view_placed : (text pattern : List ℕ) (s : Shape) (flags : List ℕ) → Flagged text pattern s flags → (k : ℕ)
    → k < down s * across s → (v : WindowPlace) → v ≡ window_place s.columns s.height s.width k → Placed text v
view_placed text pattern s flags f k h v e =
    subst (λ (u : WindowPlace). Placed text u) (sym e) (placed_window text s f.shape k h)

module _ (text pattern : List ℕ) (s : Shape) (flags : List ℕ) (pairs : List PairPlace)
    (f : Flagged text pattern s flags) (g : pairs ≡ pair_places pattern s.columns s.width)
    (k : ℕ) (h : k < down s * across s) where
  answered_here :
      Answered text (window_place s.columns s.height s.width k) pattern (get_or flags k 0) pairs
  unfolding window_flag
  answered_here =
      record {
        small = small_window text s f.shape k h;
        size = f.size;
        flag_is = f.flags_are k h;
        pairs_are = g;
      }

  pub answered : (v : WindowPlace) → v ≡ window_place s.columns s.height s.width k
      → Answered text v pattern (get_or flags k 0) pairs
  answered v e =
      subst (λ (u : WindowPlace). Answered text u pattern (get_or flags k 0) pairs) (sym e) answered_here

-- and where its flag does not say found, the pattern does not match it
module _ (text pattern : List ℕ) (s : Shape) (flags : List ℕ) (f : Flagged text pattern s flags) (k : ℕ)
    (h : k < down s * across s) (refused : get_or flags k 0 ≡ 1 → ⊥) where
  unmatched_here : Unmatched text (window_place s.columns s.height s.width k) pattern
  unfolding window_flag
  unmatched_here =
      record {
        small = small_window text s f.shape k h;
        size = f.size;
        none = flag_unmatched text _ pattern (get_or flags k 0) (f.flags_are k h) refused;
      }

  pub unmatched : (v : WindowPlace) → v ≡ window_place s.columns s.height s.width k → Unmatched text v pattern
  unmatched v e = subst (λ (u : WindowPlace). Unmatched text u pattern) (sym e) unmatched_here

-- ---- the bytes

-- the bytes of all windows
unfoldable pub window_bytes : List ℕ → List ℕ → Shape → List ℕ
window_bytes text pattern s = bytes_all (joined (entry_of_window (asked text pattern s)) (down s * across s))
