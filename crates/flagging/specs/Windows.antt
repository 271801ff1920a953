-- Laws of the loop over a strip's windows below one that matches: the run stands before each window, and the flags of
-- the windows above it are written (`windows_ask`, `windows_more`); and what a window that matches says
-- (`match_clear`).
-- Assumes nothing.
use Rattle.std.specs.Prelude.{◌≡◌, List, ℕ, ◌+◌, ◌-◌, ◌*◌, ◌≤◌, ◌<◌, length, get_or, set, Bool, ltb}
use Rattle.std.proofs.Common.{◌∙◌, add-one, arith, length-set}
use Rattle.theory.specs.Test.{pick, Tested, holds, fails}
use Rattle.theory.specs.Test.Laws.{lt_tested}
use Rattle.theory.specs.First.Laws.{first_spec}
use Rattle.theory.specs.Match.{ends, first_end}
use Rattle.theory.specs.Store.{stored}
use Rattle.theory.specs.Store.Laws.{stored_more}
use Rattle.shapes.specs.Shapes.{ShapeOf, across, down}
use Rattle.cells.specs.Windows.{strip_at}
use Rattle.shapes.specs.declared.shapes.Shape.{Shape}
use Rattle.occurrences.specs.Distinct.{distinct}
use Rattle.prefixes.specs.Prefixes.{suffix}
use Rattle.prefixes.specs.State.{FirstPlaces}
use Rattle.sweep.specs.Sweep.Runs.{cells_some}
use Rattle.rows.specs.declared.run.FirstEnd.{FirstEnd}
use Rattle.rows.specs.declared.run.Run.{Run}
use Rattle.linked.specs.declared.run.RunFlag.{RunFlag}
use Rattle.flags.specs.Flags.{Room}
use Rattle.flags.specs.Flags.Laws.{strip_part, strip_small}
use Rattle.flags.specs.Flags.Strips.{flag_of, CountsAre, LinksAre, end_flag_here, end_strip_flag}
use Rattle.linked.specs.Run.{ClearTo, LinksFrom, OwnEnds, WindowAsked, WindowFlagged}

-- what the pattern says by itself: the first places of its symbols, and the first ends of its rows from each row on,
-- for strips of n windows
pub record PatternTables (pattern : List ℕ) (width n : ℕ) (first : List ℕ) (own : List FirstEnd) : Type 0 where
  pub places : FirstPlaces (λ k. get_or pattern k 0) (length pattern) first
  pub ends : OwnEnds pattern width n own

-- the flags of n windows of the strip are written
abbrev pub FlagsTo : List ℕ → List ℕ → Shape → ℕ → ℕ → List ℕ → List ℕ → Type 0
FlagsTo text pattern s left n flags₀ flags =
    flags ≡ stored (flag_of text pattern s) (λ top. top * across s + left) n flags₀

-- those of the windows from row from on are written: where those above are, all are
abbrev pub FlaggedBelow : List ℕ → List ℕ → Shape → ℕ → ℕ → List ℕ → List ℕ → Type 0
FlaggedBelow text pattern s left from before after =
    (flags₀ : List ℕ) → FlagsTo text pattern s left from flags₀ before
    → FlagsTo text pattern s left (down s) flags₀ after

-- a text that the counts and the links are of, and whose window above row from matches
pub record StripMeets (text pattern : List ℕ) (symbols : ℕ) (s : Shape) (left from : ℕ) (counts links : List ℕ) : Type 0
  where
    pub shape : ShapeOf s (length text)
    pub symbols_is : symbols ≡ distinct pattern
    pub counts_are : CountsAre text s counts
    pub links_are : LinksAre text s left links
    pub above : ClearTo pattern (strip_at text s.columns left s.width) ((from - 1) * s.width)
        ((from - 1) * s.width + length pattern)

-- the flags from row from on, of whatever text the counts and the links are
pub record StripFlagged (pattern : List ℕ) (symbols : ℕ) (s : Shape) (left from : ℕ)
    (counts links before after : List ℕ) : Type 0 where
  pub long : length after ≡ length before
  pub written : (text : List ℕ) → StripMeets text pattern symbols s left from counts links
      → FlaggedBelow text pattern s left from before after

-- the run stands before the window at row top
pub record WindowsTo (pattern : List ℕ) (symbols : ℕ) (s : Shape) (left from : ℕ) (counts links before : List ℕ)
    (run : Run) (top : ℕ) (flags : List ℕ) : Type 0 where
  pub past : run.row ≤ top
  pub fits : run.reached ≤ run.row * s.width + length pattern
  pub long : length flags ≡ length before
  pub clear : (text : List ℕ) → StripMeets text pattern symbols s left from counts links
      → ClearTo pattern (strip_at text s.columns left s.width) (run.row * s.width) run.reached
  pub written : (text : List ℕ) → StripMeets text pattern symbols s left from counts links → (flags₀ : List ℕ)
      → FlagsTo text pattern s left from flags₀ before → FlagsTo text pattern s left top flags₀ flags

-- ---- a window that matches

-- no mismatch ends in a window whose flag is 1
pub match_clear : (text pattern : List ℕ) (s : Shape) (left top : ℕ) → ShapeOf s (length text) → left < across s
    → length pattern ≡ s.height * s.width → flag_of text pattern s (top * across s + left) ≡ 1
    → ClearTo pattern (strip_at text s.columns left s.width) (top * s.width) (top * s.width + length pattern)
unfolding first_end
match_clear text pattern s left top shape beside size e k h =
    (first_spec (ends m w) (length pattern)).before k
    (omega (arith, whole (lt_tested (first_end m w (length pattern)) (length pattern)) found))
  where
    m : ℕ → ℕ
    m = λ k. get_or pattern k 0

    w : ℕ → ℕ
    w = suffix (strip_at text s.columns left s.width) (top * s.width)

    found : ◌≡◌ {A = ℕ} (pick (ltb (first_end m w (length pattern)) (length pattern)) 0 1) 1
    found = end_flag_here text pattern s left shape beside size top ∙ e

    whole : {b : Bool} → Tested (first_end m w (length pattern) < length pattern) b → ◌≡◌ {A = ℕ} (pick b 0 1) 1
        → length pattern ≤ first_end m w (length pattern)
    whole (holds _) x = absurd (omega (arith, x))
    whole (fails n) x = omega arith

-- ---- the loop

module _ (pattern first : List ℕ) (own : List FirstEnd) (symbols : ℕ) (s : Shape) (left from : ℕ)
    (counts links before : List ℕ)
    (room : Room (s.rows * s.columns) (length pattern) s (length links) (length counts) (length before))
    (beside : left < across s) (tables : PatternTables pattern s.width (down s) first own) where
  module _ (run : Run) (top : ℕ) (flags : List ℕ) (inside : top < down s)
      (here : WindowsTo pattern symbols s left from counts links before run top flags) where
    part : top * s.width + length pattern ≤ s.rows * s.width
    part =
        let v = room.shape in
        omega (arith, strip_part top s.height s.rows s.width (omega arith), room.size)

    pub windows_ask : WindowAsked pattern first own links s.width run top
    windows_ask =
        let v = room.shape in
        record {
          some = cells_some s _ _ room.shape room.size;
          places = tables.places;
          owns = record { long = tables.ends.long; each = λ k l. tables.ends.each k (omega arith) };
          room = omega (arith, part, room.links_room);
          small = omega (arith, part, strip_small s _ room.shape);
          top_small = omega arith;
          past = here.past;
          fits = here.fits;
        }

    module _ (count : ℕ) (ec : count ≡ get_or counts (top * across s + left) 0) (r : RunFlag)
        (got : WindowFlagged pattern symbols count links s.width run top r) where
      -- the links of the window are there
      links_from : (text : List ℕ) → StripMeets text pattern symbols s left from counts links
          → LinksFrom (strip_at text s.columns left s.width) links (top * s.width) (length pattern)
      links_from text m p h = m.links_are (top * s.width + p) (omega (arith, part))

      flag_here : (text : List ℕ) → StripMeets text pattern symbols s left from counts links
          → r.flag ≡ flag_of text pattern s (top * across s + left)
      flag_here text m =
          got.flag_is _ (λ _. links_from text m) (here.clear text m)
          ∙ end_strip_flag text pattern symbols s left counts m.shape beside room.size m.symbols_is
          m.counts_are top inside count ec

      pub windows_more : WindowsTo pattern symbols s left from counts links before r.run (top + 1)
          (set flags (top * across s + left) r.flag)
      windows_more =
          record {
            past = omega (arith, got.past);
            fits = got.fits;
            long = rw length-set here.long;
            clear = λ text m. got.clear _ (λ _. links_from text m) (here.clear text m);
            written = λ text m flags₀ h.
                rw (add-one top)
                (stored_more (flag_of text pattern s) (λ top. top * across s + left) _ _ _ _
                (here.written text m flags₀ h) (flag_here text m));
          }
