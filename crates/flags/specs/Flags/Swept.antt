-- The flags of a strip's windows down to one that matches, by the sweep: the flag of a window that its count or a
-- pair of cells tells is 0, and that of any other follows from its first end (`told_by_count`, `told_by_pairs`,
-- `told_by_end`); window after window (`swept_first`, `swept_more`, `swept_to_match`).
-- Assumes nothing.
use Rattle.std.specs.Prelude.{◌≡◌, List, ℕ, ◌+◌, ◌-◌, ◌*◌, ◌≤◌, ◌<◌, ltb, length, get_or, set}
use Rattle.std.proofs.Common.{sym, ◌∙◌, ap, add-one, arith, lt-ltb, get_or-set_same}
use Rattle.theory.specs.Test.{pick}
use Rattle.theory.specs.Test.Laws.{pick_true}
use Rattle.theory.specs.Older.{Older}
use Rattle.theory.specs.Store.{stored}
use Rattle.theory.specs.Store.Laws.{stored_none, stored_more, length-stored}
use Rattle.shapes.specs.Shapes.{across, down}
use Rattle.cells.specs.Windows.{strip_at}
use Rattle.counts.specs.Counts.Laws.{place_lt}
use Rattle.shapes.specs.declared.shapes.Shape.{Shape}
use Rattle.prefixes.specs.Prefixes.{suffix}
use Rattle.sweep.specs.Sweep.{OwnSoFar, NextIs, RunAt, SweepAt, column_strip}
use Rattle.sweep.specs.Sweep.Runs.{run_first}
use Rattle.rows.specs.declared.run.FirstEnd.{FirstEnd}
use Rattle.rows.specs.declared.run.Run.{Run}
use Rattle.sweep.specs.declared.steps.Step.{Step}
use Rattle.sieve.specs.Sieve.{Differs}
use Rattle.linked.specs.Run.{flag_by_end}
use Rattle.linked.specs.Run.Laws.{by_end, by_count}
use Rattle.flags.specs.Flags.Strips.{flag_of, Ready, end_strip_flag}

-- the flags of n windows of the strip at column left are written, and where there are more windows the last of them
-- matches
pub record ToMatch (text pattern : List ℕ) (s : Shape) (left n : ℕ) (flags₀ flags : List ℕ) : Type 0 where
  pub within : n ≤ down s
  pub written : flags ≡ stored (flag_of text pattern s) (λ top. top * across s + left) n flags₀
  pub some : n < down s → 1 ≤ n
  pub last_matches : n < down s → flag_of text pattern s ((n - 1) * across s + left) ≡ 1

-- the run stands before the window at row top, and the flags above it are written
pub record SweptTo (text pattern : List ℕ) (s : Shape) (left : ℕ) (flags₀ last : List ℕ) (own : List FirstEnd)
    (run : Run) (top : ℕ) (flags : List ℕ) : Type 0 where
  pub at_run : RunAt text (column_strip s left) pattern last run top s.height
  pub owns : OwnSoFar pattern s.width (down s) own
  pub written : flags ≡ stored (flag_of text pattern s) (λ top. top * across s + left) top flags₀

-- ---- one window

module _ (text pattern : List ℕ) (symbols count : ℕ) (s : Shape) (left top : ℕ) where
  abbrev w : ℕ → ℕ
  w = suffix (strip_at text s.columns left s.width) (top * s.width)

  pub told_by_count : (count ≡ symbols → ⊥) → 0 ≡ flag_by_end pattern symbols count w
  told_by_count n = sym (by_count pattern symbols count w n)

  module _ (e : count ≡ symbols) where
    pub told_by_pairs : Differs text pattern s left top → 0 ≡ flag_by_end pattern symbols count w
    told_by_pairs d = sym (by_end pattern symbols count w e ∙ pick_true 0 1 (lt-ltb _ _ d))

    pub told_by_end : (row flag : ℕ) (r : Step) (last : List ℕ) → length pattern ≡ s.height * s.width
        → NextIs text (column_strip s left) pattern row top s.height r last
        → flag ≡ pick (ltb r.end (length pattern)) 0 1 → flag ≡ flag_by_end pattern symbols count w
    told_by_end row flag r last size got is =
        is
        ∙ ap (λ (f : ℕ). pick (ltb f (length pattern)) 0 1) (got.end.end_is ∙ rw size)
        ∙ sym (by_end pattern symbols count w e)

-- ---- window after window

module _ (text pattern : List ℕ) (symbols : ℕ) (s : Shape) (left : ℕ) (counts flags₀ : List ℕ)
    (ready : Ready text pattern symbols s counts (s.rows * s.width) (length flags₀)) (beside : left < across s) where
  pub swept_first : (first last : List ℕ) (own : List FirstEnd) → SweepAt text s pattern first own → Older 1 last
      → SweptTo text pattern s left flags₀ last own (record { row = 0; reached = 0 }) 0 flags₀
  swept_first first last own asked o =
      record {
        at_run = run_first text s pattern first own left asked beside last o;
        owns = asked.owns;
        written = sym (stored_none _ _ flags₀);
      }

  module _ (last : List ℕ) (own : List FirstEnd) (run : Run) (top : ℕ) (flags : List ℕ) (inside : top < down s)
      (here : SweptTo text pattern s left flags₀ last own run top flags) (count flag : ℕ)
      (ec : count ≡ get_or counts (top * across s + left) 0)
      (is : flag
      ≡ flag_by_end pattern symbols count (suffix (strip_at text s.columns left s.width) (top * s.width)))
    where
      flag_here : flag ≡ flag_of text pattern s (top * across s + left)
      flag_here =
          is
          ∙ end_strip_flag text pattern symbols s left counts ready.room.shape beside ready.room.size
          ready.symbols_is ready.counts_are top inside count ec

      pub flag_written : set flags (top * across s + left) flag
          ≡ stored (flag_of text pattern s) (λ top. top * across s + left) (top + 1) flags₀
      flag_written =
          rw (add-one top)
          (stored_more (flag_of text pattern s) (λ top. top * across s + left) _ _ _ _ here.written flag_here)

      pub swept_more : (last' : List ℕ) (own' : List FirstEnd) (run' : Run)
          → RunAt text (column_strip s left) pattern last' run' (top + 1) s.height
          → OwnSoFar pattern s.width (down s) own'
          → SweptTo text pattern s left flags₀ last' own' run' (top + 1) (set flags (top * across s + left) flag)
      swept_more last' own' run' at_run owns = record { at_run = at_run; owns = owns; written = flag_written }

      -- a flag that was read back and is 1
      pub swept_to_match : get_or (set flags (top * across s + left) flag) (top * across s + left) 0 ≡ 1
          → ToMatch text pattern s left (top + 1) flags₀ (set flags (top * across s + left) flag)
      swept_to_match e =
          let back : top + 1 - 1 ≡ top = omega arith in
          record {
            within = omega arith;
            written = flag_written;
            some = λ _. omega arith;
            last_matches = λ _. rw back (sym flag_here ∙ sym (get_or-set_same flags _ flag 0 place) ∙ e);
          }
        where
          long : length flags ≡ length flags₀
          long = ap length here.written ∙ length-stored _ _ top flags₀

          place : top * across s + left < length flags
          place = omega (arith, long, place_lt (across s) (down s) top left beside inside, ready.room.flags_room)
