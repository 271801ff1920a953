-- Window after window, strip after strip: the flags above are the truth, and so is the next one, or it is not, and then
-- all of them are not. What tells a window's flag: two cells (`refused_flag`), or its first end (`ended_flag`).
-- Assumes nothing.
use Rattle.std.specs.Prelude.{◌≡◌, Bool, true, false, List, ℕ, ◌+◌, ◌*◌, ◌≤◌, ◌<◌, ltb, length, get_or}
use Rattle.std.proofs.Common.{sym, ◌∙◌, ap, arith, lt-ltb}
use Rattle.theory.specs.Test.{pick, Tested, holds, fails}
use Rattle.theory.specs.Test.Laws.{eq_tested, is_true, is_false, says_true, says_false, pick_true}
use Rattle.theory.specs.First.Laws.{every_tested}
use Rattle.theory.specs.Match.Even.{earliest_le}
use Rattle.shapes.specs.Questions.{asked}
use Rattle.shapes.specs.Shapes.{ShapeOf, across, down}
use Rattle.shapes.specs.declared.shapes.Shape.{Shape}
use Rattle.counts.specs.Counts.Laws.{place_lt, windows_covered}
use Rattle.grid.specs.Strips.{strip_symbols}
use Rattle.prefixes.specs.Prefixes.{suffix}
use Rattle.prefixes.specs.Prefixes.Ends.{inside_earlier}
use Rattle.sieve.specs.Sieve.{Differs}
use Rattle.sweep.specs.Sweep.{NextIs, column_strip}
use Rattle.sweep.specs.declared.steps.Step.{Step}
use Rattle.flags.specs.Flags.{flags_truth}
use Rattle.flags.specs.Flags.Laws.{flags_true_tested}
use Rattle.flags.specs.Flags.Strips.{flag_of, end_flag_here}
use Rattle.truth.specs.Truth.{column_true, TrueTo, StripsTrue}

-- ---- one window

module _ (text pattern : List ℕ) (s : Shape) (left : ℕ) (shape : ShapeOf s (length text)) (beside : left < across s)
    (size : length pattern ≡ s.height * s.width) (top : ℕ) where
  -- a mismatch ends in it: its flag is 0
  pub refused_flag : Differs text pattern s left top → 0 ≡ flag_of text pattern s (top * across s + left)
  refused_flag d =
      sym (pick_true 0 1 (lt-ltb _ _ d)) ∙ end_flag_here text pattern s left shape beside size top

  -- it was compared
  module _ (row : ℕ) (r : Step) (last : List ℕ)
      (got : NextIs text (column_strip s left) pattern row top s.height r last) where
    pub ended_flag : ◌≡◌ {A = ℕ} (pick (ltb r.end (length pattern)) 0 1)
        (flag_of text pattern s (top * across s + left))
    ended_flag =
        ap (λ (f : ℕ). pick (ltb f (length pattern)) 0 1) (got.end.end_is ∙ rw size)
        ∙ end_flag_here text pattern s left shape beside size top

    -- where a mismatch ends, its earlier cell is one of the pattern's too
    pub earlier_inside : r.end < length pattern → r.earlier < length pattern
    earlier_inside h =
        omega (
          arith,
          h,
          earliest_le m w r.end,
          inside_earlier m w (s.height * s.width) r.end r.earlier got.end (omega (arith, h, size)),
        )
      where
        m : ℕ → ℕ
        m = λ k. get_or pattern k 0

        w : ℕ → ℕ
        w = suffix (strip_symbols text (column_strip s left)) (top * s.width)

-- ---- one strip

module _ (text pattern : List ℕ) (s : Shape) (left : ℕ) (flags : List ℕ) where
  column_tested : Tested (TrueTo text pattern s left flags (down s)) (column_true text pattern s left flags)
  unfolding column_true
  column_tested =
      every_tested _ (down s)
      (λ top. eq_tested (get_or flags (top * across s + left) 0) (flag_of text pattern s (top * across s + left)))

  pub true_none : TrueTo text pattern s left flags 0
  true_none top h = absurd (omega arith)

  -- one flag more is the truth
  pub true_more : (top : ℕ) → TrueTo text pattern s left flags top
      → get_or flags (top * across s + left) 0 ≡ flag_of text pattern s (top * across s + left)
      → TrueTo text pattern s left flags (top + 1)
  true_more top above here j h = go (eq_tested j top)
    where
      go : {b : Bool} → Tested (j ≡ top) b
          → get_or flags (j * across s + left) 0 ≡ flag_of text pattern s (j * across s + left)
      go (holds e) = rw e here
      go (fails n) = above j (omega arith)

  -- all are
  pub column_all : (n : ℕ) → down s ≤ n → TrueTo text pattern s left flags n
      → true ≡ column_true text pattern s left flags
  column_all n h all = sym (is_true column_tested (λ top l. all top (omega arith)))

  -- one is not
  pub column_wrong : (top : ℕ) → top < down s
      → (get_or flags (top * across s + left) 0 ≡ flag_of text pattern s (top * across s + left) → ⊥)
      → false ≡ column_true text pattern s left flags
  column_wrong top h wrong = sym (is_false column_tested (λ all. wrong (all top h)))

-- ---- all strips

module _ (text pattern : List ℕ) (s : Shape) (flags : List ℕ) where
  pub strips_none : StripsTrue text pattern s flags 0
  strips_none left h = absurd (omega arith)

  -- one strip more
  pub strips_more : (left : ℕ) → StripsTrue text pattern s flags left → true ≡ column_true text pattern s left flags
      → StripsTrue text pattern s flags (left + 1)
  strips_more left before here j h = go (eq_tested j left)
    where
      go : {b : Bool} → Tested (j ≡ left) b → TrueTo text pattern s j flags (down s)
      go (holds e) = rw e (says_true (column_tested text pattern s left flags) (sym here))
      go (fails n) = before j (omega arith)

  pub strips_all : (n : ℕ) → 0 < across s → across s ≤ n → StripsTrue text pattern s flags n
      → true ≡ flags_truth (asked text pattern s) flags
  strips_all n some h all = sym (is_true (flags_true_tested (asked text pattern s) flags) each)
    where
      each : (k : ℕ) → k < down s * across s → get_or flags k 0 ≡ flag_of text pattern s k
      each k l =
          let p = (windows_covered s some).place k l in
          rw (← p.2) (all ((windows_covered s some).row k) (omega (arith, p.0)) ((windows_covered s some).column k) p.1)

  pub strips_wrong : (left : ℕ) → left < across s → false ≡ column_true text pattern s left flags
      → false ≡ flags_truth (asked text pattern s) flags
  strips_wrong left h here =
      sym
      (is_false (flags_true_tested (asked text pattern s) flags)
      (λ all. says_false (column_tested text pattern s left flags) (sym here)
      (λ top l. all (top * across s + left) (place_lt (across s) (down s) top left h l))))
