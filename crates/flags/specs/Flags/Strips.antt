-- The flag of a window of a strip, found in two ways: from its count and the strip's links, as document 004 has it
-- (`strip_flag`), and from its count and its first end, as the code has it (`end_strip_flag`).
-- Assumes nothing.
use Rattle.std.specs.Prelude.{◌≡◌, refl, List, ℕ, ◌+◌, ◌*◌, ◌<◌, length, get_or, Bool, eqb, ltb}
use Rattle.std.proofs.Common.{sym, ◌∙◌, ap, arith}
use Rattle.theory.specs.Test.{pick, Tested, holds, fails}
use Rattle.theory.specs.Table.{table}
use Rattle.theory.specs.Table.Laws.{table_is}
use Rattle.theory.specs.Match.{is_match, answer_of, Answer, matched, mismatched, first_end}
use Rattle.shapes.specs.Questions.{asked}
use Rattle.cells.specs.Windows.{window_at, window_cells, strip_at}
use Rattle.cells.specs.Windows.Laws.{window_strip, cells-table, corner_row_lem, corner_column_lem}
use Rattle.occurrences.specs.Distinct.{distinct}
use Rattle.grid.specs.Strips.{link, strip_from}
use Rattle.shapes.specs.Shapes.{ShapeOf, across, down}
use Rattle.counts.specs.Counts.{count_in}
use Rattle.counts.specs.Counts.Laws.{window_count_lem, place_lt}
use Rattle.shapes.specs.declared.shapes.Shape.{Shape}
use Rattle.matching.specs.Compare.{cell_of_pattern}
use Rattle.flags.specs.Flags.{Room, window_flag, flag_by}
use Rattle.flags.specs.Flags.Laws.{flag_right, flag_unequal}
use Rattle.linked.specs.Run.{flag_by_end}
use Rattle.linked.specs.Run.Laws.{by_end, by_count}
use Rattle.prefixes.specs.Prefixes.{suffix, first_earlier}
use Rattle.prefixes.specs.Prefixes.Ends.{answer_of_lem}
use Rattle.reach.specs.Reach.Laws.{window_suffix}
use Rattle.theory.specs.Test.Laws.{eq_tested, lt_tested}

-- the flag of window k
abbrev pub flag_of : List ℕ → List ℕ → Shape → ℕ → ℕ
flag_of text pattern s = window_flag (asked text pattern s)

-- the counts buffer has the count of every window
abbrev pub CountsAre : List ℕ → Shape → List ℕ → Type 0
CountsAre text s counts = (k : ℕ) → k < down s * across s → get_or counts k 0 ≡ count_in text s k

-- the links buffer has the links of the strip at column left
abbrev pub LinksAre : List ℕ → Shape → ℕ → List ℕ → Type 0
LinksAre text s left links =
    (p : ℕ) → p < s.rows * s.width → get_or links p 0 ≡ link (strip_at text s.columns left s.width) p

-- what the flags of every strip need: room, the pattern's count, and the counts
pub record Ready (text pattern : List ℕ) (symbols : ℕ) (s : Shape) (counts : List ℕ) (links flags : ℕ) : Type 0 where
  pub room : Room (length text) (length pattern) s links (length counts) flags
  pub symbols_is : symbols ≡ distinct pattern
  pub counts_are : CountsAre text s counts

-- buffers as long as before
pub ready_still : {text pattern : List ℕ} {symbols : ℕ} {s : Shape} {counts : List ℕ} {links flags links' flags' : ℕ}
    → Ready text pattern symbols s counts links flags
    → links' ≡ links → flags' ≡ flags → Ready text pattern symbols s counts links' flags'
ready_still r e f = rw (e, f) r

-- the flag by the first end is the flag
end_flag : (m w : ℕ → ℕ) (n : ℕ)
    → ◌≡◌ {A = ℕ} (pick (ltb (first_end m w n) n) 0 1) (pick (is_match (answer_of m w n)) 1 0)
end_flag m w n =
    go (eqb (m e) (m f)) e f (lt_tested f n)
    ∙ sym (ap (λ (a : Answer). pick (is_match a) 1 0)
    (answer_of_lem m w n f e (record { end_is = refl; earlier_is = refl })))
  where
    f : ℕ
    f = first_end m w n

    e : ℕ
    e = first_earlier m w n

    go : (c : Bool) (q p : ℕ) {P : Type 0} {b : Bool} → Tested P b
        → ◌≡◌ {A = ℕ} (pick b 0 1) (pick (is_match (pick b (mismatched c q p) matched)) 1 0)
    go c q p (holds h) = refl
    go c q p (fails h) = refl

module _ (text pattern : List ℕ) (s : Shape) (left : ℕ) (shape : ShapeOf s (length text)) (strip : left < across s)
    (size : length pattern ≡ s.height * s.width) (top : ℕ) where
  answer_here : ◌≡◌ {A = ℕ}
      (pick
      (is_match (answer_of (cell_of_pattern pattern) (window_at text s.columns top left s.width) (length pattern))) 1 0)
      (flag_of text pattern s (top * across s + left))
  unfolding window_flag
  answer_here = rw (size, corner_row_lem (across s) top left strip, corner_column_lem (across s) top left strip)

  -- the flag from the window's first end
  pub end_flag_here : ◌≡◌ {A = ℕ}
      (pick
      (ltb
      (first_end (cell_of_pattern pattern) (suffix (strip_at text s.columns left s.width) (top * s.width))
      (length pattern))
      (length pattern)) 0 1)
      (flag_of text pattern s (top * across s + left))
  end_flag_here = rw same (end_flag _ _ (length pattern)) ∙ answer_here
    where
      same : suffix (strip_at text s.columns left s.width) (top * s.width)
          ≡ window_at text s.columns top left s.width
      same = window_suffix text (strip_from s.rows s.columns s.width left) top (omega arith)

module _ (text pattern : List ℕ) (symbols : ℕ) (s : Shape) (left : ℕ) (counts : List ℕ)
    (shape : ShapeOf s (length text)) (strip : left < across s) (size : length pattern ≡ s.height * s.width)
    (symbols_is : symbols ≡ distinct pattern) (counts_are : CountsAre text s counts) (top : ℕ) (inside : top < down s)
    (count : ℕ) (count_is : count ≡ get_or counts (top * across s + left) 0) where
  abbrev m : ℕ → ℕ
  m = cell_of_pattern pattern

  abbrev t : ℕ → ℕ
  t = strip_at text s.columns left s.width

  abbrev w : ℕ → ℕ
  w = window_at text s.columns top left s.width

  -- document 004's flag, from the window's count and the strip's links
  pub strip_flag : flag_by m symbols count (λ p. link t (top * s.width + p)) (length pattern)
      ≡ flag_of text pattern s (top * across s + left)
  strip_flag =
      flag_right m w t (top * s.width) (length pattern) symbols count _
      (λ p _. window_strip text s.columns top left s.width p (omega arith))
      (symbols_is ∙ ap distinct (table_is m (length pattern) 0 pattern refl (λ i _. refl)))
      (count_is ∙ counts_are _ (place_lt (across s) (down s) top left strip inside)
      ∙ window_count_lem text s.columns s.height s.width top left strip
      ∙ ap distinct cells)
      (λ e p k. refl)
      ∙ answer_here text pattern s left shape strip size top
    where
      cells : window_cells text s.columns top left s.height s.width ≡ table w (length pattern)
      cells = cells-table text s.columns top left s.height s.width ∙ ap (table w) (sym size)

  -- and the flag from its count and its first end
  pub end_strip_flag : flag_by_end pattern symbols count (suffix t (top * s.width))
      ≡ flag_of text pattern s (top * across s + left)
  end_strip_flag = go (eq_tested count symbols)
    where
      go : {b : Bool} → Tested (count ≡ symbols) b
          → flag_by_end pattern symbols count (suffix t (top * s.width))
          ≡ flag_of text pattern s (top * across s + left)
      go (holds e) = by_end pattern symbols count _ e ∙ end_flag_here text pattern s left shape strip size top
      go (fails n) = by_count pattern symbols count _ n ∙ flag_unequal m symbols count _ (length pattern) n ∙ strip_flag
