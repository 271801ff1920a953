-- What the steps of flagging leave in the buffers: every window's count and flag in order, as many links 0 as a strip
-- has positions, and behind them what was there.
-- Assumes nothing.
use Rattle.std.specs.Prelude.{◌≡◌, List, ◌++◌, ℕ, ◌+◌, ◌*◌, ◌≤◌, ◌<◌, length, drop, take, replicate}
use Rattle.std.proofs.Common.{sym, ◌∙◌, ap, arith, length-append, length-drop, length-take}
use Rattle.std.proofs.Math.ListN.{get_or-append}
use Rattle.std.proofs.lemmas.List.{length-replicate, get_or-replicate}
use Rattle.theory.specs.Table.{table}
use Rattle.theory.specs.Table.Laws.{length-table, get_or-table, table_is}
use Rattle.theory.specs.Store.{stored_rows}
use Rattle.theory.specs.Store.Laws.{rows_all}
use Rattle.refusals.specs.Said.{over_front}
use Rattle.shapes.specs.Shapes.{ShapeOf, across, down}
use Rattle.counts.specs.Counts.{count_in, counts_of}
use Rattle.counts.specs.Counts.Laws.{counts_accepted, counts_after, windows_covered}
use Rattle.shapes.specs.declared.shapes.Shape.{Shape}
use Rattle.shapes.specs.Questions.{asked}
use Rattle.flags.specs.Flags.{Work, working, work_after}
use Rattle.flags.specs.Flags.Strips.{CountsAre, flag_of}
use Rattle.flagging.specs.Links.{RestKept}

-- the first n entries of a buffer
buffer_table : (f : ℕ → ℕ) (n : ℕ) (l : List ℕ) → over_front (table f n) l ≡ table f n ++ drop n l
buffer_table f n l = ap (λ (k : ℕ). table f n ++ drop k l) (length-table f n)

-- ---- counts

module _ (text : List ℕ) (s : Shape) (counts after : List ℕ) (shape : ShapeOf s (length text))
    (room : down s * across s ≤ length counts)
    (is : after ≡ (counts_of text s counts).buffer) where
  after_is : after ≡ table (count_in text s) (down s * across s) ++ drop (down s * across s) counts
  after_is =
      is
      ∙ counts_after text s counts
      (sym (counts_accepted text s (length counts) shape room))

  pub counts_there : CountsAre text s after
  counts_there k h =
      rw after_is
      (get_or-append (table (count_in text s) (down s * across s)) (drop (down s * across s) counts) 0 k
      (omega (arith, length-table (count_in text s) (down s * across s)))
      ∙ get_or-table (count_in text s) (down s * across s) k 0 h)

  pub counts_long : length after ≡ length counts
  counts_long =
      ap length after_is
      ∙ length-append (table (count_in text s) (down s * across s)) (drop (down s * across s) counts)
      ∙ omega (arith, length-table (count_in text s) (down s * across s), length-drop (down s * across s) counts)

  -- the counts of all windows, and the rest as it was
  pub counts_over : after ≡ over_front (table (count_in text s) (down s * across s)) counts
  counts_over = after_is ∙ sym (buffer_table (count_in text s) (down s * across s) counts)

-- all three
pub marks_over : (text pattern : List ℕ) (s : Shape) (w after : Work)
    → after.links ≡ over_front (table (λ p. 0) (s.rows * s.width)) w.links
    → after.counts ≡ over_front (table (count_in text s) (down s * across s)) w.counts
    → after.flags ≡ over_front (table (flag_of text pattern s) (down s * across s)) w.flags
    → after ≡ work_after (asked text pattern s) w
unfolding work_after
marks_over text pattern s w after a b c = ap₃ working a b c
  where
    ap₃ : (f : List ℕ → List ℕ → List ℕ → Work) {a b c x y z : List ℕ} → a ≡ x → b ≡ y → c ≡ z → f a b c ≡ f x y z
    ap₃ f e g h = rw (e, g, h)

-- ---- flags

pub flags_over : (text pattern : List ℕ) (s : Shape) (flags after : List ℕ) → 0 < across s
    → down s * across s ≤ length flags
    → after ≡ stored_rows (flag_of text pattern s) (λ left top. top * across s + left) (across s) (down s) flags
    → after ≡ over_front (table (flag_of text pattern s) (down s * across s)) flags
flags_over text pattern s flags after pos room e =
    e
    ∙ rows_all (flag_of text pattern s) (λ left top. top * across s + left) (down s) (across s) (down s * across s)
    flags (windows_covered s pos) room
    ∙ sym (buffer_table (flag_of text pattern s) (down s * across s) flags)

-- ---- links

-- the first n entries are 0, and behind them none was used
pub links_over : (n : ℕ) (links used front : List ℕ) → n ≤ length links → RestKept n links used
    → front ≡ replicate {A = ℕ} (length (take n used)) 0 → front ++ drop n used ≡ over_front (table (λ p. 0) n) links
links_over n links used front room kept e =
    ap (λ (l : List ℕ). l ++ drop n used) (e ∙ zeros)
    ∙ ap (λ (r : List ℕ). table (λ p. 0) n ++ r) kept.behind
    ∙ sym (buffer_table (λ p. 0) n links)
  where
    long : length (take n used) ≡ n
    long = omega (arith, length-take {A = ℕ}, kept.long)

    zeros : replicate {A = ℕ} (length (take n used)) 0 ≡ table (λ p. 0) n
    zeros =
        table_is (λ p. 0) n 0 _ (length-replicate {A = ℕ} _ 0 ∙ long)
        (λ i h. get_or-replicate {A = ℕ} _ i 0 0 (omega (arith, long)))
