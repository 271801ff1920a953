-- Laws of inheritance: what is carried follows, and what follows is carried; the window below follows in the rows that
-- are not new.
-- Assumes nothing.
use Rattle.std.proofs.Common.{◌≡◌, Bool, false, List, ℕ, ◌+◌, ◌-◌, ◌*◌, ◌≤◌, ◌<◌, length, get_or, set}
use Rattle.std.proofs.Common.{sym, ◌∙◌, ap, add-mul, zero-mul, mul-le-mul_right, arith, length-set}
use Rattle.std.proofs.Common.{get_or-set_same, get_or-set_other}
use Rattle.theory.specs.Test.{Tested, holds, fails}
use Rattle.theory.specs.Test.Laws.{eq_tested}
use Rattle.theory.specs.First.{First}
use Rattle.theory.specs.First.Laws.{first_spec}
use Rattle.theory.specs.Match.{ends, first_end}
use Rattle.theory.specs.Match.Even.{even_if}
use Rattle.cells.specs.Windows.{window_at, strip_at}
use Rattle.cells.specs.Windows.Laws.{window_strip}
use Rattle.cells.specs.declared.windows.WindowPlace.{WindowPlace}
use Rattle.matching.specs.Compare.{cell_of_pattern}
use Rattle.view.specs.Places.{window_of, cell_count, corner_of}
use Rattle.prefixes.specs.Prefixes.{suffix}
use Rattle.rows.specs.declared.run.FirstEnd.{FirstEnd}
use Rattle.sweep.specs.Sweep.{SidesOf, OwnMismatches}
use Rattle.inheriting.specs.Carries.{Carried}
use Rattle.inheriting.specs.Offsets.{image_from_behind, first_place, Offsets}
use Rattle.inheriting.specs.Offsets.Laws.{first_place_spec}
use Rattle.cells.specs.Windows.Laws.{offset_at}
use Rattle.inheriting.specs.Inheritance.{Follows, own_end_of, OwnEndsMade, Above}

-- a window that is carried follows the pattern
pub carried_follows : (text : List ℕ) (corner : ℕ) (offsets : List ℕ) (m w : ℕ → ℕ) (n : ℕ)
    → Carried text corner offsets m w n → Follows m w n
carried_follows text corner offsets m w n c = record { same = go }
  where
    go : (q p : ℕ) → q < n → p < n → m q ≡ m p → w q ≡ w p
    go q p hq hp e = sym (c.carries q hq) ∙ ap (image_from_behind text corner offsets) e ∙ c.carries p hp

-- and what follows is carried: the first place of a position's symbol stands no later
pub follows_carried : (text : List ℕ) (v : WindowPlace) (pattern offsets : List ℕ) (n : ℕ)
    → Offsets pattern v.columns v.width offsets → n ≤ length pattern
    → Follows (cell_of_pattern pattern) (window_of text v) n
    → Carried text (corner_of v) offsets (cell_of_pattern pattern) (window_of text v) n
follows_carried text v pattern offsets n leads le follows = record { carries = go }
  where
    go : (p : ℕ) → p < n → image_from_behind text (corner_of v) offsets (get_or pattern p 0) ≡ window_of text v p
    go p h =
        let q = first_place pattern (get_or pattern p 0) in
        let f = first_place_spec pattern p (omega arith) in
        ap (λ (x : ℕ). get_or text (corner_of v + x) 0) (leads.lead p (omega arith))
        ∙ offset_at text v.columns v.row v.column v.width q
        ∙ follows.same q p (omega (arith, f.0)) h f.1

-- own ends of all rows are those of the whole pattern, which has no other cells
pub own_ends_all : (pattern : List ℕ) (height width : ℕ) (own : List FirstEnd) → SidesOf pattern height width
    → OwnMismatches pattern width (height * width) height own → OwnEndsMade pattern height width own
own_ends_all pattern height width own sides owns =
    record { long = owns.long; each = λ k h. rw sides.cells (owns.each k h).end_is }

-- ---- the window below

module _ (text pattern : List ℕ) (v : WindowPlace) (above k end : ℕ) (some : 0 < v.width)
    (size : length pattern ≡ cell_count v)
    (known : Follows (cell_of_pattern pattern) (window_at text v.columns above v.column v.width) (cell_count v))
    (over : above < v.row) (gap : k ≡ v.row - above) (short : k < v.height)
    (own : end ≡ own_end_of pattern (k * v.width)) (whole : length pattern - k * v.width ≤ end) where
  -- the rows that are not new
  pub rows_left : (v.height - k) * v.width ≡ length pattern - k * v.width
  rows_left =
      let e : k + (v.height - k) ≡ v.height = omega arith in
      let f : (k + (v.height - k)) * v.width ≡ v.height * v.width = ap (λ (x : ℕ). x * v.width) e in
      omega (arith, f, add-mul k (v.height - k) v.width, size)

  rows_fit : k * v.width ≤ length pattern
  rows_fit =
      let e : k + (v.height - k) ≡ v.height = omega arith in
      let f : (k + (v.height - k)) * v.width ≡ v.height * v.width = ap (λ (x : ℕ). x * v.width) e in
      omega (arith, f, add-mul k (v.height - k) v.width, size)

  -- position p of the window is that one's, k rows further down
  place_same : (p : ℕ) → v.row * v.width + p ≡ above * v.width + (k * v.width + p)
  place_same p =
      let r : above + k ≡ v.row = omega arith in
      let f : (above + k) * v.width ≡ v.row * v.width = ap (λ (x : ℕ). x * v.width) r in
      omega (arith, f, add-mul above k v.width)

  window_lower : (p : ℕ) → window_of text v p
      ≡ window_at text v.columns above v.column v.width (k * v.width + p)
  window_lower p =
      window_strip text v.columns v.row v.column v.width p some
      ∙ ap (strip_at text v.columns v.column v.width) (place_same p)
      ∙ sym (window_strip text v.columns above v.column v.width (k * v.width + p) some)

  -- the pattern's rows from k on have no mismatch with its first rows
  own_clear : (j : ℕ) → j < length pattern - k * v.width
      → ends (cell_of_pattern pattern) (suffix (cell_of_pattern pattern) (k * v.width)) j ≡ false
  unfolding first_end
  own_clear j h =
      let s : First (ends (cell_of_pattern pattern) (suffix (cell_of_pattern pattern) (k * v.width)))
      (length pattern - k * v.width) end =
      rw own (first_spec (ends (cell_of_pattern pattern) (suffix (cell_of_pattern pattern) (k * v.width)))
      (length pattern - k * v.width)) in
      s.before j (omega arith)

  pub follows_lower : Follows (cell_of_pattern pattern) (window_of text v) ((v.height - k) * v.width)
  follows_lower = record { same = go }
    where
      go : (q p : ℕ) → q < (v.height - k) * v.width → p < (v.height - k) * v.width
          → cell_of_pattern pattern q ≡ cell_of_pattern pattern p → window_of text v q ≡ window_of text v p
      go q p hq hp e =
          let a =
          even_if (cell_of_pattern pattern) (suffix (cell_of_pattern pattern) (k * v.width)) (length pattern - k *
          v.width)
          own_clear q p (omega (arith, rows_left)) (omega (arith, rows_left)) in
          window_lower q
          ∙ known.same (k * v.width + q) (k * v.width + p) (omega (arith, rows_left, rows_fit, size))
          (omega (arith, rows_left, rows_fit, size)) (a.there e)
          ∙ sym (window_lower p)

-- ---- from window to window

module _ (text pattern : List ℕ) (columns height width : ℕ) (own : List FirstEnd)
    (tops : List ℕ) (here : Above text pattern columns height width own tops) where
  -- the own ends are made
  pub above_made : (made : List FirstEnd) → OwnEndsMade pattern height width made
      → Above text pattern columns height width made tops
  above_made made ends =
      record {
        sides = here.sides;
        narrow = here.narrow;
        tops_are = here.tops_are;
        owned = record { long = ends.long; made = λ _. ends };
      }

  -- one more window follows
  pub above_more : (row column : ℕ) → column < columns
      → Follows (cell_of_pattern pattern) (window_at text columns row column width) (height * width)
      → Above text pattern columns height width own (set tops column (row + 1))
  above_more row column inside follows =
      record {
        sides = here.sides;
        narrow = here.narrow;
        tops_are = record {
          long = rw length-set here.tops_are.long;
          each = λ j r l. go j r l (eq_tested j column);
        };
        owned = here.owned;
      }
    where
      go : (j r : ℕ) {t : Bool} → get_or (set tops column (row + 1)) j 0 ≡ r + 1 → Tested (j ≡ column) t
          → Follows (cell_of_pattern pattern) (window_at text columns r j width) (height * width)
      go j r l (holds e) =
          let s : get_or (set tops column (row + 1)) column 0 ≡ row + 1 =
          get_or-set_same tops column (row + 1) 0 (omega (arith, here.tops_are.long, here.narrow)) in
          let m : get_or (set tops column (row + 1)) column 0 ≡ r + 1 = rw e at l in
          let b : r ≡ row = omega (arith, s, m) in
          rw (e, b) follows
      go j r l (fails d) =
          here.tops_are.each j r (sym (get_or-set_other tops column j (row + 1) 0 d) ∙ l)

-- ---- small numbers

-- the positions of the rows above row k
pub rows_above : (v : WindowPlace) (k : ℕ) → k ≤ v.height → k * v.width ≤ cell_count v
rows_above v k h = mul-le-mul_right v.width h

-- no row has to follow
pub follows_none : (m w : ℕ → ℕ) (width : ℕ) → Follows m w (0 * width)
follows_none m w width = record { same = λ q p h. absurd (none q h) }
  where
    none : (q : ℕ) → q < 0 * width → ⊥
    none q h = omega (arith, zero-mul width)
