-- The listing in two passes: the found windows row by row, then the refused ones strip by strip; each at its place, so
-- that together they are all windows in their order. And what the writing of one window asks.
-- Assumes nothing.
use Rattle.std.specs.Prelude.{◌≡◌, Bool, true, false, List, ◌++◌, ◌⊎◌, ℕ, zero, suc, ◌+◌, ◌*◌, ◌≤◌, ◌<◌, eqb, length}
use Rattle.std.specs.Prelude.{get_or}
use Rattle.std.proofs.Common.{sym, ap, ap₂, subst, ◌∙◌, inl, inr, ⊎_elim, eq-eqb, arith}
use Rattle.theory.specs.Test.{pick, Tested, holds, fails}
use Rattle.theory.specs.Test.Laws.{eq_tested, pick_true}
use Rattle.theory.specs.Join.{joined}
use Rattle.theory.specs.Join.Laws.{joined-zero, joined-suc}
use Rattle.cells.specs.Windows.Laws.{corner_row_lem, corner_column_lem}
use Rattle.theory.specs.Count.Laws.{count_le, length-members}
use Rattle.occurrences.specs.Distinct.{contains}
use Rattle.sets.specs.Symbols.{symbols_of}
use Rattle.counts.specs.Counts.Laws.{windows_covered}
use Rattle.shapes.specs.Shapes.{across, down}
use Rattle.shapes.specs.declared.shapes.Shape.{Shape}
use Rattle.shapes.specs.Questions.{asked}
use Rattle.prefixes.specs.Prefixes.{EndIs}
use Rattle.sweep.specs.Sweep.{end_of, earlier_of}
use Rattle.matching.specs.Compare.{cell_of_pattern}
use Rattle.view.specs.Places.{window_of, cell_count}
use Rattle.matching.specs.Windows.{window_place}
use Rattle.cells.specs.declared.windows.WindowPlace.{WindowPlace}
use Rattle.theory.specs.Written.{written}
use Rattle.listing.specs.Entries.{bytes_all}
use Rattle.listing.specs.Entries.Laws.{bytes_none, bytes_append}
use Rattle.entries.specs.Listing.{entry_at, entry_of_window, window_of_strip}
use Rattle.entries.specs.Listing.Length.{length_window}
use Rattle.entries.specs.Listing.Totals.{match_test}
use Rattle.passes.specs.Windows.{Flagged, window_bytes}
use Rattle.listing.specs.Entries.Put.{start_of, start_zero, start_suc, Puts, puts_none, puts_same, puts_then, puts_more}
use Rattle.listing.specs.Entries.Put.{puts_all}

-- the bytes of window k
unfoldable pub piece_of : List ℕ → List ℕ → Shape → ℕ → List ℕ
piece_of text pattern s k = bytes_all (entry_of_window (asked text pattern s) k)

-- window k is one of the windows from `from` on and before `to`, and its flag says found
pub record FoundIn (flags : List ℕ) (from to k : ℕ) : Type 0 where
  pub since : from ≤ k
  pub before : k < to
  pub found : get_or flags k 0 ≡ 1

-- window k is in one of the first n rows of column left, and its flag does not say found
pub record RefusedHere (flags : List ℕ) (wide left n k : ℕ) : Type 0 where
  pub row : ℕ
  pub above : row < n
  pub place : k ≡ row * wide + left
  pub refused : get_or flags k 0 ≡ 1 → ⊥

-- and in one of the columns before left
pub record RefusedIn (flags : List ℕ) (wide tall left k : ℕ) : Type 0 where
  pub column : ℕ
  pub beside : column < left
  pub at_column : RefusedHere flags wide column tall k

-- ---- which windows are written

module _ (piece : ℕ → List ℕ) (size : ℕ) (flags : List ℕ) where
  -- the found ones in their order
  pub none_put : (from to : ℕ) (l : List ℕ) → to ≤ from → Puts piece size (FoundIn flags from to) l l
  none_put from to l h = puts_none piece size (FoundIn flags from to) l (λ k f. none k f)
    where
      none : (k : ℕ) → FoundIn flags from to k → ⊥
      none k f = omega (arith, f.since, f.before)

  pub found_more : (old l : List ℕ) → start_of piece size ≤ length old → (from k to flag at : ℕ) (xs new : List ℕ)
      → Puts piece size (FoundIn flags from k) old l → k < size → to ≡ k + 1 → flag ≡ get_or flags k 0
      → at ≡ start_of piece k → xs ≡ piece k → new ≡ pick (eqb flag 1) (written l at xs) l
      → Puts piece size (FoundIn flags from to) old new
  found_more old l room from k to flag at xs new p h n f a x e = go (eq_tested flag 1) e
    where
      here : (j : ℕ) → FoundIn flags from to j → (j ≡ k → ⊥) → FoundIn flags from k j
      here j g d = record { since = g.since; before = omega (arith, g.before); found = g.found }

      which : (j : ℕ) {b : Bool} → FoundIn flags from to j → Tested (j ≡ k) b → FoundIn flags from k j ⊎ (j ≡ k)
      which j g (holds d) = inr d
      which j g (fails d) = inl (here j g d)

      other : (flag ≡ 1 → ⊥) → (j : ℕ) → FoundIn flags from to j → j ≡ k → ⊥
      other n j g d = n (f ∙ ap (λ (i : ℕ). get_or flags i 0) (sym d) ∙ g.found)

      go : {t : Bool} → Tested (flag ≡ 1) t → new ≡ pick t (written l at xs) l
          → Puts piece size (FoundIn flags from to) old new
      go (holds y) i =
          puts_more piece size (FoundIn flags from k) old l room p (FoundIn flags from to) k at xs new h a x i
          (λ j b g. which j g (eq_tested j k))
      go (fails y) i =
          rw i
          (puts_same piece size (FoundIn flags from k) (FoundIn flags from to) old l p
          (λ j b g. here j g (other y j g)))

  -- the refused ones down a column
  module _ (wide left : ℕ) where
    pub column_refused_none : (l : List ℕ) → Puts piece size (RefusedHere flags wide left 0) l l
    column_refused_none l = puts_none piece size (RefusedHere flags wide left 0) l (λ k f. none k f)
      where
        none : (k : ℕ) → RefusedHere flags wide left 0 k → ⊥
        none k f = omega (arith, f.above)

    module _ (old l : List ℕ) (top : ℕ) (p : Puts piece size (RefusedHere flags wide left top) old l) where
      above_or : (j : ℕ) (g : RefusedHere flags wide left (top + 1) j) {b : Bool} → Tested (g.row ≡ top) b
          → RefusedHere flags wide left top j ⊎ (j ≡ top * wide + left)
      above_or j g (holds d) = inr (g.place ∙ ap (λ (i : ℕ). i * wide + left) d)
      above_or j g (fails d) =
          inl
          (record { row = g.row; above = omega (arith, g.above); place = g.place; refused = g.refused })

      pub column_refused : start_of piece size ≤ length old → (at : ℕ) (xs new : List ℕ) → top * wide + left < size
          → at ≡ start_of piece (top * wide + left) → xs ≡ piece (top * wide + left) → new ≡ written l at xs
          → Puts piece size (RefusedHere flags wide left (top + 1)) old new
      column_refused room at xs new h a x e =
          puts_more piece size (RefusedHere flags wide left top) old l room p (RefusedHere flags wide left (top + 1))
          (top * wide + left) at xs new h a x e (λ j b g. above_or j g (eq_tested g.row top))

      pub column_found : get_or flags (top * wide + left) 0 ≡ 1
          → Puts piece size (RefusedHere flags wide left (top + 1)) old l
      column_found f =
          puts_same piece size (RefusedHere flags wide left top) (RefusedHere flags wide left (top + 1)) old l p
          (λ j b g. ⊎_elim (λ a. a) (λ e. absurd (not_here j g e)) (above_or j g (eq_tested g.row top)))
        where
          not_here : (j : ℕ) → RefusedHere flags wide left (top + 1) j → j ≡ top * wide + left → ⊥
          not_here j g e = g.refused (ap (λ (i : ℕ). get_or flags i 0) e ∙ f)

  -- and column by column
  module _ (wide tall : ℕ) where
    pub columns_none : (l : List ℕ) → Puts piece size (RefusedIn flags wide tall 0) l l
    columns_none l = puts_none piece size (RefusedIn flags wide tall 0) l (λ k f. none k f)
      where
        none : (k : ℕ) → RefusedIn flags wide tall 0 k → ⊥
        none k f = omega (arith, f.beside)

    pub columns_more : (old l new : List ℕ) (left : ℕ) → Puts piece size (RefusedIn flags wide tall left) old l
        → Puts piece size (RefusedHere flags wide left tall) l new
        → Puts piece size (RefusedIn flags wide tall (left + 1)) old new
    columns_more old l new left p q =
        puts_then piece size (RefusedIn flags wide tall left) (RefusedHere flags wide left tall)
        (RefusedIn flags wide tall (left + 1)) old l new p q (λ j b g. which j g (eq_tested g.column left))
      where
        which : (j : ℕ) (g : RefusedIn flags wide tall (left + 1) j) {b : Bool} → Tested (g.column ≡ left) b
            → RefusedIn flags wide tall left j ⊎ RefusedHere flags wide left tall j
        which j g (holds d) = inr (subst (λ (i : ℕ). RefusedHere flags wide i tall j) d g.at_column)
        which j g (fails d) =
            inl (record { column = g.column; beside = omega (arith, g.beside); at_column = g.at_column })

pick_le : (b : Bool) (size : ℕ) → size ≤ 771 → pick b size 7 ≤ 771
pick_le true size h = h
pick_le false size h = omega arith

-- ---- the windows' bytes

module _ (text pattern : List ℕ) (s : Shape) where
  pub pieces_joined : (n : ℕ) → joined (piece_of text pattern s) n
      ≡ bytes_all (joined (entry_of_window (asked text pattern s)) n)
  unfolding piece_of
  pieces_joined zero =
      joined-zero (piece_of text pattern s)
      ∙ sym (ap bytes_all (joined-zero (entry_of_window (asked text pattern s))) ∙ bytes_none)
  pieces_joined (suc n) =
      joined-suc (piece_of text pattern s) n
      ∙ ap (λ (xs : List ℕ). xs ++ piece_of text pattern s n) (pieces_joined n)
      ∙ sym (ap bytes_all (joined-suc (entry_of_window (asked text pattern s)) n)
      ∙ bytes_append (joined (entry_of_window (asked text pattern s)) n) (entry_of_window (asked text pattern s) n))

  pub pieces_length : start_of (piece_of text pattern s) (down s * across s) ≡ length (window_bytes text pattern s)
  unfolding start_of window_bytes
  pieces_length = ap length (pieces_joined (down s * across s))

  -- the found windows and then the refused ones are all windows
  pub windows_all : (flags old l new : List ℕ) → 0 < across s → length (window_bytes text pattern s) ≤ length old
      → Puts (piece_of text pattern s) (down s * across s) (FoundIn flags 0 (down s * across s)) old l
      → Puts (piece_of text pattern s) (down s * across s) (RefusedIn flags (across s) (down s) (across s)) l new
      → new ≡ written old 0 (window_bytes text pattern s)
  unfolding window_bytes
  windows_all flags old l new pos room p q =
      puts_all (piece_of text pattern s) (down s * across s) (λ k. k < down s * across s) old new
      (omega (arith, pieces_length))
      (puts_then (piece_of text pattern s) (down s * across s) (FoundIn flags 0 (down s * across s))
      (RefusedIn flags (across s) (down s) (across s)) (λ k. k < down s * across s) old l new p q
      (λ k h _. which k h (eq_tested (get_or flags k 0) 1))) (λ k h. h)
      ∙ ap (written old 0) (pieces_joined (down s * across s))
    where
      which : (k : ℕ) {b : Bool} → k < down s * across s → Tested (get_or flags k 0 ≡ 1) b
          → FoundIn flags 0 (down s * across s) k ⊎ RefusedIn flags (across s) (down s) (across s) k
      which k h (holds f) = inl (record { since = omega arith; before = h; found = f })
      which k h (fails f) =
          let c = windows_covered s pos in
          let e = c.place k h in
          inr
          (record {
            column = c.row k;
            beside = e.0;
            at_column = record { row = c.column k; above = e.1; place = sym e.2; refused = f };
          })

  -- how many bytes a window has, by its flag
  module _ (flags : List ℕ) (f : Flagged text pattern s flags) (size : ℕ)
      (d : size ≡ 3 + 3 * length (symbols_of pattern)) where
    piece_length : (k : ℕ) → k < down s * across s
        → length (piece_of text pattern s k) ≡ pick (eqb (get_or flags k 0) 1) size 7
    unfolding piece_of
    piece_length k h =
        rw (d, match_test text pattern s flags f.flags_are k h)
        (length_window (asked text pattern s) k)

    pub found_length : (k : ℕ) → k < down s * across s → get_or flags k 0 ≡ 1
        → size ≡ length (piece_of text pattern s k)
    found_length k h e = sym (piece_length k h ∙ pick_true _ _ (eq-eqb _ _ e))

    -- at most 256 symbols are listed, so the place behind a window is a small number
    size_small : size ≤ 771
    size_small = omega (arith, d, length-members (contains pattern) 256, count_le (contains pattern) 256)

    start_small : (k : ℕ) → k ≤ down s * across s → start_of (piece_of text pattern s) k ≤ 771 * k
    start_small zero h = omega (arith, start_zero (piece_of text pattern s))
    start_small (suc k) h =
        omega (
          arith,
          start_suc (piece_of text pattern s) k,
          start_small k (omega arith),
          piece_length k (omega arith),
          pick_le (eqb (get_or flags k 0) 1) size size_small,
        )

    pub found_small : (k : ℕ) → k < down s * across s → start_of (piece_of text pattern s) k + size ≤ 771 * (k + 1)
    found_small k h = omega (arith, start_small k (omega arith), size_small)

  -- ---- the window at row top of a strip

  module _ (left top : ℕ) (beside : left < across s) (v : WindowPlace) (here : v ≡ window_of_strip s left top) where
    pub strip_window : v ≡ window_place s.columns s.height s.width (top * across s + left)
    strip_window =
        here
        ∙ ap₂ (λ (r c : ℕ). record { columns = s.columns; row = r; column = c; height = s.height; width = s.width })
        (sym (corner_row_lem (across s) top left beside)) (sym (corner_column_lem (across s) top left beside))

    pub strip_piece : bytes_all (entry_at text pattern v) ≡ piece_of text pattern s (top * across s + left)
    unfolding piece_of entry_of_window
    strip_piece = ap (λ (u : WindowPlace). bytes_all (entry_at text pattern u)) strip_window

    pub strip_ended : (end earlier : ℕ) → end ≡ end_of text s pattern (top * across s + left)
        → earlier ≡ earlier_of text s pattern (top * across s + left)
        → EndIs (cell_of_pattern pattern) (window_of text v) (cell_count v) end earlier
    unfolding end_of earlier_of
    strip_ended end earlier a b =
        subst (λ (u : WindowPlace). EndIs (cell_of_pattern pattern) (window_of text u) (cell_count u) end earlier)
        (sym strip_window) (record { end_is = a; earlier_is = b })
