-- A window against the pattern, row by row, with the step of rows: the window is a strip of its own, begun at place 0,
-- so what a part of a row ensures of every strip, it ensures of the window.
-- Assumes nothing.
use Rattle.std.specs.Prelude.{◌≡◌, refl, List, ℕ, ◌+◌, ◌≤◌, ◌<◌, length, get_or, replicate, take, drop}
use Rattle.std.proofs.Common.{sym, ◌∙◌, ap, zero-add, arith}
use Rattle.std.proofs.Math.Path.{fun_ext}
use Rattle.theory.specs.Older.Laws.{older_zeros}
use Rattle.theory.specs.Match.{first_end}
use Rattle.cells.specs.Windows.Laws.{window_at_lem}
use Rattle.cells.specs.declared.windows.WindowPlace.{WindowPlace}
use Rattle.prefixes.specs.Prefixes.{suffix, EndIs}
use Rattle.prefixes.specs.Prefixes.Ends.{ends_inside, ends_nowhere}
use Rattle.prefixes.specs.State.{FirstPlaces, Swept, earlier_distance}
use Rattle.prefixes.specs.State.Laws.{swept_none, swept_found, swept_all, earlier_tells}
use Rattle.rows.specs.Rows.{PartAt, PartMeets, EndsPart}
use Rattle.matching.specs.Compare.{cell_of_pattern}
use Rattle.view.specs.Places.{window_of, cell_count, Placed}
use Rattle.view.specs.Places.Laws.{positions_small}
use Rattle.matching.specs.Compare.Rows.{RowAt, row_start, rows_behind, cells_fit, read_first, read_below}
use Rattle.matching.specs.Compare.Rows.{length_view_row, row_window}

-- a sequence from its beginning on
suffix_whole : (t : ℕ → ℕ) → suffix t 0 ≡ t
suffix_whole t = fun_ext (λ p. ap t (zero-add p))

-- every symbol of a window is a byte
pub window_byte : (text : List ℕ) (v : WindowPlace) → ((k : ℕ) → get_or text k 0 < 256) → (k : ℕ)
    → window_of text v k < 256
window_byte text v bytes k = rw (window_at_lem text v.columns v.row v.column v.width k) (bytes _)

-- i rows of the window agree with the pattern, and from is where the next one begins in the pattern
pub record RowsAgree (text : List ℕ) (v : WindowPlace) (pattern : List ℕ) (i from : ℕ) (last : List ℕ) : Type 0 where
  pub place : RowAt v i (row_start v i) from
  pub swept : Swept (cell_of_pattern pattern) (window_of text v) 0 from last

module _ (text : List ℕ) (v : WindowPlace) (pattern : List ℕ) where
  pub rows_first : (last : List ℕ) → last ≡ replicate 256 0 → RowsAgree text v pattern 0 0 last
  rows_first last e =
      record {
        place = read_first v;
        swept = swept_none (cell_of_pattern pattern) (window_of text v) 0 last (older_zeros (0 + 1) last (omega arith) e);
      }

  -- all rows agree
  pub rows_all : (i from : ℕ) (last : List ℕ) → v.height ≤ i → RowsAgree text v pattern i from last
      → EndIs (cell_of_pattern pattern) (window_of text v) (cell_count v) from 0
  rows_all i from last h here =
      let e : from ≡ cell_count v = rows_behind v i (row_start v i) from h here.place in
      let z : 0 + from ≡ from = zero-add from in
      let s : Swept (cell_of_pattern pattern) (window_of text v) 0 (0 + from) last = rw z here.swept in
      let f : from ≡ first_end (cell_of_pattern pattern) (suffix (window_of text v) 0) from = swept_all _ _ 0 from last s in
      let g : from ≡ first_end (cell_of_pattern pattern) (window_of text v) from = rw (suffix_whole (window_of text v)) at f in
      ends_nowhere _ _ (cell_count v) from 0 (g ∙ ap (first_end (cell_of_pattern pattern) (window_of text v)) e)
      (omega arith) refl

  module _ (placed : Placed text v) (cells_are : length pattern ≡ cell_count v) (first : List ℕ)
      (places : FirstPlaces (cell_of_pattern pattern) (length pattern) first) (i from : ℕ) (last : List ℕ)
      (inside : i < v.height) (here : RowsAgree text v pattern i from last) where
    -- the pattern's row lies in the pattern
    pub row_within : from + v.width ≤ length pattern
    row_within = cells_fit v i (row_start v i) from inside here.place text pattern placed cells_are

    module _ (row : List ℕ) (er : row ≡ take v.width (drop (row_start v i) text)) where
      pub row_long : length row ≡ v.width
      row_long =
          length_view_row v i (row_start v i) from inside here.place text pattern placed cells_are row
          (take v.width (drop from pattern)) er refl

      -- what is asked of the row
      pub row_at : PartAt pattern row 0 v.width first last 0 from
      row_at =
          let z : 0 + from ≡ from = zero-add from in
          record {
            places = places;
            older = rw z here.swept.lasts.older;
            lies = omega (arith, row_long);
            counted = omega (arith, row_within, positions_small text v placed);
            inside = omega (arith, row_within);
            small = omega (arith, row_within, positions_small text v placed);
          }

      module _ (r : ℕ) (last' : List ℕ) (ended : EndsPart pattern row 0 v.width last 0 from r last') where
        meets : PartMeets (window_of text v) pattern row 0 v.width last 0 from
        meets =
            let z : 0 + from ≡ from = zero-add from in
            record {
              row_is = λ j h.
                  ap (λ (k : ℕ). get_or row k 0) (zero-add j)
                  ∙ row_window v i (row_start v i) from inside here.place text pattern placed cells_are row
                  (take v.width (drop from pattern)) er refl j h
                  ∙ ap (window_of text v) (omega arith);
              swept = rw z here.swept;
            }

        agreed : Swept (cell_of_pattern pattern) (window_of text v) 0 (0 + (from + r)) last'
        agreed = ended.passed.swept (window_of text v) meets

        -- one row more
        pub rows_more : v.width ≤ r → RowsAgree text v pattern (i + 1) (from + v.width) last'
        rows_more h =
            let all : 0 + (from + r) ≡ from + v.width = omega (arith, ended.passed.within) in
            record { place = read_below v i from inside here.place; swept = rw all at agreed }

        -- what is read where a mismatch ends
        module _ (h : r < v.width) where
          pub found_inside : from + r < length pattern
          found_inside = omega (arith, row_within)

          pub found_near : (x : ℕ) → get_or last' x 0 ≤ 0 + length pattern
          found_near x = omega (arith, agreed.lasts.older.below x, row_within)

          -- a mismatch ends in this row
          pub rows_found : (x e : ℕ) → x ≡ get_or row r 0 → x < 256
              → e ≡ earlier_distance pattern first 0 (get_or last' x 0) (from + r)
              → EndIs (cell_of_pattern pattern) (window_of text v) (cell_count v) (from + r) e
          rows_found x e ex small ee =
              let w = suffix_whole (window_of text v) in
              let hit = ended.hit (window_of text v) meets h in
              let xt : x ≡ window_of text v (0 + (from + r))
              = ex ∙ ap (λ (k : ℕ). get_or row k 0) (sym (zero-add r)) ∙ meets.row_is r h in
              let n : from + r < cell_count v = omega (arith, row_within) in
              let found : EndIs (cell_of_pattern pattern) (suffix (window_of text v) 0) (cell_count v) (from + r) e =
              ends_inside _ _ (cell_count v) (from + r) e
              (swept_found _ _ 0 (from + r) (cell_count v) last' agreed n hit) n
              (ee ∙ rw xt
              (earlier_tells pattern (window_of text v) (length pattern) 0 (from + r) first last'
              (rw (← xt) small) found_inside places agreed hit)) in
              rw w at found
