-- Laws of a window, part of a row after part of a row: where each part lies in the strip and in the text, that places
-- are small, and that the state goes on over a part that agrees, and ends at one that does not.
-- Assumes nothing.
use Rattle.std.specs.Prelude.{◌≡◌, refl, List, ℕ, ◌+◌, ◌-◌, ◌*◌, ◌≤◌, ◌<◌, length, get_or}
use Rattle.std.proofs.Common.{sym, ◌∙◌, ap, add-zero, zero-add, zero-mul, add-mul, suc-mul, mul-le-mul_right, add-one}
use Rattle.std.proofs.Common.{arith}
use Rattle.std.proofs.Math.Path.{fun_ext}
use Rattle.cells.specs.Windows.{window_at}
use Rattle.cells.specs.Windows.Laws.{window_cell, window_strip}
use Rattle.shapes.specs.Shapes.Laws.{product_le}
use Rattle.grid.specs.Strips.{strip_symbols}
use Rattle.grid.specs.declared.strips.Strip.{Strip}
use Rattle.prefixes.specs.Prefixes.{suffix}
use Rattle.prefixes.specs.Prefixes.Ends.{ends_inside, ends_nowhere}
use Rattle.prefixes.specs.State.{Swept, earlier_distance}
use Rattle.prefixes.specs.State.Laws.{swept_found, swept_all, earlier_tells}
use Rattle.rows.specs.Rows.{PartAt, PartMeets, EndsPart}
use Rattle.reach.specs.Reach.{ReachAt, Reached}

-- a place of the strip, by its row and column
pub strip_cell : (text : List ℕ) (s : Strip) (row j : ℕ) → j < s.width
    → strip_symbols text s (row * s.width + j) ≡ get_or text (row * s.columns + s.left + j) 0
strip_cell text s row j h =
    sym (window_strip text s.columns row s.left s.width j (omega arith))
    ∙ ap (window_at text s.columns row s.left s.width) (sym (rw zero-mul (zero-add j)))
    ∙ window_cell text s.columns row s.left s.width 0 j h
    ∙ rw add-zero

-- the strip from a row on is the window there
pub window_suffix : (text : List ℕ) (s : Strip) (top : ℕ) → 0 < s.width
    → suffix (strip_symbols text s) (top * s.width) ≡ window_at text s.columns top s.left s.width
window_suffix text s top pos = fun_ext (λ p. sym (window_strip text s.columns top s.left s.width p pos))

-- the parts passed: the next one begins in column j of a row of the strip
pub record PartsTo (text : List ℕ) (s : Strip) (pattern : List ℕ) (top height row j : ℕ) (last : List ℕ) : Type 0 where
  pub narrow : j < s.width
  pub within : row * s.width + j ≤ (top + height) * s.width
  pub swept : Swept (λ k. get_or pattern k 0) (strip_symbols text s) (top * s.width) (row * s.width + j) last

module _ (text : List ℕ) (s : Strip) (pattern first last₀ : List ℕ) (top height line₀ j₀ : ℕ)
    (asked : ReachAt text s pattern first last₀ top height line₀ j₀) where
  wide : 0 < s.width
  wide = omega (arith, asked.strip)

  pub stop_is : (top + height) * s.width ≡ top * s.width + height * s.width
  stop_is = add-mul top height s.width

  -- places of the strip are small
  pub stop_small : (top + height) * s.width ≤ 65025
  stop_small =
      omega (
        arith,
        asked.strip,
        asked.down,
        product_le (top + height) s.width 255 255
            (omega (arith, asked.strip, asked.down)) (omega (arith, asked.strip)),
      )

  pub text_small : length text ≤ 65025
  text_small =
      omega (
        arith,
        asked.strip.shape.cells_is,
        product_le s.rows s.columns 255 255
            (omega (arith, asked.strip)) (omega (arith, asked.strip)),
      )

  pub parts_all : (row j : ℕ) (last : List ℕ) → top + height ≤ row → PartsTo text s pattern top height row j last
      → Reached text s pattern top height (record { place = (top + height) * s.width; earlier = 0 }) last
  parts_all row j last h here =
      let low : (top + height) * s.width ≤ row * s.width = mul-le-mul_right s.width h in
      let e : row * s.width + j ≡ (top + height) * s.width = omega (arith, here.within) in
      let p : (top + height) * s.width - top * s.width ≡ height * s.width = omega (arith, stop_is) in
      let sw : Swept (λ k. get_or pattern k 0) (strip_symbols text s) (top * s.width)
      ((top + height) * s.width) last = rw e at here.swept in
      record {
        swept = sw;
        within = omega arith;
        end =
            ends_nowhere _ _ (height * s.width) ((top + height) * s.width - top * s.width) 0
            (p ∙ swept_all _ _ (top * s.width) (height * s.width) last (rw stop_is at sw)) (omega arith) refl;
      }

  module _ (row j : ℕ) (last : List ℕ) (inside : row < top + height)
      (here : PartsTo text s pattern top height row j last) where
    next_row : (row + 1) * s.width ≡ row * s.width + s.width
    next_row = ap (λ (x : ℕ). x * s.width) (add-one row) ∙ suc-mul row s.width

    next_line : (row + 1) * s.columns ≡ row * s.columns + s.columns
    next_line = ap (λ (x : ℕ). x * s.columns) (add-one row) ∙ suc-mul row s.columns

    row_within : (row + 1) * s.width ≤ (top + height) * s.width
    row_within = mul-le-mul_right s.width (omega arith)

    -- the rest of the row lies in the strip and in the text
    pub part_within : row * s.width + j + (s.width - j) ≤ (top + height) * s.width
    part_within = omega (arith, row_within, next_row, here.narrow)

    pub part_inside : row * s.columns + s.left + j + (s.width - j) ≤ length text
    part_inside =
        let down : (row + 1) * s.columns ≤ s.rows * s.columns
        = mul-le-mul_right s.columns (omega (arith, asked.down)) in
        omega (arith, next_line, here.narrow, asked.strip.inside, asked.strip.shape.cells_is)

    at_is : top * s.width + (row * s.width + j - top * s.width) ≡ row * s.width + j
    at_is = let o = here.swept.order in omega arith

    pub part_at :
        PartAt pattern text (row * s.columns + s.left + j) (s.width - j) first last (top * s.width)
        (row * s.width + j - top * s.width)
    part_at =
        record {
          places = asked.places;
          older = rw at_is here.swept.lasts.older;
          lies = part_inside;
          counted = omega (arith, part_inside, text_small);
          inside = omega (arith, here.swept.order, part_within, stop_is, asked.cells);
          small = omega (arith, at_is, part_within, stop_small);
        }

    meets :
        PartMeets (strip_symbols text s) pattern text (row * s.columns + s.left + j) (s.width - j) last
        (top * s.width) (row * s.width + j - top * s.width)
    meets =
        record {
          row_is = λ k h.
              let p : top * s.width + (row * s.width + j - top * s.width + k) ≡ row * s.width + (j + k)
              = omega (arith, at_is) in
              let q : row * s.columns + s.left + j + k ≡ row * s.columns + s.left + (j + k) = omega arith in
              rw (p, strip_cell text s row (j + k) (omega arith), q) refl;
          swept = rw at_is here.swept;
        }

    module _ (r : ℕ) (last' : List ℕ)
        (ended : EndsPart pattern text (row * s.columns + s.left + j) (s.width - j) last (top * s.width)
        (row * s.width + j - top * s.width) r last') where
      place_is : top * s.width + (row * s.width + j - top * s.width + r) ≡ row * s.width + j + r
      place_is = omega (arith, at_is)

      reached : Swept (λ k. get_or pattern k 0) (strip_symbols text s) (top * s.width) (row * s.width + j + r) last'
      reached = rw place_is at (ended.passed.swept (strip_symbols text s) meets)

      -- the next row
      pub parts_more : s.width - j ≤ r → PartsTo text s pattern top height (row + 1) 0 last'
      parts_more h =
          let all : row * s.width + j + r ≡ (row + 1) * s.width + 0
          = omega (arith, ended.passed.within, next_row, here.narrow) in
          record { narrow = wide; within = omega (arith, row_within); swept = rw (← all) reached }

      -- what is read where a mismatch ends
      module _ (h : r < s.width - j) where
        pub found_small : row * s.width + j + r < 65025
        found_small = omega (arith, part_within, stop_small)

        pub found_inside : row * s.width + j - top * s.width + r < length pattern
        found_inside = omega (arith, here.swept.order, part_within, stop_is, asked.cells)

        pub found_near : (x : ℕ) → get_or last' x 0 ≤ row * s.width + j + r
        found_near x = omega (arith, reached.lasts.older.below x)

        -- a mismatch ends in this one
        pub parts_found : (x e : ℕ) → x ≡ get_or text (row * s.columns + s.left + j + r) 0 → x < 256
            → e ≡ earlier_distance pattern first (top * s.width) (get_or last' x 0) (row * s.width + j - top * s.width + r)
            → Reached text s pattern top height (record { place = row * s.width + j + r; earlier = e }) last'
        parts_found x e ex small ee =
            let q : row * s.width + j + r - top * s.width ≡ row * s.width + j - top * s.width + r
            = omega (arith, here.swept.order) in
            let sw : Swept (λ k. get_or pattern k 0) (strip_symbols text s) (top * s.width)
            (top * s.width + (row * s.width + j - top * s.width + r)) last' = rw (← place_is) at reached in
            let hit = ended.hit (strip_symbols text s) meets h in
            let xt : x ≡ strip_symbols text s (top * s.width + (row * s.width + j - top * s.width + r))
            = ex ∙ meets.row_is r h in
            let inside_n : row * s.width + j - top * s.width + r < height * s.width
            = omega (arith, here.swept.order, part_within, stop_is) in
            record {
              swept = reached;
              within = omega (arith, part_within);
              end = rw q
                  (ends_inside _ _ (height * s.width) (row * s.width + j - top * s.width + r) e
                  (swept_found _ _ (top * s.width) (row * s.width + j - top * s.width + r) (height * s.width) last' sw
                  inside_n hit) inside_n
                  (ee ∙ rw xt
                  (earlier_tells pattern (strip_symbols text s) (length pattern) (top * s.width)
                  (row * s.width + j - top * s.width + r) first last' (rw (← xt) small) found_inside asked.places
                  sw hit)));
            }
