-- An enlargement has the symbols of its pattern (`placed_symbols`), since each of its cells shows one of the pattern's
-- (`place_inside`), and each of the pattern's is shown (`laid_shows`).
-- Assumes nothing.
use Rattle.std.specs.Prelude.{◌≡◌, List, ℕ, ◌*◌, ◌<◌, length, get_or}
use Rattle.std.proofs.Common.{sym, ◌∙◌, ap, arith}
use Rattle.std.proofs.Math.Path.{fun_ext}
use Rattle.theory.specs.Test.Laws.{tested_iff, tested_same}
use Rattle.theory.specs.Count.{Entry}
use Rattle.occurrences.specs.Distinct.Sets.{contains_tested}
use Rattle.sets.specs.Symbols.{set_of_symbols, set_of}
use Rattle.placed.specs.Placing.{enlarged, index_at, laid_at, Sound}
use Rattle.placed.specs.Placing.Laws.{enlarged_long, enlarged_cell, place_inside}
use Rattle.placed.specs.Placing.Places.{laid_shows, laid_inside}

module _ {k height width cells by_scale by_width by_block : ℕ}
    (s : Sound k height width cells by_scale by_width by_block) (pattern : List ℕ)
    (size : length pattern ≡ height * width) where
  -- where a symbol of the pattern stands in the enlargement
  entry_on : (v : ℕ) → Entry pattern v → Entry (enlarged pattern k width cells) v
  entry_on v e =
      let p = laid_at k width e.0 in
      let inside : p < cells = omega (arith, laid_inside k width s.scaled s.broad e.0 height (omega (arith, e.1, size)), s.cells_is) in (
        p,
        omega (arith, inside, enlarged_long pattern k width cells),
        sym (enlarged_cell pattern k width cells p inside)
            ∙ ap (λ (i : ℕ). get_or pattern i 0) (laid_shows k width s.scaled s.broad e.0)
            ∙ e.2,
      )

  -- and where one of the enlargement stands in the pattern
  entry_back : (v : ℕ) → Entry (enlarged pattern k width cells) v → Entry pattern v
  entry_back v e =
      let inside : e.0 < cells = omega (arith, e.1, enlarged_long pattern k width cells) in (
        index_at k width e.0,
        omega (arith, place_inside s e.0 inside, size),
        enlarged_cell pattern k width cells e.0 inside ∙ e.2,
      )

  pub placed_symbols : set_of_symbols (enlarged pattern k width cells) ≡ set_of_symbols pattern
  placed_symbols =
      ap set_of (fun_ext (λ v.
      tested_same (contains_tested (enlarged pattern k width cells) v)
      (tested_iff (entry_on v) (entry_back v) (contains_tested pattern v))))
