-- `writing::write_windows` meets its contract: the found windows, whose pairs are read by the table, and then the
-- refused ones are all windows (`windows_all`).
-- Assumes nothing.
use Rattle.std.proofs.Common.{◌≤◌, ◌+◌, ◌*◌, List, ℕ, length, sym, ap, ◌∙◌, rules, arith}
use Rattle.std.proofs.lemmas.List.{length-take-le}
use Rattle.theory.specs.Older.Laws.{zeros_long}
use Rattle.sets.specs.Symbols.Patterns.{listed_few}
use Rattle.passes.specs.Strips.{pieces_length, windows_all}
use Rattle.writer.specs.Whole.{pattern_fits}
use Rattle.writer.proofs.writing.write_windows.Goals as goal
use Rattle.writer.proofs.writing.write_windows.Goals.{After-list_offsets}

-- there is a pair for each symbol
few : (g : _) (c : After-list_offsets g) → length c.symbols-symbols.result.now ≤ length c.list_offsets.new.pairs
few g c = omega (arith, c.list_offsets.ensures.long, listed_few _ _ c.symbols-symbols.ensures)

pub list_offsets-requires : goal.list_offsets-requires
list_offsets-requires g c =
    let a = c.args in (
      omega (arith, c.requires.0.shape),
      omega (arith, c.requires.0.shape),
      omega (arith, c.requires.0.shape),
      pattern_fits _ _ _ _ c.requires.0,
      c.symbols-symbols.ensures,
      a.known.now.are.first_are,
      search rules,
    )

pub slice_bounds-pairs-end : goal.slice_bounds-pairs-end
slice_bounds-pairs-end g c = few g (goal.at.slice_bounds-pairs-end g c).After-list_offsets

pub slice_bounds-write_rows-end : goal.slice_bounds-write_rows-end
slice_bounds-write_rows-end g c =
    sym (length-take-le _ _ (few g (goal.at.slice_bounds-write_rows-end g c).After-list_offsets))

pub write_rows-end-requires : goal.write_rows-end-requires
write_rows-end-requires g c = (
  c.requires.0,
  c.list_offsets.ensures.pairs_after,
  zeros_long _ c.table-heads.ensures,
  omega (arith, c.requires.2, pieces_length c.args.text.now (g.P.Pattern.cells c.args.known.now.pattern) c.args.s),
)

pub overflow_mul-size : goal.overflow_mul-size
overflow_mul-size g c = omega (arith, listed_few _ _ c.symbols-symbols.ensures)

pub overflow_add-size : goal.overflow_add-size
overflow_add-size g c = omega (arith, listed_few _ _ c.symbols-symbols.ensures)

pub write_strips-requires : goal.write_strips-requires
write_strips-requires g c =
    let a = c.args in (
      c.requires.0,
      ap (λ (xs : List ℕ). 3 + 3 * length xs) c.symbols-symbols.ensures,
      a.known.now.are.first_are,
      c.requires.1,
      c.write_rows-end.ensures.heads,
      omega (
        arith,
        c.requires.2,
        pieces_length a.text.now (g.P.Pattern.cells a.known.now.pattern) a.s,
        c.write_rows-end.ensures.puts.long,
      ),
    )

pub returns : goal.returns
returns g c =
    let a = c.args in
    let cells = g.P.Pattern.cells a.known.now.pattern in record {
      end = c.write_rows-end.ensures.end ∙ pieces_length a.text.now cells a.s;
      listing_after = windows_all a.text.now cells a.s a.flags.now _ _ _ (omega (arith, c.requires.0.shape))
          c.requires.2 c.write_rows-end.ensures.puts c.write_strips.ensures;
    }
