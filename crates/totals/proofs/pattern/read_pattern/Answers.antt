-- `pattern::read_pattern` meets its contract: a table of first places has a place of each symbol, so the set made from
-- it is the pattern's, and its members are the symbols (`known_of`).
-- Assumes nothing.
use Rattle.std.proofs.Common.{arith}
use Rattle.theory.specs.Older.Laws.{zeros_long}
use Rattle.totals.specs.Pattern.{places_from_first, members_few, known_of}
use Rattle.totals.proofs.pattern.read_pattern.Goals as goal

pub symbols_placed-set-requires : goal.symbols_placed-set-requires
symbols_placed-set-requires g c = places_from_first _ _ c.first_places.ensures

pub overflow_cast-count : goal.overflow_cast-count
overflow_cast-count g c = omega (arith, c.list_symbols-count.ensures.count, members_few c.symbols_placed-set.result)

pub invariant_of-result : goal.invariant_of-result
invariant_of-result g c =
    let set = c.symbols_placed-set.ensures in
    let list = c.list_symbols-count.ensures in record {
      are = known_of _ set.bytes _ set.set _ list.count _ _ (zeros_long _ c.table-list.ensures) list.listed_after _
          c.first_places.ensures;
    }
