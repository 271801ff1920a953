-- `symbols::list_symbols` meets its contract. The invariant: the symbols written with those left are all of the set.
-- Assumes nothing.
use Rattle.std.proofs.Common.{arith}
use Rattle.sets.specs.Symbols.Taken.{members_less}
use Rattle.sets.specs.Symbols.Listed.{listed_none, listed_room, listed_more, listed-number, listed-all}
use Rattle.sets.proofs.symbols.list_symbols.Goals as goal

pub loop-symbol-init : goal.loop-symbol-init
loop-symbol-init c = listed_none _ _ (omega arith)

pub bounds-listed-k : goal.bounds-listed-k
bounds-listed-k c = listed_room _ _ _ _ _ c.loop-symbol.invariant _ c.in-Some.ensures (omega arith)

pub loop-symbol-smaller : goal.loop-symbol-smaller
loop-symbol-smaller c =
    members_less c.loop-symbol.rest _ c.in-Some.symbol c.without-rest.ensures c.in-Some.ensures (omega arith)

pub loop-symbol-preserved : goal.loop-symbol-preserved
loop-symbol-preserved c =
    listed_more _ _ _ _ _ c.loop-symbol.invariant _ c.in-Some.ensures (omega arith) _ c.without-rest.ensures

pub returns : goal.returns
returns c = record {
  count = listed-number _ _ _ _ _ c.loop-symbol.invariant 256 c.in_default.ensures (omega arith);
  listed_after = listed-all _ _ _ _ _ c.loop-symbol.invariant 256 c.in_default.ensures (omega arith);
}
