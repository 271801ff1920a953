-- `Symbols::lowest` meets its contract. The invariant: the words passed are 0. The lowest symbol stands in the first word
-- that is not, at its lowest bit.
-- Assumes nothing.
use Rattle.std.proofs.Common.{arith}
use Rattle.sets.specs.Symbols.Blocks.{lowest_in_word, lowest_nowhere}
use Rattle.sets.proofs.symbols.Symbols.lowest.Goals as goal

pub returns-then-w-ne0 : goal.returns-then-w-ne0
returns-then-w-ne0 c =
    lowest_in_word c.args.self c.loop-i.i c.loop-i.invariant (omega arith) c.if-w-ne0.true c.loop-i-test.true

pub returns : goal.returns
returns c = lowest_nowhere c.args.self (λ j h. c.loop-i.invariant j (omega arith))
