-- `decimal::write_decimal` meets its contract: by the number of digits, one, two or three, the bytes put are the
-- digits.
-- Assumes nothing.
use Rattle.printing.specs.Decimal.Laws.{decimal_one, decimal_two, decimal_three}
use Rattle.printing.proofs.decimal.write_decimal.Goals as goal

pub put-requires : goal.put-requires
put-requires c = rw (decimal_one _ c.if-n-lt10.true) at c.requires

pub returns-then-n-lt10 : goal.returns-then-n-lt10
returns-then-n-lt10 c =
    let e = decimal_one _ c.if-n-lt10.true in
    record { end = rw e c.put.ensures.end; output_after = rw e c.put.ensures.buffer_after }

pub put-requires-then-n-lt100 : goal.put-requires-then-n-lt100
put-requires-then-n-lt100 c = rw (decimal_two _ c.if-n-lt10.false c.if-n-lt100.true) at c.requires

pub returns-then-n-lt100 : goal.returns-then-n-lt100
returns-then-n-lt100 c =
    let e = decimal_two _ c.if-n-lt10.false c.if-n-lt100.true in
    let put = c.put-then-n-lt100.ensures in
    record { end = rw e put.end; output_after = rw e put.buffer_after }

pub put-requires-2 : goal.put-requires-2
put-requires-2 c = rw (decimal_three _ c.if-n-lt100.false) at c.requires

pub returns : goal.returns
returns c =
    let e = decimal_three _ c.if-n-lt100.false in
    record { end = rw e c.put-2.ensures.end; output_after = rw e c.put-2.ensures.buffer_after }
