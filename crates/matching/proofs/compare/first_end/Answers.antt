-- `compare::first_end` meets its contract. The invariant: i rows of the window agree with the pattern, from is where
-- the next one begins in the pattern, and the table has the last places of the symbols passed.
-- Assumes nothing.
use Rattle.std.proofs.Common.{◌≡◌, take, drop, arith}
use Rattle.matching.specs.Compare.Rows.{row_start, row_read}
use Rattle.matching.specs.Compare.Ends.{rows_first, rows_all, row_long, row_at, rows_more, rows_found}
use Rattle.matching.proofs.compare.first_end.Goals as goal
use Rattle.matching.proofs.compare.first_end.Goals.{After-row_cells-row}

-- the window's row, as the view reads it
row_is : (c : After-row_cells-row)
    → let w = c.args.c.window in
    c.row_cells-row.result.now ≡ take w.place.width (drop (row_start w.place c.loop-i.i) w.text.now)
row_is c = row_read _ c.args.c.window.place _ _ c.row_cells-row.ensures

pub loop-i-init : goal.loop-i-init
loop-i-init c = rows_first _ _ _ _ c.requires.1

pub part_end-j-requires : goal.part_end-j-requires
part_end-j-requires c =
    let p = c.args.c in
    row_at _ _ _ p.window.placed p.fitting _ c.requires.0 _ _ _ c.loop-i-test.true c.loop-i.invariant _
    (row_is (goal.at.part_end-j-requires c).After-row_cells-row)

pub bounds-row-j : goal.bounds-row-j
bounds-row-j c =
    let p = c.args.c in
    let long = row_long _ _ _ p.window.placed p.fitting _ c.requires.0 _ _ _ c.loop-i-test.true c.loop-i.invariant _
    (row_is (goal.at.bounds-row-j c).After-row_cells-row) in
    omega (arith, long, c.if-j-v.true)

pub returns-then-j-v : goal.returns-then-j-v
returns-then-j-v c =
    let p = c.args.c in
    rows_found _ _ _ p.window.placed p.fitting _ c.requires.0 _ _ _ c.loop-i-test.true c.loop-i.invariant _
    (row_is (goal.at.returns-then-j-v c).After-row_cells-row) _ _ c.part_end-j.ensures c.if-j-v.true _ _
    c.from-x.ensures (omega (arith, c.from-x.ensures)) c.earlier_by.ensures

pub loop-i-preserved : goal.loop-i-preserved
loop-i-preserved c =
    let p = c.args.c in
    rows_more _ _ _ p.window.placed p.fitting _ c.requires.0 _ _ _ c.loop-i-test.true c.loop-i.invariant _
    (row_is (goal.at.loop-i-preserved c).After-row_cells-row) _ _ c.part_end-j.ensures c.if-j-v.false

pub returns : goal.returns
returns c = rows_all _ _ _ _ _ _ c.loop-i-test.false c.loop-i.invariant
