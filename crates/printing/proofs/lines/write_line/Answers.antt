-- `lines::write_line` meets its contract. The invariant: the numbers written and the line of those that are left give
-- the whole line, and the last one is left.
-- Assumes nothing.
use Rattle.std.proofs.Common.{◌≡◌, [], ◌∷◌, get_or, sym, ◌∙◌, arith}
use Rattle.std.proofs.lemmas.List.{get_or_append_left, get_or_push}
use Rattle.theory.specs.Pieces.{left_all}
use Rattle.printing.specs.Lines.Writing.{number_room, number_less, last_room, last_whole}
use Rattle.printing.proofs.lines.write_line.Goals as goal
use Rattle.printing.proofs.lines.write_line.Goals.{In-loop-b, After-loop-b}

-- a number before the last one, and the last one
before_is : (c : In-loop-b)
    → get_or c.in-Some.before.now c.loop-b.b-index 0 ≡ get_or c.args.bytes.now c.loop-b.b-index 0
before_is c =
    sym (get_or_append_left c.in-Some.before.now (c.in-Some.last.now ∷ []) 0 c.loop-b.b-index c.loop-b-test.true)
    ∙ rw c.in-Some.ensures.cases.0

last_is : (c : After-loop-b) → c.in-Some.last.now ≡ get_or c.args.bytes.now c.loop-b.b-index 0
last_is c =
    sym (get_or_push c.in-Some.before.now c.in-Some.last.now 0 c.loop-b.b-index (omega arith))
    ∙ rw c.in-Some.ensures.cases.0

pub loop-b-init : goal.loop-b-init
loop-b-init c = left_all _ _ _ c.requires.1

pub write_item-end-requires : goal.write_item-end-requires
write_item-end-requires c =
    rw (before_is (goal.at.write_item-end-requires c).In-loop-b)
    (number_room c.args.bytes.now _ _ c.loop-b.b-index c.loop-b.invariant (omega (arith, c.in-Some.ensures.cases.1)))

pub loop-b-preserved : goal.loop-b-preserved
loop-b-preserved c =
    let e = before_is (goal.at.loop-b-preserved c).In-loop-b in
    number_less c.args.bytes.now _ _ c.loop-b.b-index c.loop-b.invariant (omega (arith, c.in-Some.ensures.cases.1)) _ _
    (rw e at c.write_item-end.ensures.output_after) (rw e at c.write_item-end.ensures.end)

pub write_item-requires : goal.write_item-requires
write_item-requires c =
    let k = c.in-Some.ensures.cases.1 in
    rw (last_is (goal.at.write_item-requires c).After-loop-b)
    (last_room c.args.bytes.now _ _ c.loop-b.b-index c.loop-b.invariant (omega (arith, k)) (omega (arith, k)))

pub returns : goal.returns
returns c =
    let k = c.in-Some.ensures.cases.1 in
    let e = last_is (goal.at.returns c).After-loop-b in
    let all =
    last_whole c.args.bytes.now _ _ c.loop-b.b-index c.loop-b.invariant (omega (arith, k)) (omega (arith, k)) _ _
    (rw e at c.write_item.ensures.output_after) (rw e at c.write_item.ensures.end) in
    record { end = all.0; output_after = all.1 }
