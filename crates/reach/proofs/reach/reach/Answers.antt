-- `reach::reach` meets its contract. The invariant: the parts of rows passed agree, and the next one begins in the
-- column that the local says; what `part_end` ensures of a part, it ensures of the strip that the part lies in.
-- Assumes nothing.
use Rattle.std.proofs.Common.{◌∙◌, arith}
use Rattle.reach.specs.Reach.Laws.{parts_all, part_at, parts_more, found_inside, found_near, parts_found}
use Rattle.reach.proofs.reach.reach.Goals as goal

pub part_end-r-requires : goal.part_end-r-requires
part_end-r-requires g c = part_at _ _ _ _ _ _ _ _ _ c.requires _ _ _ c.loop-row-test.true c.loop-row.invariant

pub earlier_by-requires : goal.earlier_by-requires
earlier_by-requires g c =
    let here = c.loop-row.invariant in
    let inside = found_inside _ _ _ _ _ _ _ _ _ c.requires _ _ _ c.loop-row-test.true here _ _ c.part_end-r.ensures
    c.if-r-part.true in
    let near = found_near _ _ _ _ _ _ _ _ _ c.requires _ _ _ c.loop-row-test.true here _ _ c.part_end-r.ensures
    c.if-r-part.true c.from-x.result in
    (omega (arith, near, inside, here.swept.order), inside)

pub returns-then-r-part : goal.returns-then-r-part
returns-then-r-part g c =
    parts_found _ _ _ _ _ _ _ _ _ c.requires _ _ _ c.loop-row-test.true c.loop-row.invariant _ _ c.part_end-r.ensures
    c.if-r-part.true _ _ (c.from-x.ensures ∙ c.at.ensures) (omega (arith, c.from-x.ensures, c.at.type_inv))
    c.earlier_by.ensures

pub loop-row-preserved : goal.loop-row-preserved
loop-row-preserved g c =
    parts_more _ _ _ _ _ _ _ _ _ c.requires _ _ _ c.loop-row-test.true c.loop-row.invariant _ _ c.part_end-r.ensures
    c.if-r-part.false

pub returns : goal.returns
returns g c = parts_all _ _ _ _ _ _ _ _ _ c.requires _ _ _ c.loop-row-test.false c.loop-row.invariant
