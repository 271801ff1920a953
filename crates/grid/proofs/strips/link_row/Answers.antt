-- `strips::link_row` meets its contract. The invariant: the positions passed are linked, for every sequence that the
-- row is a part of.
-- Assumes nothing.
use Rattle.std.proofs.Common.{◌≡◌, ◌∙◌, subst, length, ℕ, arith}
use Rattle.grid.specs.Strips.{LinkedRow}
use Rattle.grid.specs.Strips.Rows.{latest_le, linked_row_none, linked_row_more}
use Rattle.grid.proofs.strips.link_row.Goals as goal

pub loop-j-init : goal.loop-j-init
loop-j-init c = λ s r l. linked_row_none s _ _ _ l

-- the last place of the symbol lies before the present one
pub distance-requires : goal.distance-requires
distance-requires c =
    let p = c.requires in
    let here = c.loop-j.invariant p.symbols p.row_is p.places in
    (latest_le _ (here.places.each c.from-v.result (omega arith)), omega arith)

pub loop-j-preserved : goal.loop-j-preserved
loop-j-preserved c = λ s r l.
    linked_row_more s _ _ c.loop-j.j _ _ _ _ (c.loop-j.invariant s r l) (c.from-v.ensures ∙ r _ c.loop-j-test.true)
    (omega arith) c.distance.ensures

pub returns : goal.returns
returns c = λ s r l.
    let all : c.loop-j.j ≡ length c.args.row.now = omega arith in
    subst (λ (n : ℕ). LinkedRow s c.args.base n c.args.links.now c.loop-j.last c.loop-j.links) all
    (c.loop-j.invariant s r l)
