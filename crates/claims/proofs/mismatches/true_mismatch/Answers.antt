-- `mismatches::true_mismatch` meets its contract: its tests are the definition's, in the same order.
-- Assumes nothing.
use Rattle.std.proofs.Common.{sym, ◌∙◌}
use Rattle.claims.specs.Mismatches.{earlier_outside, later_outside, not_in_order, in_order}
use Rattle.claims.proofs.mismatches.true_mismatch.Goals as goal

pub returns-then-not-cell_inside : goal.returns-then-not-cell_inside
returns-then-not-cell_inside c =
    earlier_outside _ _ _ _ _ _ _ _ _ (sym c.cell_inside.ensures ∙ c.if-not-cell_inside.true)

pub returns-then-not-cell_inside-2 : goal.returns-then-not-cell_inside-2
returns-then-not-cell_inside-2 c =
    later_outside _ _ _ _ _ _ _ _ _ (sym c.cell_inside.ensures ∙ c.if-not-cell_inside.false)
    (sym c.cell_inside-2.ensures ∙ c.if-not-cell_inside-2.true)

pub returns-then-p-q : goal.returns-then-p-q
returns-then-p-q c =
    not_in_order _ _ _ _ _ _ _ _ _ (sym c.cell_inside.ensures ∙ c.if-not-cell_inside.false)
    (sym c.cell_inside-2.ensures ∙ c.if-not-cell_inside-2.false)
    (rw (c.from.ensures, c.from-2.ensures, c.from-3.ensures, c.from-4.ensures) at c.if-p-q.true)

pub returns : goal.returns
returns c =
    in_order _ _ _ _ _ _ _ _ _ (sym c.cell_inside.ensures ∙ c.if-not-cell_inside.false)
    (sym c.cell_inside-2.ensures ∙ c.if-not-cell_inside-2.false)
    (rw (c.from.ensures, c.from-2.ensures, c.from-3.ensures, c.from-4.ensures) at c.if-p-q.false) _ c.alike_only.ensures
