-- `shapes::good_cells` meets its contract: a number is rows × columns exactly if columns divides it with the quotient
-- rows.
-- Assumes nothing.
use Rattle.std.proofs.Common.{◌≡◌, ℕ, sym, ◌∙◌, ◌*◌, ◌/◌, ◌%◌, ◌<◌, arith, mul-zero, add-zero}
use Rattle.std.proofs.Math.Nat.{div-add-mod', mul-mod_left, mul-div_cancel}
use Rattle.theory.specs.Test.Laws.{tested_same, tested_iff, eq_tested, is_false}
use Rattle.shapes.specs.Shapes.Laws.{good_cells}
use Rattle.shapes.proofs.shapes.good_cells.Goals as goal

nothing : (rows columns : ℕ) → columns ≡ 0 → rows * columns ≡ 0
nothing rows columns e = rw (e, mul-zero)

divides : (cells rows columns : ℕ) → cells ≡ rows * columns → cells % columns ≡ 0
divides cells rows columns e = rw e (mul-mod_left rows columns)

product : (cells rows columns : ℕ) → cells % columns ≡ 0 → cells / columns ≡ rows → cells ≡ rows * columns
product cells rows columns m d = sym (div-add-mod' cells columns) ∙ rw (m, d, add-zero)

quotient : (cells rows columns : ℕ) → 0 < columns → cells ≡ rows * columns → cells / columns ≡ rows
quotient cells rows columns pos e = rw e (mul-div_cancel rows pos)

pub returns-then-columns-eq0 : goal.returns-then-columns-eq0
returns-then-columns-eq0 c =
    tested_same
    (tested_iff
    (λ e. e ∙ sym (nothing _ _ c.if-columns-eq0.true))
    (λ e. e ∙ nothing _ _ c.if-columns-eq0.true)
    (eq_tested c.args.cells 0))
    (good_cells _ _ _)

pub returns-then-cells-columns-eq0 : goal.returns-then-cells-columns-eq0
returns-then-cells-columns-eq0 c =
    tested_same
    (tested_iff
    (λ e. product _ _ _ c.if-cells-columns-eq0.true e)
    (λ e. quotient _ _ _ (omega arith) e)
    (eq_tested (c.args.cells / c.args.columns) c.args.rows))
    (good_cells _ _ _)

pub returns-else-cells-columns-eq0 : goal.returns-else-cells-columns-eq0
returns-else-cells-columns-eq0 c =
    is_false (eq_tested _ 0) c.if-cells-columns-eq0.false
    ∙ sym (is_false (good_cells _ _ _) (λ e. c.if-cells-columns-eq0.false (divides _ _ _ e)))
