-- `Shape::good_sides` meets its contract: the first bad side refuses, and where three are good the fourth decides.
-- Assumes nothing.
use Rattle.std.proofs.Common.{◌≡◌, Bool, true, false, ℕ, ◌∙◌, sym}
use Rattle.theory.specs.Test.{both}
use Rattle.theory.specs.Test.Laws.{tested_same, tested_iff, both_tested, first_fails, first_passes}
use Rattle.shapes.specs.Shapes.{good_side_test, good_sides_test}
use Rattle.shapes.specs.Shapes.Laws.{good_side, good_sides}
use Rattle.shapes.proofs.shapes.Shape.good_sides.Goals as goal
use Rattle.shapes.proofs.shapes.Shape.good_sides.Goals.{then-good_side, else-good_side}
use Rattle.shapes.proofs.shapes.Shape.good_sides.Goals.{then-good_side-2, else-good_side-2}

-- the four sides, one after the other
all_good : (rows columns height width : ℕ)
    → both (both (both (good_side_test rows) (good_side_test columns)) (good_side_test height)) (good_side_test width)
    ≡ good_sides_test rows columns height width
all_good rows columns height width =
    tested_same
    (tested_iff
    (λ h. record { rows_good = h.0.0.0; columns_good = h.0.0.1; height_good = h.0.1; width_good = h.1 })
    (λ s. (((s.rows_good, s.columns_good), s.height_good), s.width_good))
    (both_tested (both_tested (both_tested (good_side rows) (good_side columns)) (good_side height)) (good_side width)))
    (good_sides rows columns height width)

-- a test behind tests: each way of `&&` that joins gives the value of both
first_test : {a b r v : Bool} → a ≡ b → a ≡ true → v ≡ r → (c : Bool) → r ≡ c → v ≡ both b c
first_test e t w c f = w ∙ f ∙ first_passes _ _ (sym e ∙ t)

first_alone : {a b v : Bool} → a ≡ b → a ≡ false → v ≡ a → (c : Bool) → v ≡ both b c
first_alone e t w c = w ∙ e ∙ first_fails _ c (sym e ∙ t)

pub returns-then-good_side-3 : goal.returns-then-good_side-3
returns-then-good_side-3 c =
    let s = c.args.self in
    let two : c.if-good_side.value ≡ both (good_side_test s.rows) (good_side_test s.columns)
    = elim c.if-good_side.branch [
      | then-good_side w ↦
          first_test c.good_side.ensures w.if-good_side.true w.value-is _ w.good_side-then-good_side.ensures
      | else-good_side w ↦ first_alone c.good_side.ensures w.if-good_side.false w.value-is _
    ] in
    let three : c.if-good_side-2.value
    ≡ both (both (good_side_test s.rows) (good_side_test s.columns)) (good_side_test s.height)
    = elim c.if-good_side-2.branch [
      | then-good_side-2 w ↦ first_test two w.if-good_side-2.true w.value-is _ w.good_side-then-good_side-2.ensures
      | else-good_side-2 w ↦ first_alone two w.if-good_side-2.false w.value-is _
    ] in
    c.good_side-then-good_side-3.ensures ∙ first_passes _ _ (sym three ∙ c.if-good_side-3.true)
    ∙ all_good s.rows s.columns s.height s.width

pub returns-else-good_side-3 : goal.returns-else-good_side-3
returns-else-good_side-3 c =
    let s = c.args.self in
    let two : c.if-good_side.value ≡ both (good_side_test s.rows) (good_side_test s.columns)
    = elim c.if-good_side.branch [
      | then-good_side w ↦
          first_test c.good_side.ensures w.if-good_side.true w.value-is _ w.good_side-then-good_side.ensures
      | else-good_side w ↦ first_alone c.good_side.ensures w.if-good_side.false w.value-is _
    ] in
    let three : c.if-good_side-2.value
    ≡ both (both (good_side_test s.rows) (good_side_test s.columns)) (good_side_test s.height)
    = elim c.if-good_side-2.branch [
      | then-good_side-2 w ↦ first_test two w.if-good_side-2.true w.value-is _ w.good_side-then-good_side-2.ensures
      | else-good_side-2 w ↦ first_alone two w.if-good_side-2.false w.value-is _
    ] in
    three ∙ first_fails _ _ (sym three ∙ c.if-good_side-3.false) ∙ all_good s.rows s.columns s.height s.width
