-- `run::linked_at` meets its contract: each way out is one arm of the step's test.
-- Assumes nothing.
use Rattle.std.proofs.Common.{◌<◌, ◌≤◌, ℕ, ap, ◌∙◌, sym, eqb, get_or, arith}
use Rattle.theory.specs.Test.Laws.{pick_true, pick_false, is_true, is_false, lt_tested, le_tested, both_tested}
use Rattle.linked.specs.Run.{linked_test}
use Rattle.linked.proofs.run.linked_at.Goals as goal

pub returns-then-d-p : goal.returns-then-d-p
unfolding linked_test
returns-then-d-p g c =
    ap (λ (x : ℕ). eqb x c.args.a) c.at.ensures
    ∙ sym (pick_true _ _ (is_true (both_tested (lt_tested _ _) (le_tested _ _)) (c.if-d-gt0.true, c.if-d-p.true)))

pub returns : goal.returns
unfolding linked_test
returns g c =
    let a = c.args in
    ap (λ (x : ℕ). eqb (get_or a.first.now x 0) a.p) c.from.ensures
    ∙ sym (pick_false _ _ (is_false (both_tested (lt_tested 0 a.d) (le_tested a.d a.p)) (λ h. outside h.0 h.1)))
  where
    outside : 0 < c.args.d → c.args.d ≤ c.args.p → ⊥
    outside l h = omega (arith, c.else-d-gt0.either)
