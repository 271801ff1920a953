-- `rows::agrees_at` meets its contract: each way out is one arm of the step's test.
-- Assumes nothing.
use Rattle.std.proofs.Common.{ℕ, nat_eq, sym, ◌∙◌, ap, lt-ltb, le-ltb}
use Rattle.theory.specs.Test.Laws.{pick_true, pick_false}
use Rattle.prefixes.specs.State.{agrees_test}
use Rattle.rows.proofs.rows.agrees_at.Goals as goal

pub returns-then-start-near : goal.returns-then-start-near
unfolding agrees_test
returns-then-start-near g c =
    ap (λ (x : ℕ). nat_eq x c.args.a) c.at.ensures
    ∙ sym (pick_true _ _ (lt-ltb _ _ c.if-start-near.true))

pub returns : goal.returns
unfolding agrees_test
returns g c = rw c.from.ensures (sym (pick_false _ _ (le-ltb _ _ c.if-start-near.false)))
