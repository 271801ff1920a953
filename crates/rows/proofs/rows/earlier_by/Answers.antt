-- `rows::earlier_by` meets its contract: each way out is one arm of the choice between two first places.
-- Assumes nothing.
use Rattle.std.proofs.Common.{◌≡◌, Bool, ℕ, ◌<◌, ◌-◌, min, ltb, get_or, sym, ◌∙◌, lt-ltb, le-ltb, arith}
use Rattle.theory.specs.Test.{pick, Tested, holds, fails}
use Rattle.theory.specs.Test.Laws.{pick_true, pick_false, lt_tested}
use Rattle.prefixes.specs.State.{earlier_distance}
use Rattle.rows.proofs.rows.earlier_by.Goals as goal

-- the choice is the lesser of the two
lesser : (a b : ℕ) → min a b ≡ pick (ltb a b) a b
lesser a b = go (lt_tested a b)
  where
    go : {t : Bool} → Tested (a < b) t → min a b ≡ pick t a b
    go (holds h) = omega arith
    go (fails h) = omega arith

pub returns-then-near-start : goal.returns-then-near-start
unfolding earlier_distance
returns-then-near-start g c =
    rw (c.from.ensures, c.at.ensures) (sym (pick_false _ _ (le-ltb _ _ c.if-near-start.true)))

pub returns : goal.returns
unfolding earlier_distance
returns g c =
    let first_of = λ (p : ℕ). get_or c.args.first.now (get_or (g.P.Pattern.cells c.args.pattern) p 0) 0 in
    rw (c.min.ensures, c.from.ensures, c.at.ensures, c.from-2.ensures, c.at-2.ensures)
    (lesser (first_of c.args.p) (first_of (c.args.near - 1 - c.args.start))
    ∙ sym (pick_true _ _ (lt-ltb _ _ c.if-near-start.false)))
