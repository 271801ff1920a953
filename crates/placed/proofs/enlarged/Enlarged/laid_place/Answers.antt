-- `Enlarged::laid_place` meets its contract: the numbers of an enlargement are small.
-- Assumes nothing.
use Rattle.std.proofs.Common.{sym, ◌*◌, ◌<◌, lt-ltb, le-ltb, arith}
use Rattle.theory.specs.Test.Laws.{pick_true, pick_false}
use Rattle.placed.specs.Placing.{laid_place_of}
use Rattle.placed.proofs.Laid.{laid_few, sum_few}
use Rattle.placed.proofs.enlarged.Enlarged.laid_place.Goals as goal
use Rattle.placed.proofs.enlarged.Enlarged.laid_place.Goals.{Else-self-p}

-- there is such a place
inside : (c : Else-self-p) → c.args.p < c.args.self.height * c.args.self.width
inside c = omega (arith, c.if-self-p.false)

pub returns-then-self-p : goal.returns-then-self-p
unfolding laid_place_of
returns-then-self-p c = sym (pick_false _ _ (le-ltb _ _ c.if-self-p.true))

pub overflow_mul-result-2 : goal.overflow_mul-result-2
overflow_mul-result-2 c =
    omega (arith, sum_few c.args.self.sound _ (inside (goal.at.overflow_mul-result-2 c).Else-self-p))

pub overflow_add-result : goal.overflow_add-result
overflow_add-result c =
    omega (arith, sum_few c.args.self.sound _ (inside (goal.at.overflow_add-result c).Else-self-p))

pub overflow_mul-result-3 : goal.overflow_mul-result-3
overflow_mul-result-3 c =
    omega (arith, laid_few c.args.self.sound _ (inside (goal.at.overflow_mul-result-3 c).Else-self-p))

pub returns : goal.returns
unfolding laid_place_of
returns c = sym (pick_true _ _ (lt-ltb _ _ (inside (goal.at.returns c).Else-self-p)))
