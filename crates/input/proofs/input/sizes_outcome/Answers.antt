-- `input::sizes_outcome` meets its contract: where 2 refuses nothing the products of the sides are small.
-- Assumes nothing.
use Rattle.std.proofs.Common.{arith, sym, ◌*◌, ◌≤◌}
use Rattle.shapes.specs.Questions.Laws.{sides_passed}
use Rattle.input.specs.Input.Sizes.{cells_small}
use Rattle.input.proofs.input.sizes_outcome.Goals as goal
use Rattle.input.proofs.input.sizes_outcome.Goals.{In_ok-sides_outcome}

small : (c : In_ok-sides_outcome) → let s = c.args.s in (s.rows * s.columns ≤ 65025) × (s.height * s.width ≤ 65025)
small c = cells_small _ _ _ _ (sides_passed _ _ (sym c.in_ok-sides_outcome.ensures))

pub overflow_mul-s : goal.overflow_mul-s
overflow_mul-s c = omega (arith, (small (goal.at.overflow_mul-s c).In_ok-sides_outcome).0)

pub overflow_mul-s-2 : goal.overflow_mul-s-2
overflow_mul-s-2 c = omega (arith, (small (goal.at.overflow_mul-s-2 c).In_ok-sides_outcome).1)

pub count_outcome-requires : goal.count_outcome-requires
count_outcome-requires c = small (goal.at.count_outcome-requires c).In_ok-sides_outcome
