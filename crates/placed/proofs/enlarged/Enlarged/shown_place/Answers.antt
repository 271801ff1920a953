-- `Enlarged::shown_place` meets its contract: the three products are quotients (`quotient_is`), and what is made of
-- them is the place of the cell that is shown (`place_is`).
-- Assumes nothing.
use Rattle.std.proofs.Common.{◌-◌, ◌*◌, ◌≤◌, arith}
use Rattle.placed.specs.Placing.Laws.{inverse_le, shown_le, place_sub, place_is, quotient_small}
use Rattle.placed.proofs.enlarged.Enlarged.shown_place.Goals as goal
use Rattle.placed.proofs.enlarged.Enlarged.shown_place.Goals.{After-quotient}

-- what is taken away is no more than what it is taken from
less : (c : After-quotient)
    → c.args.self.width * (c.quotient-row.result - c.quotient-shown.result) ≤ c.quotient.result
less c =
    rw (c.quotient-row.ensures, c.quotient-shown.ensures, c.quotient.ensures)
    (place_sub c.args.self.sound _ c.requires)

pub overflow_sub-result : goal.overflow_sub-result
overflow_sub-result c =
    rw (c.quotient-row.ensures, c.quotient-shown.ensures) (shown_le c.args.self.sound _ c.requires)

pub overflow_mul-result : goal.overflow_mul-result
overflow_mul-result c =
    let s = c.args.self.sound in
    let small = quotient_small c.args.p c.args.self.by_scale (omega arith) (rw s.scale_inverse (inverse_le _)) in
    omega (arith, less (goal.at.overflow_mul-result c).After-quotient, c.quotient.ensures, small)

pub overflow_sub-result-2 : goal.overflow_sub-result-2
overflow_sub-result-2 c = less (goal.at.overflow_sub-result-2 c).After-quotient

pub returns : goal.returns
returns c =
    rw (c.quotient-row.ensures, c.quotient-shown.ensures, c.quotient.ensures)
    (place_is c.args.self.sound _ c.requires)
