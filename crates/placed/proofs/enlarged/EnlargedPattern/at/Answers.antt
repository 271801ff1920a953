-- `Enlarged` as a pattern, `at`: its cell is the pattern's at the place that is shown.
-- Assumes nothing.
use Rattle.std.proofs.Common.{ℕ, ◌<◌, ◌∙◌, ap, get_or, arith}
use Rattle.placed.specs.Placing.Laws.{enlarged_long, enlarged_cell, place_inside}
use Rattle.placed.proofs.enlarged.EnlargedPattern.at.Goals as goal
use Rattle.placed.proofs.enlarged.EnlargedPattern.at.Goals.{Start}

inside : (c : Start) → c.args.p < c.args.self.cells
inside c = omega (arith, enlarged_long c.args.self.own.now c.args.self.scale c.args.self.width c.args.self.cells)

pub shown_place-place-requires : goal.shown_place-place-requires
shown_place-place-requires c = inside c

pub bounds-self-place : goal.bounds-self-place
bounds-self-place c =
    let e = c.args.self in
    let lt = place_inside e.sound c.args.p (inside (goal.at.bounds-self-place c).Start) in
    omega (arith, c.shown_place-place.ensures, lt, e.sides)

pub returns : goal.returns
returns c =
    ap (λ (k : ℕ). get_or c.args.self.own.now k 0) c.shown_place-place.ensures
    ∙ enlarged_cell _ _ _ _ _ (inside (goal.at.returns c).Start)
