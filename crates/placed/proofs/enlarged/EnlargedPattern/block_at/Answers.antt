-- `Enlarged` as a pattern, `block_at`: all positions of a row with one quotient by the scale show one cell, and the
-- next quotient the next.
-- Assumes nothing.
use Rattle.std.proofs.Common.{◌≡◌, ℕ, ◌+◌, ◌*◌, ◌/◌, ◌≤◌, ◌<◌, ◌∙◌, ap, refl, arith}
use Rattle.placed.specs.Placing.Laws.{enlarged_long, place_inside, quotient_small, inverse_le, block_is, row_is}
use Rattle.placed.proofs.BlockLaws.{block_shown_at, block_follows, block_shows, end_over, end_near, row_near}
use Rattle.placed.proofs.enlarged.EnlargedPattern.block_at.Goals as goal
use Rattle.placed.proofs.enlarged.EnlargedPattern.block_at.Goals.{After-quotient, After-quotient-2, Start}

inside : (c : Start) → c.args.p < c.args.self.cells
inside c = omega (arith, enlarged_long c.args.self.own.now c.args.self.scale c.args.self.width c.args.self.cells)

few : (c : Start) → c.args.p ≤ 65025
few c = omega (arith, inside c, c.args.self.sound.few)

by_scale_le : (c : Start) → c.args.self.by_scale ≤ 4294967297
by_scale_le c = rw c.args.self.sound.scale_inverse (inverse_le c.args.self.scale)

by_width_le : (c : Start) → c.args.self.by_width ≤ 4294967297
by_width_le c = rw c.args.self.sound.width_inverse (inverse_le (c.args.self.scale * c.args.self.width))

-- the quotients
along : (c : After-quotient) → c.quotient.result ≡ c.args.p / c.args.self.scale
along c = c.quotient.ensures ∙ block_is c.args.self.sound _ (inside (goal.at.After-quotient c).Start)

row : (c : After-quotient-2) → c.quotient-2.result ≡ c.args.p / (c.args.self.scale * c.args.self.width)
row c = c.quotient-2.ensures ∙ row_is c.args.self.sound _ (inside (goal.at.After-quotient-2 c).Start)

-- and the positions by them
end_is : (c : After-quotient)
    → (c.quotient.result + 1) * c.args.self.scale ≡ (c.args.p / c.args.self.scale + 1) * c.args.self.scale
end_is c = ap (λ (x : ℕ). (x + 1) * c.args.self.scale) (along c)

stop_is : (c : After-quotient-2)
    → (c.quotient-2.result + 1) * (c.args.self.scale * c.args.self.width)
    ≡ (c.args.p / (c.args.self.scale * c.args.self.width) + 1) * (c.args.self.scale * c.args.self.width)
stop_is c = ap (λ (x : ℕ). (x + 1) * (c.args.self.scale * c.args.self.width)) (row c)

pub shown_place-place-requires : goal.shown_place-place-requires
shown_place-place-requires c = inside c

pub bounds-self-place : goal.bounds-self-place
bounds-self-place c =
    let e = c.args.self in
    let lt = place_inside e.sound c.args.p (inside (goal.at.bounds-self-place c).Start) in
    omega (arith, c.shown_place-place.ensures, lt, e.sides)

pub quotient-requires : goal.quotient-requires
quotient-requires c =
    let s = (goal.at.quotient-requires c).Start in (few s, by_scale_le s)

pub overflow_add-result : goal.overflow_add-result
overflow_add-result c =
    let s = (goal.at.overflow_add-result c).Start in
    let small = quotient_small c.args.p c.args.self.by_scale (few s) (by_scale_le s) in
    omega (arith, c.quotient.ensures, small)

pub overflow_mul-result : goal.overflow_mul-result
overflow_mul-result c =
    let s = (goal.at.overflow_mul-result c).Start in
    let near = end_near c.args.self.own.now c.args.self.sound c.args.self.sides c.args.p (inside s) in
    omega (arith, end_is (goal.at.overflow_mul-result c).After-quotient, near, few s)

pub overflow_sub-result : goal.overflow_sub-result
overflow_sub-result c =
    let s = (goal.at.overflow_sub-result c).Start in
    let over = end_over c.args.self.own.now c.args.self.sound c.args.self.sides c.args.p (inside s) in
    omega (arith, end_is (goal.at.overflow_sub-result c).After-quotient, over)

pub quotient-requires-2 : goal.quotient-requires-2
quotient-requires-2 c =
    let s = (goal.at.quotient-requires-2 c).Start in (few s, by_width_le s)

pub overflow_add-result-2 : goal.overflow_add-result-2
overflow_add-result-2 c =
    let s = (goal.at.overflow_add-result-2 c).Start in
    let small = quotient_small c.args.p c.args.self.by_width (few s) (by_width_le s) in
    omega (arith, c.quotient-2.ensures, small)

pub overflow_mul-result-3 : goal.overflow_mul-result-3
overflow_mul-result-3 c =
    let s = (goal.at.overflow_mul-result-3 c).Start in
    let near = row_near c.args.self.own.now c.args.self.sound c.args.self.sides c.args.p (inside s) in
    omega (arith, stop_is (goal.at.overflow_mul-result-3 c).After-quotient-2, near)

pub returns-clause-block : goal.returns-clause-block
returns-clause-block c =
    let e = c.args.self in
    let a = goal.at.returns-clause-block c in
    block_shows _ _ _ _
    (block_shown_at e.own.now e.sound e.sides _ (inside a.Start) _ _ c.shown_place-place.ensures
    (end_is a.After-quotient)) refl

pub returns-clause-onward : goal.returns-clause-onward
returns-clause-onward c =
    let e = c.args.self in
    let a = goal.at.returns-clause-onward c in
    block_follows e.own.now e.sound e.sides _ (inside a.Start) _ _ c.shown_place-place.ensures
    (end_is a.After-quotient) _ (stop_is a.After-quotient-2)
