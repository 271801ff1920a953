-- `room::every_room_outcome` meets its contract: 2, 3 and 17 at scale 1 by their own check, then 9 of the sides at the
-- largest scale and 10 of the sides as they are.
-- Assumes nothing.
use Rattle.std.proofs.Common.{◌≡◌, ◌∙◌, ap, sym, [], ◌*◌, arith}
use Rattle.refusals.specs.Said.{accepts, outcome_said}
use Rattle.refusals.specs.Said.Laws.{and_said}
use Rattle.shapes.specs.Questions.{Question, question_in, sides_of}
use Rattle.shapes.specs.declared.shapes.Shape.{Shape}
use Rattle.flags.specs.Flags.{Rooms, rooms}
use Rattle.scaled.specs.Scaled.{scaled, FitsAt, scaled_shape_said, largest_of}
use Rattle.scaled.specs.Scaled.Fit.{PosedAt, posed_at_lem}
use Rattle.rooms.specs.Rooms.{links_said}
use Rattle.scaling.specs.Scaling.Laws.{every_room_goes, largest_fit, largest_sides}
use Rattle.scaling.proofs.room.every_room_outcome.Goals as goal
use Rattle.scaling.proofs.room.every_room_outcome.Goals.{After-enlarged_shape-largest, After-largest_scale, In_ok-scaled_shape_outcome, Start}

-- the question, and what is lent
abbrev asking : Start → Question
asking o = let a = o.args in question_in a.q

abbrev lent : Start → Rooms
lent o = let a = o.args in rooms a.links a.counts a.flags

-- 2, 3, 17 refuse nothing
shape_good : (c : In_ok-scaled_shape_outcome) → scaled_shape_said 1 (asking (goal.at.In_ok-scaled_shape_outcome c).Start) ≡ accepts []
shape_good c = sym c.in_ok-scaled_shape_outcome.ensures

posed : (c : In_ok-scaled_shape_outcome) → PosedAt 1 (asking (goal.at.In_ok-scaled_shape_outcome c).Start)
posed c = posed_at_lem 1 _ [] (shape_good c)

-- the largest scale fits
fitting : (c : After-largest_scale) → FitsAt c.largest_scale.result (sides_of (asking (goal.at.After-largest_scale c).Start))
fitting c = largest_fit (asking (goal.at.After-largest_scale c).Start) _ c.largest_scale.ensures (posed (goal.at.After-largest_scale c).In_ok-scaled_shape_outcome)

-- the sides then
high_is : (c : After-enlarged_shape-largest) → c.enlarged_shape-largest.result.height
    ≡ c.largest_scale.result * c.args.q.shape.height
high_is c = ap (λ (t : Shape). t.height) c.enlarged_shape-largest.ensures

wide_is : (c : After-enlarged_shape-largest) → c.enlarged_shape-largest.result.width
    ≡ c.largest_scale.result * c.args.q.shape.width
wide_is c = ap (λ (t : Shape). t.width) c.enlarged_shape-largest.ensures

rows_is : (c : After-enlarged_shape-largest) → c.enlarged_shape-largest.result.rows ≡ c.args.q.shape.rows
rows_is c = ap (λ (t : Shape). t.rows) c.enlarged_shape-largest.ensures

columns_is : (c : After-enlarged_shape-largest) → c.enlarged_shape-largest.result.columns
    ≡ c.args.q.shape.columns
columns_is c = ap (λ (t : Shape). t.columns) c.enlarged_shape-largest.ensures

-- they are those of the question at that scale
largest_is : (c : After-enlarged_shape-largest) → let q = asking (goal.at.After-enlarged_shape-largest c).Start in
    c.enlarged_shape-largest.result ≡ sides_of (scaled (largest_of q) q)
largest_is c =
    largest_sides (asking (goal.at.After-enlarged_shape-largest c).Start) _ _ c.largest_scale.ensures c.enlarged_shape-largest.ensures

pub largest_scale-requires : goal.largest_scale-requires
largest_scale-requires c = (posed (goal.at.largest_scale-requires c).In_ok-scaled_shape_outcome).sides

pub enlarged_shape-largest-requires : goal.enlarged_shape-largest-requires
enlarged_shape-largest-requires c = fitting c

pub links_outcome-of_links-requires : goal.links_outcome-of_links-requires
links_outcome-of_links-requires c =
    let p = posed (goal.at.links_outcome-of_links-requires c).In_ok-scaled_shape_outcome in
    let f = fitting (goal.at.links_outcome-of_links-requires c).After-largest_scale in (
      omega (arith, p.sides.rows_good.small, rows_is c),
      omega (arith, f.width_le, p.sides.columns_good.small, p.sides.width_good.small, wide_is c),
    )

pub windows_outcome-of_windows-requires : goal.windows_outcome-of_windows-requires
windows_outcome-of_windows-requires c =
    let p = posed (goal.at.windows_outcome-of_windows-requires c).In_ok-scaled_shape_outcome in
    let f = fitting (goal.at.windows_outcome-of_windows-requires c).After-largest_scale in (
      omega (arith, p.sides.rows_good.small, rows_is (goal.at.windows_outcome-of_windows-requires c).After-enlarged_shape-largest),
      omega (arith, p.sides.columns_good.small, columns_is (goal.at.windows_outcome-of_windows-requires c).After-enlarged_shape-largest),
      omega (arith, p.fitting.height_le, f.height_le, high_is (goal.at.windows_outcome-of_windows-requires c).After-enlarged_shape-largest, rows_is (goal.at.windows_outcome-of_windows-requires c).After-enlarged_shape-largest),
      omega (arith, p.fitting.width_le, f.width_le, wide_is (goal.at.windows_outcome-of_windows-requires c).After-enlarged_shape-largest, columns_is (goal.at.windows_outcome-of_windows-requires c).After-enlarged_shape-largest),
    )

pub returns : goal.returns
returns c =
    let r = lent (goal.at.returns c).Start in
    ap outcome_said c.and.ensures ∙ and_said _ _
    ∙ every_room_goes (asking (goal.at.returns c).Start) r _ _ (shape_good (goal.at.returns c).In_ok-scaled_shape_outcome)
    (c.links_outcome-of_links.ensures ∙ ap (λ (t : Shape). links_said t r.links) (largest_is (goal.at.returns c).After-enlarged_shape-largest))
    c.windows_outcome-of_windows.ensures
