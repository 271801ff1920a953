-- `room::scaled_room_outcome` meets its contract: 2, 3 and 17 by their own check, then 9 and 10 of the enlarged sides.
-- Assumes nothing.
use Rattle.std.proofs.Common.{◌≡◌, ◌∙◌, ap, sym, [], ◌*◌, arith}
use Rattle.refusals.specs.Said.{accepts, outcome_said}
use Rattle.refusals.specs.Said.Laws.{and_said}
use Rattle.shapes.specs.Questions.{Question, question_in}
use Rattle.shapes.specs.declared.shapes.Shape.{Shape}
use Rattle.flags.specs.Flags.{Rooms, rooms}
use Rattle.scaled.specs.Scaled.{scaled_shape_said}
use Rattle.scaled.specs.Scaled.Fit.{PosedAt, posed_at_lem}
use Rattle.rooms.specs.Rooms.{links_said, windows_said}
use Rattle.scaling.specs.Scaling.Laws.{scaled_room_goes}
use Rattle.scaling.proofs.room.scaled_room_outcome.Goals as goal
use Rattle.scaling.proofs.room.scaled_room_outcome.Goals.{After-enlarged_shape-enlarged, In_ok-scaled_shape_outcome, Start}

-- the question, and what is lent
abbrev asking : Start → Question
asking o = let a = o.args in question_in a.q

abbrev lent : Start → Rooms
lent o = let a = o.args in rooms a.links a.counts a.flags

-- 2, 3, 17 refuse nothing
shape_good : (c : In_ok-scaled_shape_outcome) → scaled_shape_said c.args.k (asking (goal.at.In_ok-scaled_shape_outcome c).Start) ≡ accepts []
shape_good c = sym c.in_ok-scaled_shape_outcome.ensures

posed : (c : In_ok-scaled_shape_outcome) → PosedAt c.args.k (asking (goal.at.In_ok-scaled_shape_outcome c).Start)
posed c = posed_at_lem _ _ [] (shape_good c)

-- the sides that the rest is asked of
high_is : (c : After-enlarged_shape-enlarged) → c.enlarged_shape-enlarged.result.height
    ≡ c.args.k * c.args.q.shape.height
high_is c = ap (λ (t : Shape). t.height) c.enlarged_shape-enlarged.ensures

wide_is : (c : After-enlarged_shape-enlarged) → c.enlarged_shape-enlarged.result.width
    ≡ c.args.k * c.args.q.shape.width
wide_is c = ap (λ (t : Shape). t.width) c.enlarged_shape-enlarged.ensures

rows_is : (c : After-enlarged_shape-enlarged) → c.enlarged_shape-enlarged.result.rows ≡ c.args.q.shape.rows
rows_is c = ap (λ (t : Shape). t.rows) c.enlarged_shape-enlarged.ensures

columns_is : (c : After-enlarged_shape-enlarged) → c.enlarged_shape-enlarged.result.columns ≡ c.args.q.shape.columns
columns_is c = ap (λ (t : Shape). t.columns) c.enlarged_shape-enlarged.ensures

pub enlarged_shape-enlarged-requires : goal.enlarged_shape-enlarged-requires
enlarged_shape-enlarged-requires c = (posed (goal.at.enlarged_shape-enlarged-requires c).In_ok-scaled_shape_outcome).fitting

pub links_outcome-of_links-requires : goal.links_outcome-of_links-requires
links_outcome-of_links-requires c =
    let p = posed (goal.at.links_outcome-of_links-requires c).In_ok-scaled_shape_outcome in (
      omega (arith, p.sides.rows_good.small, rows_is c),
      omega (arith, p.fitting.width_le, p.sides.columns_good.small, p.sides.width_good.small, wide_is c),
    )

pub windows_outcome-of_windows-requires : goal.windows_outcome-of_windows-requires
windows_outcome-of_windows-requires c =
    let p = posed (goal.at.windows_outcome-of_windows-requires c).In_ok-scaled_shape_outcome in (
      omega (arith, p.sides.rows_good.small, rows_is (goal.at.windows_outcome-of_windows-requires c).After-enlarged_shape-enlarged),
      omega (arith, p.sides.columns_good.small, columns_is (goal.at.windows_outcome-of_windows-requires c).After-enlarged_shape-enlarged),
      omega (arith, p.fitting.height_le, high_is (goal.at.windows_outcome-of_windows-requires c).After-enlarged_shape-enlarged, rows_is (goal.at.windows_outcome-of_windows-requires c).After-enlarged_shape-enlarged),
      omega (arith, p.fitting.width_le, wide_is (goal.at.windows_outcome-of_windows-requires c).After-enlarged_shape-enlarged, columns_is (goal.at.windows_outcome-of_windows-requires c).After-enlarged_shape-enlarged),
    )

pub returns : goal.returns
returns c =
    let r = lent (goal.at.returns c).Start in
    ap outcome_said c.and.ensures ∙ and_said _ _
    ∙ scaled_room_goes (asking (goal.at.returns c).Start) r c.args.k _ _ (shape_good (goal.at.returns c).In_ok-scaled_shape_outcome)
    (c.links_outcome-of_links.ensures ∙ ap (λ (t : Shape). links_said t r.links) c.enlarged_shape-enlarged.ensures)
    (c.windows_outcome-of_windows.ensures ∙ ap (λ (t : Shape). windows_said t r.counts r.flags) c.enlarged_shape-enlarged.ensures)
