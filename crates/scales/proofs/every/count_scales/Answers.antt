-- `every::count_scales` meets its contract. The invariant: k scales are counted (`CountedTo`); there is room for the
-- next (`scale_room`), and the sums stay small.
-- Assumes nothing.
use Rattle.std.proofs.Common.{◌<◌, arith}
use Rattle.shapes.specs.Questions.{Question, question_in}
use Rattle.flags.specs.Flags.{Work, working}
use Rattle.scaled.specs.Scaled.{largest_of}
use Rattle.scales.specs.Every.{counted_none, counted_more, scale_room, found_small, refused_small, length_small}
use Rattle.scales.proofs.every.count_scales.Goals as goal
use Rattle.scales.proofs.every.count_scales.Goals.{After-count_enlarged-totals, After-loop-k, In-loop-k, Start}

-- what is asked, and what was lent
abbrev asking : Start → Question
asking o = question_in o.args.q

abbrev lent : Start → Work
lent o = working o.args.links.now o.args.counts.now o.args.flags.now

-- the next scale fits
inside : (c : In-loop-k) → c.loop-k.k < largest_of (asking (goal.at.In-loop-k c).Start)
inside c = omega (arith, c.loop-k-test.true, c.requires.1)

pub loop-k-init : goal.loop-k-init
loop-k-init c =
    let o = (goal.at.loop-k-init c).Start in
    counted_none (asking o) (lent o) c.requires.0

pub count_enlarged-totals-requires : goal.count_enlarged-totals-requires
count_enlarged-totals-requires c =
    let p = goal.at.count_enlarged-totals-requires c in
    scale_room (asking p.Start) (lent p.Start) c.requires.0 _ _ (inside p.In-loop-k) c.loop-k.invariant.works

pub overflow_add-sums : goal.overflow_add-sums
overflow_add-sums c =
    let p = goal.at.overflow_add-sums c in
    omega (
      arith,
      c.from.ensures,
      found_small (asking p.Start) (lent p.Start) c.requires.0 _ _ _ (inside p.In-loop-k) c.loop-k.invariant _
          c.count_enlarged-totals.ensures.totals,
    )

pub overflow_add-sums-in-loop-k : goal.overflow_add-sums-in-loop-k
overflow_add-sums-in-loop-k c =
    let p = goal.at.overflow_add-sums-in-loop-k c in
    omega (
      arith,
      c.from-in-loop-k.ensures,
      refused_small (asking p.Start) (lent p.Start) c.requires.0 _ _ _ (inside p.In-loop-k) c.loop-k.invariant _
          c.count_enlarged-totals.ensures.totals,
    )

pub overflow_add-sums-in-loop-k-2 : goal.overflow_add-sums-in-loop-k-2
overflow_add-sums-in-loop-k-2 c =
    let p = goal.at.overflow_add-sums-in-loop-k-2 c in
    omega (
      arith,
      length_small (asking p.Start) (lent p.Start) c.requires.0 _ _ _ (inside p.In-loop-k) c.loop-k.invariant _
          c.count_enlarged-totals.ensures.totals,
    )

pub loop-k-preserved : goal.loop-k-preserved
loop-k-preserved c =
    let p = goal.at.loop-k-preserved c in
    let e = c.count_enlarged-totals.ensures in
    rw (c.from.ensures, c.from-in-loop-k.ensures)
    (counted_more (asking p.Start) (lent p.Start) c.requires.0 _ _ _ (inside p.In-loop-k) c.loop-k.invariant _
    e.totals _ e.buffers)
