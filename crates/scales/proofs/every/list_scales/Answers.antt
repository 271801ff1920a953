-- `every::list_scales` meets its contract. The invariant: the listings of k scales are written (`ListedTo`), and there
-- is room for the next one (`scale_room`, `scale_fits`).
-- Assumes nothing.
use Rattle.std.proofs.Common.{◌≤◌, ◌<◌, ◌+◌, ℕ, length, ap, arith}
use Rattle.shapes.specs.Questions.{Question, question_in}
use Rattle.flags.specs.Flags.{Work, working}
use Rattle.scaled.specs.Scaled.{largest_of, length_to}
use Rattle.scales.specs.Every.{listed_none, listed_more, scale_room, scale_fits, at_small}
use Rattle.scales.proofs.every.list_scales.Goals as goal
use Rattle.scales.proofs.every.list_scales.Goals.{In-loop-k, Start}

-- what is asked, and what was lent
abbrev asking : Start → Question
asking o = question_in o.args.q

abbrev lent : Start → Work
lent o = working o.args.links.now o.args.counts.now o.args.flags.now

-- there is room for all
fits : (o : Start) → length_to (asking o) (largest_of (asking o)) ≤ length o.args.listing.now
fits o = rw (← o.requires.1) o.requires.2

-- the next scale fits
inside : (c : In-loop-k) → c.loop-k.k < largest_of (asking (goal.at.In-loop-k c).Start)
inside c = omega (arith, c.loop-k-test.true, c.requires.1)

pub loop-k-init : goal.loop-k-init
loop-k-init c =
    let o = (goal.at.loop-k-init c).Start in
    listed_none (asking o) (lent o) c.args.listing.now c.args.q.bytes.1 (fits o)

pub list_scale-at-requires : goal.list_scale-at-requires
list_scale-at-requires c =
    let p = goal.at.list_scale-at-requires c in
    let l = c.loop-k in
    let r = scale_room (asking p.Start) (lent p.Start) c.requires.0 _ _ (inside p.In-loop-k) l.invariant.works in (
      r.0,
      r.1,
      scale_fits (asking p.Start) (lent p.Start) c.args.listing.now c.args.q.bytes.1
          (fits p.Start) _ _ _ _
          (inside p.In-loop-k) l.invariant,
    )

pub overflow_add-at : goal.overflow_add-at
overflow_add-at c =
    let p = goal.at.overflow_add-at c in
    omega (
      arith,
      c.list_scale-at.ensures.length,
      at_small (asking p.Start) (lent p.Start) c.args.listing.now c.args.q.bytes.1
          (fits p.Start) _ _ _ _
          (inside p.In-loop-k) c.loop-k.invariant c.requires.0.posed_is,
    )

pub loop-k-preserved : goal.loop-k-preserved
loop-k-preserved c =
    let p = goal.at.loop-k-preserved c in
    let e = c.list_scale-at.ensures in
    listed_more (asking p.Start) (lent p.Start) c.args.listing.now c.args.q.bytes.1
    (fits p.Start) _ _ _ _
    (inside p.In-loop-k) c.loop-k.invariant _ _ _ e.buffers e.listing_after (ap (λ (n : ℕ). c.loop-k.at + n) e.length)
