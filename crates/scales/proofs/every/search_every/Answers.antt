-- `every::search_every` meets its contract: all scales are counted; then 11 (`every_counted`), or all are listed, for
-- which they are counted once more, and that leaves what the first time left (`every_written`).
-- Assumes nothing.
use Rattle.std.proofs.Common.{◌≡◌, Err, rules, ℕ, sym, ◌∙◌, ap, subst, arith}
use Rattle.shapes.specs.Questions.{Question, question_in}
use Rattle.flags.specs.Flags.{Work, rooms_of, working}
use Rattle.scaled.specs.Scaled.{largest_of, works_to}
use Rattle.scaled.specs.Scaled.Fit.{EveryRoom}
use Rattle.scaled.specs.Scaled.Works.{works_room}
use Rattle.scales.specs.Every.{totals_to, every_counted, every_fits, every_written}
use Rattle.scales.proofs.every.search_every.Goals as goal
use Rattle.scales.proofs.every.search_every.Goals.{After-count_scales-sums, Start}

-- what is asked, and what is lent
abbrev asking : Start → Question
asking o = question_in o.args.q

abbrev lent : Start → Work
lent o = working o.args.links.now o.args.counts.now o.args.flags.now

-- what all scales add up to, and what counting leaves
sums : (c : After-count_scales-sums) →
    let q = asking (goal.at.After-count_scales-sums c).Start in
    c.count_scales-sums.result ≡ totals_to q (largest_of q)
sums c =
    let q = asking (goal.at.After-count_scales-sums c).Start in
    c.count_scales-sums.ensures.totals ∙ ap (totals_to q) c.largest_scale-largest.ensures

works : (c : After-count_scales-sums) →
    let o = (goal.at.After-count_scales-sums c).Start in
    let new = c.count_scales-sums.new in
    working new.links new.counts new.flags ≡ works_to (asking o) (largest_of (asking o)) (lent o)
works c =
    let o = (goal.at.After-count_scales-sums c).Start in
    c.count_scales-sums.ensures.buffers
    ∙ ap (λ (n : ℕ). works_to (asking o) n (lent o)) c.largest_scale-largest.ensures

pub largest_scale-largest-requires : goal.largest_scale-largest-requires
largest_scale-largest-requires c = c.requires.posed_is.sides

pub count_scales-sums-requires : goal.count_scales-sums-requires
count_scales-sums-requires c = (c.requires, c.largest_scale-largest.ensures)

pub returns-in_err-listing_room_outcome : goal.returns-in_err-listing_room_outcome
returns-in_err-listing_room_outcome c =
    let p = goal.at.returns-in_err-listing_room_outcome c in
    let s = p.After-count_scales-sums in
    let why = c.in_err-listing_room_outcome.field-0.0 in
    let is : c.from_residual.result ≡ Err why = search rules in
    rw is
    (every_counted (asking p.Start) (lent p.Start) c.args.listing.now c.requires _ (sums s) why
    c.in_err-listing_room_outcome.ensures _ (works s))

pub list_scales-requires : goal.list_scales-requires
list_scales-requires c =
    let p = goal.at.list_scales-requires c in
    let s = p.After-count_scales-sums in
    let q = asking p.Start in
    let w = lent p.Start in (
      subst (λ (v : Work). EveryRoom q (rooms_of v)) (sym (works s))
          (works_room q w c.requires (largest_of q) (omega arith)),
      c.largest_scale-largest.ensures,
      rw c.largest_scale-largest.ensures
          (every_fits q w c.args.listing.now c.requires _ (sums s) c.in_ok-listing_room_outcome.ensures),
    )

pub returns : goal.returns
returns c =
    let p = goal.at.returns c in
    let s = p.After-count_scales-sums in
    let e = c.largest_scale-largest.ensures in
    every_written (asking p.Start) (lent p.Start) c.args.listing.now c.requires _ (sums s)
    c.in_ok-listing_room_outcome.ensures _ _
    (rw (e, works s) at c.list_scales.ensures.buffers) (rw e at c.list_scales.ensures.listing_after)
