-- `every::list_scale` meets its contract: there is room for the listing in what is left of the buffer, so the search
-- writes it there (`listed_listing`), and it stands at its place in the whole (`rest_back`).
-- Assumes nothing.
use Rattle.std.proofs.Common.{◌≤◌, ◌-◌, List, ℕ, length, take, drop, length-drop, ◌∙◌, ap, arith}
use Rattle.shapes.specs.Questions.{Question, question_in}
use Rattle.flags.specs.Flags.{working}
use Rattle.entries.specs.Listing.{needed_length, search_listing}
use Rattle.refusals.specs.Said.{over_front}
use Rattle.searched.specs.Search.{Lent}
use Rattle.scaled.specs.Scaled.{scaled}
use Rattle.scales.specs.Every.{rest_is, rest_back, never_refused, listed_size, listed_work, listed_listing}
use Rattle.scales.proofs.every.list_scale.Goals as goal
use Rattle.scales.proofs.every.list_scale.Goals.{Start}

-- what is asked, and what is lent: of the listing's buffer what is left
abbrev asking : Start → Question
asking o = let a = o.args in scaled a.k (question_in a.q)

abbrev rest : Start → List ℕ
rest o = let a = o.args in take (length a.listing.now - a.at) (drop a.at a.listing.now)

abbrev lending : Start → Lent
lending o = let a = o.args in record { work = working a.links.now a.counts.now a.flags.now; listing = rest o }

-- there is room in it
fits : (o : Start) → needed_length (asking o) ≤ length (rest o)
fits o =
    let a = o.args in
    omega (arith, o.requires.2, ap length (rest_is a.listing.now a.at), length-drop a.at a.listing.now)

pub unreachable-requires : goal.unreachable-requires
unreachable-requires c =
    let o = (goal.at.unreachable-requires c).Start in
    never_refused (asking o) (lending o) _ _ c.search_enlarged.ensures (fits o) _ c.in_default.is

pub returns : goal.returns
returns c =
    let a = c.args in
    let o = (goal.at.returns c).Start in
    let r = c.search_enlarged.result in
    let e = c.search_enlarged.ensures in record {
      buffers = listed_work (asking o) (lending o) r _ e (fits o);
      listing_after = rest_back a.listing.now a.at _ (search_listing (asking o))
          (listed_listing (asking o) (lending o) r _ e (fits o)
          ∙ ap (over_front (search_listing (asking o))) (rest_is a.listing.now a.at));
      length = listed_size (asking o) (lending o) r _ e (fits o) c.in-Ok.totals c.in-Ok.is;
    }
