-- `list::list_flagged` meets its contract: what was judged refuses first, then 11 (`listing_stopped`); where nothing
-- does, the flags and totals are to be trusted (`passed`), and the listing is written whole (`listing_written`).
-- Assumes nothing.
use Rattle.std.proofs.Common.{◌≡◌, Err, ℕ, [], ap, ◌∙◌, rules}
use Rattle.refusals.specs.Said.{Said, accepts, ◌then◌, outcome_said}
use Rattle.refusals.specs.Said.Laws.{and_said}
use Rattle.listing.specs.declared.totals.Totals.{Totals}
use Rattle.lister.specs.Steps.{passed, room_said, listing_stopped, listing_fits, listing_written}
use Rattle.lister.proofs.list.list_flagged.Goals as goal
use Rattle.lister.proofs.list.list_flagged.Goals.{In_ok-and}

pub returns-in_err-and : goal.returns-in_err-and
returns-in_err-and g c =
    let why = c.in_err-and.field-0.0 in
    let is : c.from_residual.result ≡ Err why = search rules in
    rw is
    (listing_stopped _ _ _ c.requires.0.totalled _ why
    (ap outcome_said c.in_err-and.ensures
    ∙ and_said _ _
    ∙ ap (λ (said : Said). outcome_said c.args.judged then said) c.listing_room_outcome.ensures))

-- nothing is refused
chain : (g : _) (c : In_ok-and g) →
    let a = c.args in
    accepts [] ≡ outcome_said a.judged then room_said _ a.judged a.totals c.requires.0.totalled a.listing.now
chain g c =
    ap outcome_said c.in_ok-and.ensures
    ∙ and_said _ _
    ∙ ap (λ (said : Said). outcome_said c.args.judged then said) c.listing_room_outcome.ensures

pub write_listing-requires : goal.write_listing-requires
write_listing-requires g c =
    let e = chain g (goal.at.write_listing-requires g c).In_ok-and in
    let trust = c.requires.0 in
    let p = passed _ _ _ trust.totalled _ e in (
      trust.flagged p.0,
      ap (λ (t : Totals ℕ). t.found) (trust.totalled p.0),
      ap (λ (t : Totals ℕ). t.refused) (trust.totalled p.0),
      listing_fits _ _ _ trust.totalled _ c.args.known.now.are.bytes e,
      c.requires.1,
    )

pub returns : goal.returns
returns g c =
    listing_written _ _ _ c.requires.0.totalled _ (chain g (goal.at.returns g c).In_ok-and) _ c.write_listing.ensures
