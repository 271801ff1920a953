-- `entries::write_refused` meets its contract: the mismatch ends inside, since the pattern does not match
-- (`end_inside`), and the record of the two cells is the window's (`refused_bytes`).
-- Assumes nothing.
use Rattle.std.proofs.Common.{◌≡◌, ◌+◌, ◌<◌, ℕ, length, eqb, ap, ap₂, ◌∙◌, arith}
use Rattle.theory.specs.Match.{earliest}
use Rattle.theory.specs.Written.{written}
use Rattle.prefixes.specs.Prefixes.Ends.{inside_earlier}
use Rattle.matching.specs.Compare.{cell_of_pattern}
use Rattle.view.specs.Places.{window_of, cell_count}
use Rattle.listing.specs.Entries.{bytes_all, mismatch_record}
use Rattle.entries.specs.Listing.{entry_at}
use Rattle.entries.specs.Listing.Entries.{end_inside, earlier_inside, refused_bytes, refused_length}
use Rattle.entries.proofs.entries.write_refused.Goals as goal
use Rattle.entries.proofs.entries.write_refused.Goals.{Start}

-- the mismatch ends inside
later_inside : (g : _) (o : Start g) → o.args.later < cell_count o.args.w.place
later_inside g o = end_inside _ _ _ o.requires.0 o.args.later 0 o.requires.1.end_is

earlier_is : (g : _) (o : Start g) → o.args.earlier
    ≡ earliest (cell_of_pattern (g.P.Pattern.cells o.args.pattern)) (window_of o.args.w.text.now o.args.w.place) o.args.later
earlier_is g o = inside_earlier _ _ _ _ _ o.requires.1 (later_inside g o)

earlier_in : (g : _) (o : Start g) → o.args.earlier < cell_count o.args.w.place
earlier_in g o = earlier_inside _ _ _ o.requires.0 o.args.later o.args.earlier o.requires.1.end_is (earlier_is g o)

-- there are seven bytes
sized : (g : _) (o : Start g)
    → 7 ≡ length (bytes_all (entry_at o.args.w.text.now (g.P.Pattern.cells o.args.pattern) o.args.w.place))
sized g o = refused_length o.args.w.text.now o.args.w.place (g.P.Pattern.cells o.args.pattern) o.requires.0.none

pub at-requires : goal.at-requires
at-requires g c = omega (arith, earlier_in g (goal.at.at-requires g c).Start, c.requires.0.size)

pub at-requires-2 : goal.at-requires-2
at-requires-2 g c = omega (arith, later_inside g (goal.at.at-requires-2 g c).Start, c.requires.0.size)

pub mismatch_body-body-requires : goal.mismatch_body-body-requires
mismatch_body-body-requires g c =
    let o = (goal.at.mismatch_body-body-requires g c).Start in
    (c.requires.0.small, earlier_in g o, later_inside g o)

pub write_mismatch-requires : goal.write_mismatch-requires
write_mismatch-requires g c = omega (arith, sized g (goal.at.write_mismatch-requires g c).Start, c.requires.2)

pub returns : goal.returns
returns g c =
    let o = (goal.at.returns g c).Start in
    let alike = eqb c.at.result c.at-2.result in record {
      end = c.write_mismatch.ensures.end ∙ ap (λ (n : ℕ). c.args.at + n) (sized g o);
      listing_after = c.write_mismatch.ensures.listing_after ∙ ap (written _ _)
          (refused_bytes _ _ _ c.requires.0 _ _ c.requires.1.end_is alike _ (earlier_is g o)
          (ap₂ eqb c.at.ensures c.at-2.ensures) (ap (mismatch_record alike) c.mismatch_body-body.ensures));
    }
