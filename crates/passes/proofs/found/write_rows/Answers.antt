-- `found::write_rows` meets its contract. The invariant: the place is that of row top, the rows above have their places
-- noted, and the found windows above are written.
-- Assumes nothing.
use Rattle.std.proofs.Common.{◌≡◌, ◌*◌, sym, ap, ◌∙◌, zero-mul, arith}
use Rattle.shapes.specs.Shapes.{across}
use Rattle.listing.specs.Entries.Put.{start_of, start_zero, rows_none}
use Rattle.passes.specs.Strips.{none_put}
use Rattle.passes.proofs.found.write_rows.Goals as goal

pub loop-top-init : goal.loop-top-init
loop-top-init g c =
    let z : 0 * across c.args.s ≡ 0 = zero-mul (across c.args.s) in record {
      place = sym (ap (start_of _) z ∙ start_zero _);
      heads = rows_none _ _ 0 0 _ c.requires.2;
      puts = none_put _ _ _ _ _ _ (omega (arith, z));
    }
