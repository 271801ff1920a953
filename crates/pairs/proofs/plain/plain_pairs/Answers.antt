-- `plain::plain_pairs` meets its contract. The invariant: the first k pairs are plain, and the next begins at end.
-- Assumes nothing.
use Rattle.std.proofs.Common.{refl, add-zero, length, arith}
use Rattle.pairs.specs.Pairs.Plain.{plain_none, plain_more, pairs_room}
use Rattle.pairs.proofs.plain.plain_pairs.Goals as goal

pub returns-then-not-carried-clause-plain_to : goal.returns-then-not-carried-clause-plain_to
returns-then-not-carried-clause-plain_to c = plain_none _ _ _ _ _ _ _ _ _ _ (add-zero c.args.at) (omega arith)

pub loop-k-init : goal.loop-k-init
loop-k-init c = (omega arith, plain_none _ _ _ _ _ _ _ _ _ _ refl (omega arith))

pub loop-k-preserved : goal.loop-k-preserved
loop-k-preserved c = (
  omega (arith, c.loop-k.invariant.0),
  plain_more _ _ _ _ _ _ _ _ _ c.loop-k.k c.loop-k.end _ _ c.if-not-carried.false c.loop-k.invariant.1
      c.loop-k-test.true (omega (
        arith,
        c.loop-k.invariant.0,
        pairs_room (length c.args.listing.now) c.args.at (length c.args.symbols.now) c.loop-k.k
            c.if-listing-at.false c.if-listing-at-2.false c.loop-k-test.true,
      )) (c.plain_pair.ensures.plain_pair c.if-not-plain_pair.false),
)
