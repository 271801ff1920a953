-- `compose::chain_columns` meets its contract. The invariant: the entries passed hold the images of images; past the last
-- one they are the table.
-- Assumes nothing.
use Rattle.std.proofs.Common.{arith, get_or}
use Rattle.std.proofs.Math.ListN.{length-set}
use Rattle.theory.specs.Store.Laws.{set_right}
use Rattle.theory.specs.Table.Laws.{table_is}
use Rattle.theory.specs.Columns.{through, chained}
use Rattle.composing.proofs.compose.chain_columns.Goals as goal

pub loop-a-preserved : goal.loop-a-preserved
loop-a-preserved c = (
  rw length-set c.loop-a.invariant.0,
  λ k h. set_right c.loop-a.r c.loop-a.a c.image_under.result k (λ i. through c.args.g.now (get_or c.args.f.now i 0))
      (omega (arith, c.loop-a.invariant.0, c.loop-a-test.true)) c.image_under.ensures
      (λ d. c.loop-a.invariant.1 k (omega (arith, h, d))),
)

pub returns : goal.returns
unfolding chained
returns c = table_is _ 256 0 _ c.loop-a.invariant.0 (λ k h. c.loop-a.invariant.1 k (omega (arith, h, c.loop-a-test.false)))
