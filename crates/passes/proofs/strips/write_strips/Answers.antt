-- `strips::write_strips` meets its contract. The invariant: the own ends are right as far as they are made, each row
-- has come to its place in column left, and the refused windows of the strips before are written.
-- Assumes nothing.
use Rattle.std.proofs.Common.{◌≡◌, arith}
use Rattle.shapes.specs.Shapes.{across}
use Rattle.sweep.specs.Sweep.Runs.{sweep_with}
use Rattle.passes.specs.Strips.{columns_more}
use Rattle.passes.proofs.strips.write_strips.Goals as goal

pub loop-left-preserved : goal.loop-left-preserved
loop-left-preserved g c =
    let l = c.loop-left in record {
      sweep = sweep_with _ _ _ _ _ _ l.invariant.sweep c.loop-left-test.true _ c.write_strip.ensures.own_so_far;
      heads = c.write_strip.ensures.heads;
      puts = columns_more _ _ _ _ _ _ _ _ l.left l.invariant.puts c.write_strip.ensures.puts;
    }

pub returns : goal.returns
returns g c =
    let e : c.loop-left.left ≡ across c.args.s = omega (arith, c.loop-left-test.false, c.requires.0.shape) in
    rw e at c.loop-left.invariant.puts
