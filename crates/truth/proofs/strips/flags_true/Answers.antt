-- `strips::flags_true` meets its contract. The invariant: the own ends are right as far as they are made, two cells of
-- the pattern are kept, and the flags of the strips before are the truth.
-- Assumes nothing.
use Rattle.std.proofs.Common.{◌<◌, arith}
use Rattle.shapes.specs.Shapes.{across}
use Rattle.sieve.specs.Sieve.Laws.{spoiler_none}
use Rattle.sweep.specs.Sweep.Runs.{cells_some, sweep_with}
use Rattle.truth.specs.Truth.Laws.{strips_none, strips_more, strips_all, strips_wrong}
use Rattle.truth.proofs.strips.flags_true.Goals as goal

pub loop-left-init : goal.loop-left-init
loop-left-init g c =
    let a = c.args in
    let v = c.requires.0 in
    let some = cells_some _ _ _ v.shape v.cells in
    record {
      sweep = v;
      spoiler = rw c.none-spoiler.ensures (spoiler_none _ _ _ some (omega arith));
      so_far = strips_none a.text.now (g.P.Pattern.cells a.pattern) a.s a.flags.now;
    }

pub returns-in_default-clause-answer : goal.returns-in_default-clause-answer
returns-in_default-clause-answer g c =
    let a = c.args in
    strips_wrong a.text.now (g.P.Pattern.cells a.pattern) a.s a.flags.now c.loop-left.left (omega arith)
    c.in_default.ensures.truth

pub loop-left-preserved : goal.loop-left-preserved
loop-left-preserved g c =
    let a = c.args in
    let l = c.loop-left in
    let got = c.in-Some.ensures in
    let inside : l.left < across a.s = omega arith in
    record {
      sweep = sweep_with _ _ _ _ _ _ l.invariant.sweep inside _ got.own_so_far;
      spoiler = got.spoiler;
      so_far = strips_more a.text.now (g.P.Pattern.cells a.pattern) a.s a.flags.now l.left l.invariant.so_far got.truth;
    }

pub returns-clause-answer : goal.returns-clause-answer
returns-clause-answer g c =
    let a = c.args in
    strips_all a.text.now (g.P.Pattern.cells a.pattern) a.s a.flags.now c.loop-left.left (omega arith) (omega arith)
    c.loop-left.invariant.so_far
