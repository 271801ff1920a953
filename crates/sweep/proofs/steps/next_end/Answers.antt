-- `steps::next_end` meets its contract: one law for each way out, which are that nothing of the window was read yet,
-- that it inherits, and that it goes on where the last one ended.
-- Assumes nothing.
use Rattle.std.proofs.Common.{◌-◌, refl, arith}
use Rattle.sweep.specs.Sweep.{own_at}
use Rattle.sweep.specs.Sweep.Steps.{top_small, next_inherited, reach_on}
use Rattle.sweep.proofs.steps.next_end.Goals as goal

pub returns-then-end-reached : goal.returns-then-end-reached
returns-then-end-reached g c =
    next_inherited _ _ _ _ _ _ _ _ _ c.requires c.if-reached-start.false _ _ refl refl
    (omega (arith, c.if-end-reached.true, c.if-reached-start.false))

pub compared-requires-2 : goal.compared-requires-2
compared-requires-2 g c =
    let own = own_at c.args.own.now (c.args.top - c.args.run.row) in (
      reach_on _ _ _ _ _ _ _ _ _ c.requires c.if-reached-start.false own.end own.earlier refl refl
          (omega (arith, c.if-end-reached.false, c.if-reached-start.false)),
      top_small _ _ _ _ _ _ _ _ _ c.requires,
    )
