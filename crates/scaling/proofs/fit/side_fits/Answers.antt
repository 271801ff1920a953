-- `fit::side_fits` meets its contract: k × part is at most the whole exactly if k is at most whole / part.
-- Assumes nothing.
use Rattle.std.proofs.Common.{◌∙◌, arith}
use Rattle.theory.specs.Test.Laws.{is_true, eq_tested}
use Rattle.scaling.specs.Scaling.Laws.{none_fits, some_fits}
use Rattle.scaling.proofs.fit.side_fits.Goals as goal

pub returns-then-part-eq0 : goal.returns-then-part-eq0
returns-then-part-eq0 c =
    is_true (eq_tested _ 0) c.if-part-eq0.true ∙ none_fits c.args.whole c.args.part c.args.k c.if-part-eq0.true

pub returns-else-part-eq0 : goal.returns-else-part-eq0
returns-else-part-eq0 c = some_fits c.args.whole c.args.part c.args.k (omega (arith, c.if-part-eq0.false))
