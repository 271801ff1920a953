-- `compare::mismatch_between` meets its contract: it is the definition.
-- Assumes nothing.
use mathlib.Core.Path.{refl}
use Rattle.matching.proofs.compare.mismatch_between.Goals as goal

pub returns : goal.returns
returns c = refl
