-- `enlarging::enlarging` meets its contract: the numbers of a scale that fits are small, and what is read off a pattern
-- by them is its enlargement.
-- Assumes nothing.
use Rattle.std.proofs.Common.{refl, arith}
use Rattle.scaled.specs.Scaled.{enlarged_cells}
use Rattle.scaling.specs.Scaling.Laws.{block_small}
use Rattle.scaling.proofs.enlarging.enlarging.Goals as goal

pub overflow_mul-width-2 : goal.overflow_mul-width-2
overflow_mul-width-2 c = omega (arith, block_small _ _ c.requires.0 c.requires.1)

pub returns-clause-lies : goal.returns-clause-lies
unfolding enlarged_cells
returns-clause-lies c = λ pattern size. refl
