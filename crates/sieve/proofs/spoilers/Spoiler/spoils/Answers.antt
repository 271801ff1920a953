-- `spoilers::Spoiler::spoils` meets its contract: two cells alike on one side only say that a mismatch ends in the
-- window (`spoiler_differs`).
-- Assumes nothing.
use Rattle.std.proofs.Common.{refl}
use Rattle.sieve.specs.Sieve.Laws.{spoiler_earlier_in, spoiler_later_in, spoiler_differs}
use Rattle.sieve.proofs.spoilers.Spoiler.spoils.Goals as goal

pub bounds-text-corner : goal.bounds-text-corner
bounds-text-corner g c = spoiler_earlier_in _ _ _ _ _ c.requires.0 c.requires.2 _ c.requires.1

pub bounds-text-corner-2 : goal.bounds-text-corner-2
bounds-text-corner-2 g c = spoiler_later_in _ _ _ _ _ c.requires.0 c.requires.2 _ c.requires.1

pub returns : goal.returns
returns g c = spoiler_differs _ _ _ _ _ c.requires.0 c.requires.2 _ c.requires.1 _ _ refl refl
