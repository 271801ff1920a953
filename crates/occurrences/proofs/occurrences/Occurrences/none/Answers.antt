-- `Occurrences::none` meets its contract: a table of zeros is that of the empty list.
-- Assumes nothing.
use Rattle.std.proofs.Common.{refl}
use Rattle.occurrences.specs.Occurrences.Laws.{tracks_none}
use Rattle.occurrences.proofs.occurrences.Occurrences.none.Goals as goal

pub returns : goal.returns
returns c = tracks_none _ refl
