-- `Enlarged` as a pattern, `next_block`: in its row what follows is known, and else the position says it.
-- Assumes nothing.
use Rattle.std.proofs.Common.{refl}
use Rattle.placed.proofs.BlockLaws.{next_shown, next_follows, block_shows}
use Rattle.placed.proofs.enlarged.EnlargedPattern.next_block.Goals as goal

pub returns-then-p-b-clause-block : goal.returns-then-p-b-clause-block
returns-then-p-b-clause-block c = block_shows _ _ _ _ (next_shown _ _ _ _ _ _ c.requires.0 c.if-p-b.true) refl

pub returns-then-p-b-clause-onward : goal.returns-then-p-b-clause-onward
returns-then-p-b-clause-onward c = next_follows _ _ _ _ _ _ c.requires.0
