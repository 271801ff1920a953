-- `Enlarged` as a pattern, `len`: its cells are as many as its numbers say, and those of bytes.
-- Assumes nothing.
use Rattle.std.proofs.Common.{sym}
use Rattle.placed.specs.Placing.Laws.{enlarged_long, enlarged_bytes}
use Rattle.placed.proofs.enlarged.EnlargedPattern.len.Goals as goal

pub returns-clause-length : goal.returns-clause-length
returns-clause-length c = sym (enlarged_long _ _ _ _)

pub returns-clause-bytes : goal.returns-clause-bytes
returns-clause-bytes c = enlarged_bytes _ _ _ _ c.args.self.bytes
