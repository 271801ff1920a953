-- `KindTryFromU8::try_from` meets its contract: a byte that none of the five arms takes has no size (`size_unknown`).
-- Assumes nothing.
use Rattle.std.proofs.Common.{refl, arith}
use Rattle.listing.specs.Records.Kinds.{size_unknown}
use Rattle.listing.proofs.records.KindTryFromU8.try_from.Goals as goal

pub returns-in_default : goal.returns-in_default
returns-in_default c = (
  refl,
  size_unknown c.args.byte (omega arith) (omega arith) (omega arith) (omega arith) (omega arith),
)
