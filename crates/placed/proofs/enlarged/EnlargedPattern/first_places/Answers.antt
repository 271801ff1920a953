-- `Enlarged` as a pattern, `first_places`: when all symbols' places are laid, they are first places in the enlargement.
-- Assumes nothing.
use Rattle.std.proofs.Common.{arith}
use Rattle.placed.proofs.Laid.{laid_all}
use Rattle.placed.proofs.enlarged.EnlargedPattern.first_places.Goals as goal

pub returns : goal.returns
returns c =
    let e = c.args.self in
    laid_all e.own.now e.sound e.sides _ _ _ e.bytes (omega (arith, c.loop-p.invariant.long)) c.first_places.ensures
    c.loop-p.invariant
