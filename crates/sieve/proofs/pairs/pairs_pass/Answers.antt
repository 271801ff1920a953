-- `pairs::pairs_pass` meets its contract: a pair that is not alike says that a mismatch ends in the window
-- (`pairs_differ`).
-- Assumes nothing.
use Rattle.std.proofs.Common.{◌∙◌, sym, arith}
use Rattle.sieve.specs.Sieve.Laws.{pairs_inside, pairs_differ}
use Rattle.sieve.proofs.pairs.pairs_pass.Goals as goal

pub pairs_alike-requires : goal.pairs_alike-requires
pairs_alike-requires g c = (pairs_inside _ _ _ _ _ _ c.requires.0 c.requires.1, omega arith)

pub pairs_alike-requires-2 : goal.pairs_alike-requires-2
pairs_alike-requires-2 g c = (pairs_inside _ _ _ _ _ _ c.requires.0 c.requires.1, omega arith)

pub returns-then-not-pairs_alike : goal.returns-then-not-pairs_alike
returns-then-not-pairs_alike g c _ =
    pairs_differ _ _ _ _ _ _ c.requires.0 c.requires.1 0 (omega arith)
    (sym c.pairs_alike.ensures ∙ c.if-not-pairs_alike.true)

pub returns : goal.returns
returns g c e =
    pairs_differ _ _ _ _ _ _ c.requires.0 c.requires.1 4 (omega arith) (sym c.pairs_alike-2.ensures ∙ e)
