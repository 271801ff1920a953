-- `strips::known_refused` meets its contract: two cells or a pair say that a mismatch ends in a window whose flag is 0.
-- Assumes nothing.
use Rattle.std.proofs.Common.{sym, ◌∙◌, arith}
use Rattle.std.proofs.lemmas.Bool.{not-true}
use Rattle.sieve.specs.Sieve.Laws.{pairs_inside, pairs_differ}
use Rattle.truth.proofs.strips.known_refused.Goals as goal

pub pairs_alike-requires : goal.pairs_alike-requires
pairs_alike-requires g c = (pairs_inside _ _ _ _ _ _ c.requires.0 c.requires.2, omega arith)

pub returns : goal.returns
returns g c e = (
  c.if-flag-ne0.false,
  pairs_differ _ _ _ _ _ _ c.requires.0 c.requires.2 0 (omega arith) (sym c.pairs_alike.ensures ∙ not-true _ e),
)
