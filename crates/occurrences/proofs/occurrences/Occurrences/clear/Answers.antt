-- `Occurrences::clear` meets its contract: a table of zeros is that of the empty list.
-- Assumes nothing.
use Rattle.std.proofs.Common.{◌≡◌, ◌∙◌, ℕ, ap, arith, length, replicate}
use Rattle.occurrences.specs.Occurrences.Laws.{tracks_none}
use Rattle.occurrences.proofs.occurrences.Occurrences.clear.Goals as goal

pub returns : goal.returns
returns c =
    let long : length c.args.self.now.of ≡ 256 = omega arith in
    tracks_none _ (c.fill.ensures.after (λ _ e. e) ∙ ap (λ (n : ℕ). replicate n 0) long)
