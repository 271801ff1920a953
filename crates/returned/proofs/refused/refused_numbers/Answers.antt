-- `refused::refused_numbers` meets its contract: what the refusal returns is one store (`value_stored`).
-- Assumes nothing.
use Rattle.std.proofs.Common.{ℕ, Option, set, get_or, ap, ◌∙◌, rules}
use Rattle.std.specs.Option.{unwrap_or}
use Rattle.refusals.specs.Refusals.Laws.{value_given}
use Rattle.returned.specs.Returned.Laws.{value_stored}
use Rattle.returned.proofs.refused.refused_numbers.Goals as goal

pub returns : goal.returns
returns g c =
    ap (λ (n : ℕ). set c.args.old c.args.k n)
    (c.unwrap_or.ensures ∙ ap (λ (o : Option ℕ). unwrap_or o (get_or c.args.old c.args.k 0)) c.value.ensures
    ∙ value_given c.args.why (get_or c.args.old c.args.k 0))
    ∙ value_stored c.args.why c.args.old c.args.k (search rules)
