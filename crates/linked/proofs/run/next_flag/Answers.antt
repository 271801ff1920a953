-- `run::next_flag` meets its contract: a window of another count is passed by, any other is looked at.
-- Assumes nothing.
use Rattle.std.proofs.Common.{ℕ, ap, ◌∙◌, ltb}
use Rattle.theory.specs.Test.{pick}
use Rattle.linked.specs.Run.Laws.{marked_skipped, marked_compared}
use Rattle.linked.proofs.run.next_flag.Goals as goal

pub returns-then-count-symbols : goal.returns-then-count-symbols
returns-then-count-symbols g c = marked_skipped _ _ _ _ _ _ _ c.requires _ _ c.if-count-symbols.true

pub returns : goal.returns
returns g c =
    marked_compared _ _ _ _ _ _ _ c.requires _ _ c.if-count-symbols.false _ c.next_linked-r.ensures _
    (c.flag_by.ensures ∙ ap (λ (n : ℕ). pick (ltb c.next_linked-r.result.end n) 0 1) c.len.ensures.length)
