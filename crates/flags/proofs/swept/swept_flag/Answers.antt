-- `swept::swept_flag` meets its contract: a law for each way out, which are that the count tells, that a pair of cells
-- tells, and that the window is compared. A window that is told is passed by.
-- Assumes nothing.
use Rattle.std.proofs.Common.{ℕ, ap, ◌∙◌, ltb}
use Rattle.theory.specs.Test.{pick}
use Rattle.flags.specs.Flags.Swept.{told_by_count, told_by_pairs, told_by_end}
use Rattle.flags.proofs.swept.swept_flag.Goals as goal

pub returns-then-count-symbols-clause-flag : goal.returns-then-count-symbols-clause-flag
returns-then-count-symbols-clause-flag g c = told_by_count _ _ _ _ c.args.s _ _ c.if-count-symbols.true

pub returns-then-not-pairs_pass-clause-flag : goal.returns-then-not-pairs_pass-clause-flag
returns-then-not-pairs_pass-clause-flag g c =
    told_by_pairs _ _ _ _ c.args.s _ _ c.if-count-symbols.false (c.pairs_pass.ensures c.if-not-pairs_pass.true)

pub returns-clause-flag : goal.returns-clause-flag
returns-clause-flag g c =
    told_by_end _ _ _ _ c.args.s _ _ c.if-count-symbols.false _ _ _ _ c.requires.0.cells c.window_end-r.ensures.next_is
    (c.flag_by.ensures ∙ ap (λ (n : ℕ). pick (ltb c.window_end-r.result.end n) 0 1) c.len.ensures.length)
