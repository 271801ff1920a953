-- `bijections::leads_back` meets its contract. The invariant: from every entry before a the other column leads back.
-- The first that it does not lead back from answers no; past the last one it has led back from all.
-- Assumes nothing.
use Rattle.std.proofs.Common.{sym, arith, get_or}
use Rattle.theory.specs.Test.{Tested}
use Rattle.theory.specs.Test.Laws.{is_true, is_false, says_false}
use Rattle.theory.specs.Columns.{Back}
use Rattle.theory.specs.Columns.Agreement.{back_tested, leads_back_tested}
use Rattle.mapping.proofs.bijections.leads_back.Goals as goal
use Rattle.mapping.proofs.bijections.leads_back.Goals.{After-back_at}

-- what the call says of the entry at a
entry_tested : (c : After-back_at)
    → Tested (Back c.args.g.now (get_or c.args.f.now c.loop-a.a 0) c.loop-a.a) c.back_at.result
entry_tested c = rw c.back_at.ensures (back_tested _ _ _)

pub returns-then-not-back_at : goal.returns-then-not-back_at
returns-then-not-back_at c =
    sym
    (is_false (leads_back_tested _ _)
    (λ all. says_false (entry_tested (goal.at.returns-then-not-back_at c).After-back_at) c.if-not-back_at.true
    (all _ (omega (arith, c.loop-a-test.true)))))

pub returns : goal.returns
returns c = sym (is_true (leads_back_tested _ _) (λ k h. c.loop-a.invariant k (omega (arith, h, c.loop-a-test.false))))
