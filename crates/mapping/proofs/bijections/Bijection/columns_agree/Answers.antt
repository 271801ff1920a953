-- `Bijection::columns_agree` meets its contract: columns agree exactly if each leads back from the other.
-- Assumes nothing.
use Rattle.std.proofs.Common.{sym, ◌∙◌}
use Rattle.theory.specs.Columns.Agreement.{agree_second_way, agree_neither_way}
use Rattle.mapping.specs.Bijections.{good_columns}
use Rattle.mapping.proofs.bijections.Bijection.columns_agree.Goals as goal

pub returns-then-leads_back : goal.returns-then-leads_back
unfolding good_columns
returns-then-leads_back c =
    c.leads_back-then-leads_back.ensures ∙ sym (agree_second_way _ _ (sym c.leads_back.ensures ∙ c.if-leads_back.true))

pub returns-else-leads_back : goal.returns-else-leads_back
unfolding good_columns
returns-else-leads_back c =
    c.if-leads_back.false ∙ sym (agree_neither_way _ _ (sym c.leads_back.ensures ∙ c.if-leads_back.false))
