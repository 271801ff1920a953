-- `compare::colourway_one_window` meets its contract: `one_window` fixes what is told, `write_verdict` hands it over.
-- Assumes nothing.
use Rattle.std.proofs.Common.{◌∙◌}
use Rattle.values.specs.Compare.Laws.{window_number, bijection_handed, mismatch_handed}
use Rattle.exports.proofs.compare.colourway_one_window.Goals as goal

pub returns : goal.returns
returns c =
    let answers = rw c.new-q.ensures at c.one_window-answer.ensures.answer in record {
      number = c.write_verdict.ensures.number ∙ window_number _ _ _ _ answers;
      backward_after = c.write_verdict.ensures.bijection_after ∙ bijection_handed _ _ _ _ answers _;
      mismatch_after = c.write_verdict.ensures.mismatch_after ∙ mismatch_handed _ _ _ _ answers _;
    }
