-- `distinct_counts` fixes the outcome's number and the buffer, and `outcome_number` gives that number.
-- Assumes nothing.
use Rattle.std.proofs.Common.{◌∙◌, ap}
use Rattle.refusals.specs.Said.{said_number}
use Rattle.refusals.specs.Said.Laws.{number_said, same_said, same_buffer}
use Rattle.exports.proofs.texts.colourway_distinct_counts.Goals as goal

pub returns : goal.returns
returns c = record {
  number = c.answer_number.ensures ∙ number_said _ _ ∙ ap said_number (same_said c.distinct_counts.ensures);
  counts_after = same_buffer c.distinct_counts.ensures;
}
