-- `counts::distinct_counts` meets its contract: refused, nothing is written; accepted, all rows stored are the whole
-- table, each place once.
-- Assumes nothing.
use Rattle.std.proofs.Common.{sym}
use Rattle.counts.specs.Counts.Laws.{counts_passed, counts_written}
use Rattle.counts.proofs.counts.distinct_counts.Goals as goal

pub all_counts-requires : goal.all_counts-requires
all_counts-requires c = counts_passed _ _ _ _ (sym c.in_ok-counts_outcome.ensures)

pub returns : goal.returns
returns c = counts_written _ _ _ _ (sym c.in_ok-counts_outcome.ensures) c.all_counts.ensures
