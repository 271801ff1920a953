-- `strips::strip_links` meets its contract: refused, nothing is written; accepted, all rows stored are the whole table,
-- each place once.
-- Assumes nothing.
use Rattle.std.proofs.Common.{sym}
use Rattle.grid.specs.Strips.Laws.{links_passed}
use Rattle.grid.specs.Strips.Rows.{links_written}
use Rattle.grid.proofs.strips.strip_links.Goals as goal

pub link_rows-requires : goal.link_rows-requires
link_rows-requires c = links_passed _ _ _ _ (sym c.in_ok-strip_outcome.ensures)

pub returns : goal.returns
returns c = links_written _ _ _ _ (sym c.in_ok-strip_outcome.ensures) c.link_rows.ensures
