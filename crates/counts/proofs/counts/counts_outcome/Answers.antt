-- `counts::counts_outcome` meets its contract: where 2, 3, 4 refuse nothing there are windows to count.
-- Assumes nothing.
use Rattle.std.proofs.Common.{sym}
use Rattle.shapes.specs.Questions.Laws.{text_shaped}
use Rattle.shapes.specs.Shapes.Laws.{windows_ask}
use Rattle.counts.proofs.counts.counts_outcome.Goals as goal

pub windows-requires : goal.windows-requires
windows-requires c = windows_ask _ _ _ _ (text_shaped _ _ _ (sym c.in_ok-text_outcome.ensures)).sized
