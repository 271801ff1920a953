-- `WindowView::symbol` meets its contract: a cell of a window that lies in the text is one that `cell_at` may read.
-- Assumes nothing.
use Rattle.view.specs.Places.Laws.{columns_some, position_inside}
use Rattle.view.proofs.WindowView.symbol.Goals as goal

pub window_symbol-requires : goal.window_symbol-requires
window_symbol-requires c =
    let s = c.args.self.placed in
    record { some = s.some; broad = columns_some _ _ s; within = position_inside _ _ s _ c.requires }
