-- `counts::slide` meets its contract: with the row below in place of its top row, a window is the next one down.
-- Assumes nothing.
use Rattle.std.proofs.Common.{sym, ◌∙◌, ◌++◌, ◌+◌, ◌-◌, arith}
use Rattle.occurrences.specs.Occurrences.{Tracks}
use Rattle.counts.specs.Counts.{strip_cells}
use Rattle.counts.specs.Counts.Laws.{room_below, row_long, bottom_last, top_first, beside_strip}
use Rattle.counts.proofs.counts.slide.Goals as goal
use Rattle.counts.proofs.counts.slide.Goals.{After-row_cells}

-- the window's occurrences, its top row first
top_occurrences : (c : After-row_cells) → let a = c.args in
    Tracks a.occurrences.now (c.row_cells.result.now ++ strip_cells a.text.now a.s (a.top + 1) a.left (a.s.height - 1))
top_occurrences c =
    top_first _ _ _ c.requires.0 c.requires.1 _ c.args.top c.args.s.height _
    c.requires.0.sized.sides.height_good.positive (omega arith) c.requires.3 c.row_cells.ensures

pub row_cells-requires : goal.row_cells-requires
row_cells-requires c = (beside_strip _ _ _ c.requires.0 c.requires.1, omega arith)

pub row_cells-requires-then-next-s : goal.row_cells-requires-then-next-s
row_cells-requires-then-next-s c = (beside_strip _ _ _ c.requires.0 c.requires.1, omega arith)

pub replace_row-requires : goal.replace_row-requires
replace_row-requires c =
    let a = c.args in
    let leaving = c.row_cells.ensures in
    let entering = c.row_cells-then-next-s.ensures in
    record {
      rest = strip_cells a.text.now a.s (a.top + 1) a.left (a.s.height - 1);
      tracked = top_occurrences (goal.at.replace_row-requires c).After-row_cells;
      as_long =
          row_long _ _ _ c.requires.0 c.requires.1 _ _ leaving (omega arith)
          ∙ sym (row_long _ _ _ c.requires.0 c.requires.1 _ _ entering (omega arith));
      small = room_below _ _ _ c.requires.0 c.requires.1 (a.top + 1) (a.s.height - 1) _ _ (omega arith) entering;
    }

pub returns-then-next-s : goal.returns-then-next-s
returns-then-next-s c = λ h.
    bottom_last _ _ _ c.requires.0 c.requires.1 _ (c.args.top + 1) (c.args.s.height - 1) c.args.s.height
    (c.args.top + c.args.s.height) _ c.row_cells-then-next-s.ensures (omega arith) (omega arith) c.if-next-s.true
    (c.replace_row.ensures _ (top_occurrences (goal.at.returns-then-next-s c).After-row_cells))
