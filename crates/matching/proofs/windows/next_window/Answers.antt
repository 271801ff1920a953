-- `windows::next_window` meets its contract: in the same row the column is one more (`window_on`), else the next row
-- begins (`window_below`).
-- Assumes nothing.
use native.Mathlib.Omega.{arith}
use Rattle.matching.specs.Windows.Laws.{window_on, window_below}
use Rattle.matching.proofs.windows.next_window.Goals as goal

pub returns-then-column-across : goal.returns-then-column-across
returns-then-column-across c = λ k e. window_on c.args.v k e (let w = c.requires.0 in omega arith)

pub returns : goal.returns
returns c =
    λ k e. window_below c.args.v k e (let w = c.requires.0 in omega arith)
    (let w = c.requires.0 in omega arith)
