-- `one_window::one_window` meets its contract: what its outcome accepts is answered by comparing, since then the window
-- lies in the text and the pattern has its size (`placed`).
-- Assumes nothing.
use Rattle.std.proofs.Common.{◌≡◌, ◌*◌, length, sym}
use Rattle.shapes.specs.Questions.{question_in}
use Rattle.view.specs.Places.{Placed}
use Rattle.answering.specs.Accepted.{place_of, place_passed, window_placed}
use Rattle.matching.specs.Compare.Verdicts.{told_answered}
use Rattle.answering.proofs.one_window.one_window.Goals as goal
use Rattle.answering.proofs.one_window.one_window.Goals.{In_ok-window_outcome}

-- the window lies in the text, and the pattern has its size
placed : (c : In_ok-window_outcome) → let a = c.args in
    Placed a.q.text.now (place_of (question_in a.q) a.row a.column)
    × (length a.q.pattern.now ≡ a.q.shape.height * a.q.shape.width)
placed c = window_placed _ _ _ (place_passed _ _ _ _ (sym c.in_ok-window_outcome.ensures))

pub invariant_of-window : goal.invariant_of-window
invariant_of-window c = record { placed = (placed (goal.at.invariant_of-window c).In_ok-window_outcome).0 }

pub invariant_of-compare : goal.invariant_of-compare
invariant_of-compare c =
    record { fitting = (placed (goal.at.invariant_of-compare c).In_ok-window_outcome).1; bytes = c.args.q.bytes.1 }

pub returns-clause-answer : goal.returns-clause-answer
returns-clause-answer c = told_answered _ _ _ _ (sym c.in_ok-window_outcome.ensures) c.compare.ensures
