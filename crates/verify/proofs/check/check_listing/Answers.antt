-- `check::check_listing` meets its contract: a window that stops the walk is the answer, and else the closing is, with
-- the windows that are not found as those refused (`refused_rest`).
-- Assumes nothing.
use Rattle.std.proofs.Common.{◌≡◌, ◌*◌, Ok, Err, sym, ◌∙◌, subst, arith, rules}
use Rattle.shapes.specs.Questions.{question_in}
use Rattle.shapes.specs.Shapes.{across, down}
use Rattle.shapes.specs.Shapes.Laws.{windows_ask}
use Rattle.rules.specs.Check.{windows_to, found_to}
use Rattle.verify.specs.Windows.{WindowsWalked, found_le}
use Rattle.verify.specs.Answers.{stopped_answer, closing_stopped, closing_kept}
use Rattle.verify.proofs.check.check_listing.Goals as goal
use Rattle.verify.proofs.check.check_listing.Goals.{In_ok-at}

-- all windows are right: where they end, and how many stand as found
passed : (c : In_ok-at)
    → let q = question_in c.args.q in
    let n = down c.args.q.shape * across c.args.q.shape in
    (windows_to q c.args.listing.now n ≡ Ok c.in_ok-at.field-0.at) × (c.in_ok-at.field-0.found
    ≡ found_to q c.args.listing.now n)
passed c =
    subst (WindowsWalked (question_in c.args.q) c.args.listing.now) c.in_ok-at.was
    c.check_windows.ensures

pub returns-in_err-at : goal.returns-in_err-at
returns-in_err-at c =
    let q = question_in c.args.q in
    let is : c.from_residual.result ≡ Err c.in_err-at.field-0.0 = search rules in
    rw is (stopped_answer q c.args.listing.now c.in_err-at.field-0.0
    (subst (WindowsWalked q c.args.listing.now) c.in_err-at.was c.check_windows.ensures))

pub windows-requires : goal.windows-requires
windows-requires c = windows_ask _ _ _ _ c.requires.shape.sized

pub overflow_sub-refused : goal.overflow_sub-refused
overflow_sub-refused c =
    let q = question_in c.args.q in
    omega (
      arith,
      c.windows.ensures,
      (passed (goal.at.overflow_sub-refused c).In_ok-at).1,
      found_le q c.args.listing.now (down c.args.q.shape * across c.args.q.shape),
    )

pub returns-in_err-_end : goal.returns-in_err-_end
returns-in_err-_end c =
    let p = passed (goal.at.returns-in_err-_end c).In_ok-at in
    let is : c.from_residual-in_err-_end.result ≡ Err c.in_err-_end.field-0.0 = search rules in
    rw is (closing_stopped (question_in c.args.q) c.args.listing.now _ _ p.0 p.1 _
    (omega (arith, c.from.ensures, c.windows.ensures)) c.in_err-_end.field-0.0 (sym c.in_err-_end.was ∙ c.check_closing.ensures))

pub returns : goal.returns
returns c =
    let p = passed (goal.at.returns c).In_ok-at in
    closing_kept (question_in c.args.q) c.args.listing.now _ _ p.0 p.1 _
    (omega (arith, c.from.ensures, c.windows.ensures)) c.in_ok-_end._end (sym c.in_ok-_end.was ∙ c.check_closing.ensures)
