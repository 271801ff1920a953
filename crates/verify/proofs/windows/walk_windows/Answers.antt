-- `windows::walk_windows` meets its contract. The invariant: v is window k, the walk over the windows before it has
-- come to `at` and counted `found`, and no symbol is marked with this window's base. Where a window stops the walk, it
-- stays so for those after it (`windows_stopped`).
-- Assumes nothing.
use Rattle.std.proofs.Common.{◌≡◌, ◌+◌, ◌*◌, length, Ok, Err, refl, sym, ◌∙◌, arith, rules}
use Rattle.shapes.specs.Shapes.{across, down}
use Rattle.shapes.specs.Questions.{question_in}
use Rattle.counts.specs.Counts.Laws.{windows_small}
use Rattle.matching.specs.Windows.Laws.{window_first, window_next}
use Rattle.view.specs.Places.{cell_count, Placed}
use Rattle.rules.specs.Check.{entry_from}
use Rattle.rules.specs.Entries.{goes_inside}
use Rattle.verify.specs.Windows.{windows_none, found_none, windows_step, windows_stopped, found_step, found_le}
use Rattle.verify.specs.Windows.{window_asks, tables_window, tables_place}
use Rattle.verify.proofs.windows.walk_windows.Goals as goal
use Rattle.verify.proofs.windows.walk_windows.Goals.{In-loop-k, In_ok-next}

-- the walk goes on past the window
gone : (c : In_ok-next) → Ok c.in_ok-next.next
    ≡ entry_from c.args.q.text.now c.args.q.pattern.now c.loop-k.v c.args.listing.now c.loop-k.at
gone c = sym c.in_ok-next.was ∙ c.check_entry.ensures.answer

pub loop-k-init : goal.loop-k-init
loop-k-init c =
    let s = c.args.q.shape in
    record {
      window = window_first s.columns s.height s.width (omega arith);
      marked_with = refl;
      older = c.requires.2;
      come_to = windows_none (question_in c.args.q) c.args.listing.now;
      counted = found_none (question_in c.args.q) c.args.listing.now;
      kept = c.requires.3;
    }

-- the window lies in the text, and the pattern has its size
asks : (c : In-loop-k) → Placed c.args.q.text.now c.loop-k.v × (length c.args.q.pattern.now ≡ cell_count c.loop-k.v)
asks c =
    window_asks c.args.q.text.now c.args.q.pattern.now c.args.q.shape c.requires.0.shape c.requires.0.size c.loop-k.k
    c.loop-k-test.true c.loop-k.v c.loop-k.invariant.window

pub invariant_of-window : goal.invariant_of-window
invariant_of-window c = record { placed = (asks (goal.at.invariant_of-window c).In-loop-k).0 }

pub invariant_of-c : goal.invariant_of-c
invariant_of-c c =
    record { fitting = (asks (goal.at.invariant_of-c c).In-loop-k).1; bytes = c.args.q.bytes.1 }

pub check_entry-requires : goal.check_entry-requires
check_entry-requires c =
    let i = c.loop-k.invariant in
    (c.requires.1, i.older, tables_window _ _ _ _ _ c.loop-k.k c.loop-k.v _ i.window i.kept)

pub returns-in_err-next : goal.returns-in_err-next
returns-in_err-next c =
    let q = question_in c.args.q in
    let i = c.loop-k.invariant in
    let is : c.from_residual.result ≡ Err c.in_err-next.field-0.0 = search rules in
    rw is (windows_stopped q c.args.listing.now c.in_err-next.field-0.0 (c.loop-k.k + 1) _
    (omega (arith, c.loop-k-test.true)) (windows_step q c.args.listing.now c.loop-k.k c.loop-k.at c.loop-k.v
    i.come_to i.window _ (sym c.in_err-next.was ∙ c.check_entry.ensures.answer)))

pub bounds-listing-at : goal.bounds-listing-at
bounds-listing-at c =
    goes_inside c.args.q.text.now c.args.q.pattern.now c.loop-k.v c.args.listing.now c.loop-k.at _
    (gone (goal.at.bounds-listing-at c).In_ok-next)

pub found_after-found-requires : goal.found_after-found-requires
found_after-found-requires c =
    omega (
      arith,
      c.loop-k.invariant.counted,
      found_le (question_in c.args.q) c.args.listing.now c.loop-k.k,
      c.loop-k-test.true,
      windows_small c.args.q.shape _ c.requires.0.shape,
    )

pub loop-k-preserved : goal.loop-k-preserved
loop-k-preserved c =
    let s = c.args.q.shape in
    let i = c.loop-k.invariant in
    let g = gone (goal.at.loop-k-preserved c).In_ok-next in
    record {
      window = window_next s.columns s.height s.width c.loop-k.k c.loop-k.v _ i.window c.next_window-v.ensures;
      marked_with = omega (arith, i.marked_with);
      older = c.check_entry.ensures.older;
      come_to = windows_step (question_in c.args.q) c.args.listing.now c.loop-k.k c.loop-k.at c.loop-k.v i.come_to i.window _ g;
      counted = found_step (question_in c.args.q) c.args.listing.now c.loop-k.k c.loop-k.at c.loop-k.v i.come_to i.window
          c.loop-k.found _ _ g i.counted c.found_after-found.ensures;
      kept = tables_place _ _ _ _ _ c.loop-k.k c.loop-k.v _ i.window c.check_entry.ensures.check_tables;
    }

pub returns : goal.returns
returns c =
    let s = c.args.q.shape in
    let i = c.loop-k.invariant in
    let e : c.loop-k.k ≡ down s * across s = omega (arith, c.loop-k-test.false) in
    (rw e at i.come_to, rw e at i.counted)
