-- `inherit::inherited_rows` meets its contract: behind the tests the window above shares all rows but the last k,
-- and the pattern's rows from k on have no mismatch with its first rows (`follows_lower`).
-- Assumes nothing.
use Rattle.std.proofs.Common.{◌≡◌, ℕ, ◌+◌, ◌-◌, get_or, arith}
use Rattle.inheriting.specs.Inheritance.Laws.{follows_lower, above_made}
use Rattle.inheriting.proofs.inherit.inherited_rows.Goals as goal

pub returns : goal.returns
returns c =
    let w = c.args.c.window in
    let top : ℕ = get_or c.args.tops.now w.place.column 0 - 1 in
    let kept : get_or c.args.tops.now w.place.column 0 ≡ top + 1 = omega arith in record {
      inherited = (
        omega arith,
        follows_lower w.text.now c.args.c.pattern.now w.place top _ _ w.placed.some c.args.c.fitting
            (c.requires.tops_are.each w.place.column top kept) (omega arith) (omega arith) (omega arith)
            c.own_end-end.ensures.value (omega arith),
      );
      above = above_made _ _ _ _ _ _ _ c.requires _ c.own_end-end.ensures.own_ends_made;
    }
