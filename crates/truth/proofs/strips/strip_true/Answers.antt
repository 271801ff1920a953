-- `strips::strip_true` meets its contract. The invariant: the own ends are right as far as they are made, the run
-- stands before the window at row top, two cells of the pattern are kept, and the flags of the windows above are the
-- truth.
-- Assumes nothing.
use Rattle.std.proofs.Common.{◌≡◌, ◌+◌, ◌*◌, ◌<◌, ℕ, sym, ◌∙◌, ap, ltb, arith}
use Rattle.theory.specs.Test.{pick}
use Rattle.theory.specs.Older.Laws.{older_zeros}
use Rattle.shapes.specs.Shapes.{across, down}
use Rattle.counts.specs.Counts.Laws.{place_lt}
use Rattle.sweep.specs.Sweep.Runs.{sweep_with, run_first, run_next, run_past}
use Rattle.flags.specs.Flags.Laws.{cells_few}
use Rattle.flags.specs.Flags.Strips.{flag_of}
use Rattle.truth.specs.Truth.Laws.{refused_flag, ended_flag, earlier_inside, true_none, true_more}
use Rattle.truth.specs.Truth.Laws.{column_all, column_wrong}
use Rattle.truth.proofs.strips.strip_true.Goals as goal
use Rattle.truth.proofs.strips.strip_true.Goals.{After-flag_by}

-- a window that was compared has the flag that its first end says
told : (g : _) (c : After-flag_by g)
    → c.flag_by.result
    ≡ flag_of c.args.text.now (g.P.Pattern.cells c.args.pattern) c.args.s
    (c.loop-top.top * across c.args.s + c.args.left)
told g c =
    let v = c.requires.0 in
    c.flag_by.ensures
    ∙ ap (λ (n : ℕ). pick (ltb c.window_end-r.result.end n) 0 1) c.len.ensures.length
    ∙ ended_flag _ _ _ _ v.shape c.requires.1 v.cells c.loop-top.top _ _ _ c.window_end-r.ensures.next_is

pub loop-top-init : goal.loop-top-init
loop-top-init g c =
    let a = c.args in
    let unread = older_zeros 1 _ (omega arith) c.table-last.ensures in
    record {
      sweep = c.requires.0;
      run = run_first _ _ _ _ _ _ c.requires.0 c.requires.1 _ unread;
      spoiler = c.requires.4;
      so_far = true_none a.text.now (g.P.Pattern.cells a.pattern) a.s a.left a.flags.now;
    }

pub bounds-flags-top : goal.bounds-flags-top
bounds-flags-top g c =
    let s = c.args.s in
    let inside : c.loop-top.top < down s = omega arith in
    rw c.across-wide.ensures
    (omega (arith, place_lt (across s) (down s) c.loop-top.top c.args.left c.requires.1 inside, c.requires.2))

pub loop-top-preserved-then-known_refused : goal.loop-top-preserved-then-known_refused
loop-top-preserved-then-known_refused g c =
    let a = c.args in
    let l = c.loop-top in
    let v = c.requires.0 in
    let refused = c.known_refused.ensures c.if-known_refused.true in
    let flag = rw c.across-wide.ensures
    at (refused.0 ∙ refused_flag _ _ _ _ v.shape c.requires.1 v.cells l.top refused.1) in
    record {
      sweep = l.invariant.sweep;
      run = run_past _ _ _ _ _ _ _ l.invariant.run;
      spoiler = l.invariant.spoiler;
      so_far = true_more a.text.now (g.P.Pattern.cells a.pattern) a.s a.left a.flags.now l.top l.invariant.so_far flag;
    }

pub returns-then-flag-flag_by-clause-truth : goal.returns-then-flag-flag_by-clause-truth
returns-then-flag-flag_by-clause-truth g c =
    let a = c.args in
    column_wrong a.text.now (g.P.Pattern.cells a.pattern) a.s a.left a.flags.now c.loop-top.top (omega arith)
    (λ e. c.if-flag-flag_by.true (rw (← c.across-wide.ensures)
    at (e ∙ sym (told g (goal.at.returns-then-flag-flag_by-clause-truth g c).After-flag_by))))

pub kept-spoiler-requires : goal.kept-spoiler-requires
kept-spoiler-requires g c =
    let v = c.requires.0 in (
      c.loop-top.invariant.spoiler,
      omega arith,
      omega arith,
      cells_few _ _ _ v.shape v.cells,
      earlier_inside _ _ _ _ v.shape c.requires.1 v.cells c.loop-top.top _ _ _ c.window_end-r.ensures.next_is,
    )

pub loop-top-preserved : goal.loop-top-preserved
loop-top-preserved g c =
    let a = c.args in
    let l = c.loop-top in
    let got = c.window_end-r.ensures in
    let flag = (rw c.across-wide.ensures at c.if-flag-flag_by.false)
    ∙ told g (goal.at.loop-top-preserved g c).After-flag_by in
    record {
      sweep = sweep_with _ _ _ _ _ _ l.invariant.sweep c.requires.1 _ got.own_so_far;
      run = run_next _ _ _ _ _ _ _ _ got.next_is;
      spoiler = c.kept-spoiler.ensures;
      so_far = true_more a.text.now (g.P.Pattern.cells a.pattern) a.s a.left a.flags.now l.top l.invariant.so_far flag;
    }

pub returns-clause-truth : goal.returns-clause-truth
returns-clause-truth g c =
    let a = c.args in
    let l = c.loop-top in
    column_all a.text.now (g.P.Pattern.cells a.pattern) a.s a.left a.flags.now l.top (omega arith) l.invariant.so_far
