-- `count::count_flagged` meets its contract: the flags that are left are the truth (`flags_after_true`), so their
-- totals are the windows' (`totalled_front`).
-- Assumes nothing.
use Rattle.std.proofs.Common.{◌∙◌, arith}
use Rattle.flags.specs.Flags.{working}
use Rattle.flags.specs.Flags.Laws.{flags_after_long, flags_after_true}
use Rattle.shapes.specs.Questions.{asked}
use Rattle.totals.specs.Totalled.{totalled_front}
use Rattle.counting.proofs.count.count_flagged.Goals as goal

pub returns-clause-totals : goal.returns-clause-totals
returns-clause-totals g c =
    let a = c.args in
    let cells = g.P.Pattern.cells a.pattern in
    let q = asked a.text.now cells a.s in
    let w = working a.links.now a.counts.now a.flags.now in
    let e = c.flag_all.ensures.buffers in
    rw c.windows-n.ensures at c.totals_of.ensures
    ∙ totalled_front a.text.now cells a.s _
    (omega (arith, c.requires.0.flags_room, flags_after_long q w _ c.requires.0 e))
    (flags_after_true q w _ c.requires.0 e) _ c.requires.1
