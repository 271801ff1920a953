-- `windows::flag_windows` meets its contract. The invariant: the strips passed are written, and of the links buffer no
-- more than a strip is used.
-- Assumes nothing.
use Rattle.std.proofs.Common.{◌+◌, ◌*◌, sym, add-one}
use Rattle.theory.specs.Store.Laws.{rows_none, rows_more}
use Rattle.shapes.specs.Shapes.{across}
use Rattle.flags.specs.Flags.Strips.{flag_of}
use Rattle.flagging.specs.Links.{kept_same, kept_then}
use Rattle.flagged.proofs.windows.flag_windows.Goals as goal

pub loop-left-init : goal.loop-left-init
loop-left-init g c = record { written = sym (rows_none _ _ _ _); kept = kept_same _ _; owns = c.requires.1.owns }

pub loop-left-preserved : goal.loop-left-preserved
loop-left-preserved g c =
    let a = c.args in
    let i = c.loop-left in
    let got = c.flag_column.ensures in
    record {
      written = rw (add-one i.left) (rows_more (flag_of a.text.now (g.P.Pattern.cells a.pattern) a.s)
          (λ left top. top * across a.s + left) _ _ _ _ _ i.invariant.written got.flags);
      kept = kept_then _ _ _ _ i.invariant.kept got.rest_kept;
      owns = got.own_so_far;
    }
