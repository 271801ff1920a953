-- `windows::flag_all` meets its contract: the counts and the pairs of alike cells are there before the flags are asked
-- for (`counts_there`), the strips written are all flags in order (`flags_over`), and the links used are cleared
-- (`links_over`).
-- Assumes nothing.
use Rattle.std.proofs.Common.{◌<◌, arith}
use Rattle.refusals.specs.Said.Laws.{same_buffer}
use Rattle.shapes.specs.Shapes.{across}
use Rattle.flagged.specs.Steps.{counts_there, counts_long, counts_over, flags_over, links_over, marks_over}
use Rattle.flagged.proofs.windows.flag_all.Goals as goal

pub flag_windows-requires : goal.flag_windows-requires
flag_windows-requires g c =
    let a = c.args in
    let r = c.requires.0 in
    let e = same_buffer c.distinct_counts.ensures in
    let long = counts_long a.text.now a.s a.counts.now _ r.shape r.counts_room e in (
      record {
        room = record {
          shape = r.shape;
          size = r.size;
          links_room = r.links_room;
          counts_room = omega (arith, r.counts_room, long);
          flags_room = r.flags_room;
        };
        symbols_is = c.requires.1;
        counts_are = counts_there a.text.now a.s a.counts.now _ r.shape r.counts_room e;
      },
      record { shape = r.shape; cells = r.size; places = c.requires.2; owns = c.requires.3 },
      c.alike_pairs-pairs.ensures,
    )

pub returns-clause-buffers : goal.returns-clause-buffers
returns-clause-buffers g c =
    let a = c.args in
    let r = c.requires.0 in
    let got = c.flag_windows.ensures in
    let some : 0 < across a.s = let v = r.shape in omega arith in
    marks_over a.text.now (g.P.Pattern.cells a.pattern) a.s _ _
    (links_over _ a.links.now _ _ r.links_room got.rest_kept (c.fill.ensures.after (λ y e. e)))
    (counts_over a.text.now a.s a.counts.now _ r.shape r.counts_room (same_buffer c.distinct_counts.ensures))
    (flags_over a.text.now (g.P.Pattern.cells a.pattern) a.s a.flags.now _ some r.flags_room got.flags)
