-- `pairs::alike_pairs` meets its contract. The invariant: there are eight pairs of cells alike in the pattern, also
-- before any is found, since a cell is like itself.
-- Assumes nothing.
use Rattle.std.proofs.Common.{◌<◌, ℕ, ap, ◌∙◌, arith, get_or, length}
use Rattle.cells.specs.Windows.{offset_of}
use Rattle.alike.specs.Pairs.{pairs_none, pair_first, pairs_more}
use Rattle.alike.proofs.pairs.alike_pairs.Goals as goal

pub loop-q-init : goal.loop-q-init
loop-q-init g c = record { few = omega arith; alike = pairs_none _ _ _ c.requires.4 c.requires.1 }

pub loop-q-preserved : goal.loop-q-preserved
loop-q-preserved g c =
    let l = c.loop-q in
    let e = ap (λ (x : ℕ). get_or c.args.first.now x 0) (c.from.ensures ∙ c.at.ensures) in
    let some = c.cell_offset.ensures ∙ ap (offset_of c.args.columns c.args.width) e in
    let inside : l.q < length (g.P.Pattern.cells c.args.pattern) = omega (arith, c.len-q-end.ensures.length) in
    let new = pair_first _ _ _ _ c.requires.0 l.q _ _ inside some c.cell_offset-in-loop-q.ensures in
    record {
      few = omega arith;
      alike = pairs_more _ _ _ _ l.n _ (omega arith) new l.invariant.alike;
    }
