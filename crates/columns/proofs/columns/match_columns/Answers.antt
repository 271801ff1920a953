-- `columns::match_columns` meets its contract. The invariant: the columns have the pairs of the symbols below a.
-- Assumes nothing.
use Rattle.std.proofs.Common.{arith}
use Rattle.matching.specs.Compare.Verdicts.{empty_columns}
use Rattle.columns.specs.Columns.{match_pairs_none, pairs_all}
use Rattle.columns.proofs.columns.match_columns.Goals as goal

pub loop-a-init : goal.loop-a-init
loop-a-init c =
    let e = empty_columns _ c.requires.1 in match_pairs_none _ _ _ _ _ e.0 e.1

pub returns : goal.returns
returns c =
    let all = pairs_all _ _ _ _ _ _ c.args.c.bytes (omega arith) c.loop-a.invariant in
    record { forward_after = all.0; backward_after = all.1 }
