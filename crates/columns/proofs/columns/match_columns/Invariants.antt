-- What holds each time the loop of `columns::match_columns` begins a round; `Answers.antt` says why.
use Rattle.matching.specs.Compared.{pattern_seen, window_seen, cells_seen}
use Rattle.columns.specs.Columns.{PairsTo}
use Rattle.columns.proofs.columns.match_columns.Given as goal

abbrev pub invariant-loop-a : goal.invariant-loop-a
invariant-loop-a l =
    PairsTo (pattern_seen l.c) (window_seen l.c) (cells_seen l.c) l.a l.pairs.forward l.pairs.backward
