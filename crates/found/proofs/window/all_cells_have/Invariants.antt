-- What holds each time a loop of `window::all_cells_have` begins a round; `Answers.antt` says why.
use Rattle.matching.specs.Compared.{pattern_seen, window_seen}
use Rattle.pairs.specs.Pairs.{ImageTo}
use Rattle.found.proofs.window.all_cells_have.Given as goal

abbrev pub invariant-loop-p : goal.invariant-loop-p
invariant-loop-p l = ImageTo (pattern_seen l.c) (window_seen l.c) l.a l.b l.p
