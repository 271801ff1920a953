-- What holds each time the loop of `counts::add_window` begins a round; `Answers.antt` says why.
use Rattle.occurrences.specs.Occurrences.{Tracks}
use Rattle.counts.specs.Counts.{strip_cells}
use Rattle.counts.proofs.counts.add_window.Given as goal

abbrev pub invariant-loop-n : goal.invariant-loop-n
invariant-loop-n l = Tracks l.occurrences (strip_cells l.text l.fn.s 0 l.left l.n)
