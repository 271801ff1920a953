-- What holds each time a loop of `window::check_pairs` begins a round; `Answers.antt` says why.
use Rattle.pairs.specs.Pairs.Plain.{PairsLeftOf}
use Rattle.found.proofs.window.check_pairs.Given as goal

abbrev pub invariant-loop-i : goal.invariant-loop-i
invariant-loop-i l = PairsLeftOf l.w.images.compared l.symbols l.listing l.base l.at l.i l.end l.given
