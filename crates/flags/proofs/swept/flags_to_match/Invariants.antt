-- What holds each time a loop of `swept::flags_to_match` begins a round; `Answers.antt` says why.
use Rattle.flags.specs.Flags.Swept.{SweptTo}
use Rattle.flags.proofs.swept.flags_to_match.Given as goal

abbrev pub invariant-loop-top : goal.invariant-loop-top
invariant-loop-top g l =
    SweptTo l.text (g.P.Pattern.cells l.pattern) l.s l.left l.initial.flags l.last l.own l.run l.top l.flags
