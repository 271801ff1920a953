-- What holds each time a loop of `strip::flag_strip` begins a round; `Answers.antt` says why.
use Rattle.flagging.specs.Windows.{WindowsTo}
use Rattle.flagging.proofs.strip.flag_strip.Given as goal

abbrev pub invariant-loop-top : goal.invariant-loop-top
invariant-loop-top g l =
    WindowsTo (g.P.Pattern.cells l.pattern) l.symbols l.s l.left l.from l.counts l.links l.initial.flags l.run l.top
    l.flags
