-- What holds each time a loop of `repeats` of an enlargement begins a round, and what falls; `Answers.antt` says why.
use Rattle.std.proofs.Common.{◌≡◌, ◌+◌, ◌-◌, get_or}
use Rattle.placed.specs.Placing.{enlarged}
use Rattle.placed.specs.Blocks.{AlikeFrom, Follows}
use Rattle.placed.proofs.enlarged.EnlargedPattern.repeats.Given as goal

abbrev pub invariant-loop-n : goal.invariant-loop-n
invariant-loop-n l =
    let large = enlarged l.self.own.now l.self.scale l.self.width l.self.cells in
    record {
      alike : AlikeFrom large l.p l.n;
      symbol : l.symbol ≡ get_or large l.p 0;
      follows : Follows l.self.own.now large l.self.scale l.b.place (l.p + l.n) l.b.stop;
    }

abbrev pub decreases-loop-n : goal.decreases-loop-n
decreases-loop-n l = l.most - l.n
