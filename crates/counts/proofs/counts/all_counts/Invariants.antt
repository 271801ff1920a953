-- What holds each time the loop of `counts::all_counts` begins a round; `Answers.antt` says why.
use Rattle.std.proofs.Common.{◌≡◌, ◌+◌, ◌*◌}
use Rattle.theory.specs.Store.{stored_rows}
use Rattle.shapes.specs.Shapes.{across, down}
use Rattle.counts.specs.Counts.{count_in}
use Rattle.counts.proofs.counts.all_counts.Given as goal

abbrev pub invariant-loop-left : goal.invariant-loop-left
invariant-loop-left l = l.counts
    ≡ stored_rows (count_in l.text l.s) (λ i top. top * across l.s + i) l.left (down l.s) l.initial.counts
