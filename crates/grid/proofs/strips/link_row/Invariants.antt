-- What holds each time the loop of `strips::link_row` begins a round; `Answers.antt` says why.
use Rattle.std.proofs.Common.{ℕ}
use Rattle.grid.specs.Strips.{RowFrom, LastPlaces, LinkedRow}
use Rattle.grid.proofs.strips.link_row.Given as goal

abbrev pub invariant-loop-j : goal.invariant-loop-j
invariant-loop-j l = (s : ℕ → ℕ) → RowFrom s l.base l.row → LastPlaces s l.base l.initial.last
    → LinkedRow s l.base l.j l.initial.links l.last l.links
