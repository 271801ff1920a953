-- What holds each time the loop of `strips::link_rows` begins a round; `Answers.antt` says why.
use Rattle.std.proofs.Common.{◌≡◌, ◌+◌, ◌*◌}
use Rattle.theory.specs.Store.{stored_rows}
use Rattle.grid.specs.Strips.{link, strip_symbols, LastPlaces}
use Rattle.grid.proofs.strips.link_rows.Given as goal

abbrev pub invariant-loop-i : goal.invariant-loop-i
invariant-loop-i l = LastPlaces (strip_symbols l.text l.t) (l.i * l.t.width) l.last
    × (l.links ≡ stored_rows (link (strip_symbols l.text l.t)) (λ i j. i * l.t.width + j) l.i l.t.width l.initial.links)
