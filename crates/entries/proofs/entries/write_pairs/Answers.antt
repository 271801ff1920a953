-- `entries::write_pairs` meets its contract. The invariant: the pairs written with those left give the whole. What the
-- table leads to is the window's symbol at the first place (`pair_reads`).
-- Assumes nothing.
use Rattle.std.proofs.Common.{ℕ, ◌+◌, ◌*◌, ◌<◌, ◌≤◌, ◌∙◌, ap, length, get_or, arith}
use Rattle.theory.specs.Pieces.{left_all, left_none}
use Rattle.sets.specs.Symbols.{symbols_of}
use Rattle.entries.specs.Listing.Offsets.{no_pair, pairs_many, pair_at, pair_inside, pair_reads}
use Rattle.entries.specs.Listing.Pairs.{pair_room, pair_less, pairs_over}
use Rattle.entries.proofs.entries.write_pairs.Goals as goal
use Rattle.entries.proofs.entries.write_pairs.Goals.{In-loop-place}

-- its cell lies in the text
inside : (g : _) (c : In-loop-place g) →
    let a = c.args in
    a.w.place.row * a.w.place.columns + a.w.place.column + (get_or a.pairs.now c.loop-place.place-index no_pair).offset
    < length a.w.text.now
inside g c = pair_inside _ _ _ _ c.requires.1 _ c.loop-place-test.true c.args.w.placed c.requires.0

-- there is a symbol for the pair
symbol : (g : _) (c : In-loop-place g)
    → c.loop-place.place-index < length (symbols_of (g.P.Pattern.cells c.args.pattern))
symbol g c = omega (arith, c.loop-place-test.true, pairs_many _ _ _ _ c.requires.1)

pub loop-place-init : goal.loop-place-init
loop-place-init g c = left_all _ _ _ c.requires.2

pub overflow_add-pair : goal.overflow_add-pair
overflow_add-pair g c = omega (arith, inside g (goal.at.overflow_add-pair g c).In-loop-place, c.args.w.placed.small)

pub bounds-w-corner : goal.bounds-w-corner
bounds-w-corner g c = omega (arith, inside g (goal.at.bounds-w-corner g c).In-loop-place, c.corner-corner.ensures)

pub write_record-end-requires : goal.write_record-end-requires
write_record-end-requires g c =
    let l = c.loop-place in
    pair_room _ _ l.place-index _ _ l.listing l.end l.invariant
    (symbol g (goal.at.write_record-end-requires g c).In-loop-place)

pub loop-place-preserved : goal.loop-place-preserved
loop-place-preserved g c =
    let a = c.args in
    let l = c.loop-place in
    let h = c.loop-place-test.true in
    pair_less _ _ l.place-index _ _ l.listing l.end l.invariant
    (symbol g (goal.at.loop-place-preserved g c).In-loop-place) _ _
    (ap (λ p. p.symbol) (pair_at a.w.text.now a.w.place _ _ c.requires.1 _ h))
    (ap (λ (k : ℕ). get_or a.w.text.now (k + (get_or a.pairs.now l.place-index no_pair).offset) 0)
    c.corner-corner.ensures ∙ pair_reads a.w.text.now a.w.place _ _ c.requires.1 _ h) _ _
    c.write_record-end.ensures.listing_after c.write_record-end.ensures.end

pub returns : goal.returns
returns g c =
    let l = c.loop-place in
    let all : length (symbols_of (g.P.Pattern.cells c.args.pattern)) ≤ l.place-index =
    omega (arith, c.loop-place-test.false, pairs_many _ _ _ _ c.requires.1) in
    let e = left_none l.listing l.end _ l.invariant (pairs_over _ _ l.place-index all) in
    record { end = e.1; listing_after = e.0 }
