-- `offsets::list_offsets` meets its contract. The invariant: the first k symbols have their pairs. The next one's first
-- place is the least that has it (`place_listed`), so it lies in the pattern, whose positions are small numbers.
-- Assumes nothing.
use Rattle.std.proofs.Common.{◌≡◌, ◌≤◌, ◌<◌, ◌/◌, get_or, length-set, mod-lt, mul-le-mul, arith}
use Rattle.std.proofs.Math.Nat.{div-le_self}
use Rattle.sets.specs.Symbols.Patterns.{listed_few, listed_symbol}
use Rattle.entries.specs.Listing.Offsets.{pairs_more, pairs_all, first_place, place_listed, place_stands}
use Rattle.entries.proofs.offsets.list_offsets.Goals as goal
use Rattle.entries.proofs.offsets.list_offsets.Goals.{In-loop-k}

-- there is an entry for the symbol
few : (g : _) (c : In-loop-k g) → c.loop-k.k < 256
few g c = omega (arith, c.loop-k-test.true, listed_few _ _ c.requires.4)

-- the table of first places has it
place_is : (g : _) (c : In-loop-k g) →
    let a = get_or c.args.listed.now c.loop-k.k 0 in
    get_or c.args.first.now a 0 ≡ first_place (g.P.Pattern.cells c.args.pattern) a
place_is g c = place_listed _ _ c.requires.5 _ (listed_symbol _ _ c.requires.4 c.loop-k.k c.loop-k-test.true).1

small : (g : _) (c : In-loop-k g) → get_or c.args.first.now (get_or c.args.listed.now c.loop-k.k 0) 0 ≤ 65025
small g c =
    let s = place_stands _ _ (listed_symbol _ _ c.requires.4 c.loop-k.k c.loop-k-test.true).1 in
    omega (arith, place_is g c, s.0, c.requires.3)

pub cell_offset-requires : goal.cell_offset-requires
cell_offset-requires g c =
    (c.requires.0, omega arith, rw c.from.ensures (small g (goal.at.cell_offset-requires g c).In-loop-k))

-- at most 255 columns for each of the pattern's rows, of which there are no more than positions
pub overflow_cast-pairs : goal.overflow_cast-pairs
overflow_cast-pairs g c =
    let place = get_or c.args.first.now c.from.result 0 in
    let few : place ≤ 65025 = rw c.from.ensures (small g (goal.at.overflow_cast-pairs g c).In-loop-k) in
    let rows : place / c.args.width ≤ 65025 = omega (arith, few, div-le_self place c.args.width) in
    omega (
      arith,
      c.cell_offset.ensures,
      mul-le-mul rows c.requires.2,
      mod-lt place c.requires.0,
      c.requires.1,
    )

pub bounds-pairs-k : goal.bounds-pairs-k
bounds-pairs-k g c = few g (goal.at.bounds-pairs-k g c).In-loop-k

pub loop-k-preserved : goal.loop-k-preserved
loop-k-preserved g c =
    let p = (goal.at.loop-k-preserved g c).In-loop-k in
    let l = c.loop-k in record {
      long = rw length-set l.invariant.long;
      listed = pairs_more _ _ _ _ _ l.k _ _ c.loop-k-test.true (omega (arith, few g p)) l.invariant.listed
          (place_is g p) (rw c.from.ensures at c.cell_offset.ensures);
    }

pub returns-clause-pairs_after : goal.returns-clause-pairs_after
returns-clause-pairs_after g c =
    pairs_all _ _ _ _ _ c.loop-k.k c.requires.4 (omega arith) c.loop-k.invariant.listed
