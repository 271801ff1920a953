-- `offsets::fill_offsets` meets its contract. The invariant: the symbols so far have their offsets.
-- Assumes nothing.
use Rattle.std.proofs.Common.{arith}
use Rattle.inheriting.specs.Offsets.Laws.{offsets_to_none, offsets_to_more, offsets_to_all, place_small}
use Rattle.inheriting.proofs.offsets.fill_offsets.Goals as goal

pub loop-a-init : goal.loop-a-init
loop-a-init c = offsets_to_none _ _ _ c.first_places.new.first _ (omega arith)

pub cell_offset-requires : goal.cell_offset-requires
cell_offset-requires c =
    let s = c.requires.0 in (
      s.broad,
      omega (arith, c.requires.2, s.width_le),
      rw c.from-a.ensures (place_small c.args.pattern.now _ _ c.args.height c.args.width c.loop-a.a-index
          c.first_places.ensures c.requires.1 c.loop-a-test.true s.cells s.height_le s.width_le),
    )

pub loop-a-preserved : goal.loop-a-preserved
loop-a-preserved c =
    offsets_to_more _ _ _ _ c.loop-a.a-index _ _ _ c.loop-a.invariant c.from-a.ensures (omega arith)
    c.cell_offset.ensures

pub returns : goal.returns
returns c =
    offsets_to_all _ _ _ _ c.args.pattern.now c.loop-a.a-index _ (λ k. omega (arith, c.type_inv.pattern k)) c.requires.1
    c.first_places.ensures c.loop-a-test.false c.loop-a.invariant
