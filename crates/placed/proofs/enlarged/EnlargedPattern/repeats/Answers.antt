-- `Enlarged` as a pattern, `repeats`. The invariant: n cells are alike, and the next block is found by a step.
-- Assumes nothing.
use Rattle.std.proofs.Common.{◌≤◌, ◌+◌, sym, ◌∙◌, add_assoc, arith}
use Rattle.placed.specs.Placing.Laws.{enlarged_long}
use Rattle.placed.proofs.BlockLaws.{alike_more, alike_shorter}
use Rattle.placed.proofs.enlarged.EnlargedPattern.repeats.Goals as goal
use Rattle.placed.proofs.enlarged.EnlargedPattern.repeats.Goals.{In-loop-n, After-next_block-b}

-- places are small
few : (c : In-loop-n) → c.args.p + c.args.most ≤ 65025
few c =
    let e = c.args.self in
    omega (arith, c.requires.1, enlarged_long e.own.now e.scale e.width e.cells, e.sound.few)

pub loop-n-init : goal.loop-n-init
loop-n-init c =
    let b = c.block_at-b.ensures in
    record { alike = b.block.alike; symbol = b.block.shows; follows = b.onward }

pub overflow_add-p : goal.overflow_add-p
overflow_add-p c = omega (arith, few c, c.loop-n-test.true)

pub next_block-b-requires : goal.next_block-b-requires
next_block-b-requires c = (c.loop-n.invariant.follows, omega (arith, c.requires.1, c.loop-n-test.true))

pub returns-then-b-symbol : goal.returns-then-b-symbol
returns-then-b-symbol c =
    let i = c.loop-n.invariant in
    record {
      few = omega (arith, c.loop-n-test.true);
      alike = i.alike;
      stops = λ _ e. c.if-b-symbol.true (c.next_block-b.ensures.block.shows ∙ sym e ∙ sym i.symbol);
    }

pub overflow_add-n : goal.overflow_add-n
overflow_add-n c =
    let e = c.args.self in
    let inside = c.next_block-b.ensures.block.alike.inside in
    omega (arith, inside, enlarged_long e.own.now e.scale e.width e.cells, e.sound.few)

pub loop-n-preserved : goal.loop-n-preserved
loop-n-preserved c =
    let i = c.loop-n.invariant in
    let b = c.next_block-b.ensures in
    record {
      alike = alike_more _ _ _ _ i.alike b.block.alike (sym i.symbol ∙ sym c.if-b-symbol.false ∙ b.block.shows);
      symbol = i.symbol;
      follows = rw (← add_assoc c.args.p c.loop-n.n c.next_block-b.result.cells) b.onward;
    }

pub returns : goal.returns
returns c =
    record {
      few = omega arith;
      alike = alike_shorter _ _ _ _ (omega (arith, c.requires.0)) c.loop-n-test.false c.loop-n.invariant.alike;
      stops = λ h. absurd (omega (arith, h));
    }
