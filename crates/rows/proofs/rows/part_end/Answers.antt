-- `rows::part_end` meets its contract. The invariant: the cells before j agree, whatever the strip, and the next
-- block is found by a step; the test of cell j is the step of the comparison, so it tells whether a mismatch ends
-- there, and the run behind it whether one ends in the rest of the block.
-- Assumes nothing.
use Rattle.std.proofs.Common.{◌≡◌, ◌+◌, ◌<◌, ◌∙◌, refl, get_or, set, add_assoc, arith}
use Rattle.rows.specs.Rows.{PassedPart}
use Rattle.rows.specs.Rows.Laws.{part_more, part_found, run_passed, run_found}
use Rattle.rows.proofs.rows.part_end.Given as given
use Rattle.rows.proofs.rows.part_end.Goals as goal
use Rattle.rows.proofs.rows.part_end.Goals.{After-from-x, Else-not-agrees_at}

-- what is read is the part's cell, and a byte
cell : (g : given.Over) (c : After-from-x g)
    → c.from-x.result ≡ get_or (g.T.Pattern.cells c.args.text) (c.args.begin + c.loop-j.j) 0
cell g c = c.from-x.ensures ∙ c.at.ensures

byte : (g : given.Over) (c : After-from-x g) → c.from-x.result < 256
byte g c = omega (arith, c.from-x.ensures, c.at.type_inv)

-- the cell agrees
agreed : (g : given.Over) (c : Else-not-agrees_at g) → let a = c.args in
    PassedPart (g.P.Pattern.cells a.pattern) (g.T.Pattern.cells a.text) a.begin a.n a.last.now a.start a.from
    (c.loop-j.j + 1) (set c.loop-j.last c.from-x.result (a.start + a.from + c.loop-j.j + 1))
agreed g c =
    let x = (goal.at.Else-not-agrees_at g c).After-from-x in
    part_more _ _ _ _ _ _ _ _ c.requires _ _ c.loop-j-test.true c.loop-j.invariant.passed _ (cell g x) (byte g x) _ _
    c.next_block-b.ensures.block.shows refl _ c.agrees_at.ensures c.if-not-agrees_at.false

pub returns-then-not-agrees_at : goal.returns-then-not-agrees_at
returns-then-not-agrees_at g c =
    let x = (goal.at.returns-then-not-agrees_at g c).After-from-x in
    part_found _ _ _ _ _ _ _ _ c.requires _ _ c.loop-j-test.true c.loop-j.invariant.passed _ (cell g x) (byte g x) _ _
    c.next_block-b.ensures.block.shows refl _ c.agrees_at.ensures c.if-not-agrees_at.true

pub returns-then-run-b : goal.returns-then-run-b
returns-then-run-b g c =
    let x = (goal.at.returns-then-run-b g c).After-from-x in
    run_found _ _ _ _ _ _ _ _ c.requires _ _ _ (cell g x) (byte g x)
    (agreed g (goal.at.returns-then-run-b g c).Else-not-agrees_at) _ _ _ c.next_block-b.ensures.block.alike
    c.repeats-run.ensures (omega (arith, c.min.ensures)) (omega (arith, c.min.ensures, c.loop-j-test.true)) c.if-run-b.true
    (λ h. omega (arith, h, c.min.ensures))

pub loop-j-preserved : goal.loop-j-preserved
loop-j-preserved g c =
    let x = (goal.at.loop-j-preserved g c).After-from-x in
    let all : c.repeats-run.result ≡ c.next_block-b.result.cells
    = omega (arith, c.if-run-b.false, c.repeats-run.ensures.few, c.min.ensures) in
    record {
      passed = run_passed _ _ _ _ _ _ _ _ c.requires _ _ _ (cell g x) (byte g x)
          (agreed g (goal.at.loop-j-preserved g c).Else-not-agrees_at) _ _ _ c.next_block-b.ensures.block.alike
          c.repeats-run.ensures (omega (arith, c.min.ensures)) (omega (arith, c.min.ensures, c.loop-j-test.true));
      onward = rw (all, ← add_assoc c.args.from c.loop-j.j c.next_block-b.result.cells) c.next_block-b.ensures.onward;
    }
