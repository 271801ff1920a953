-- `Symbols::size` meets its contract. The invariant: the ones of the words passed are the symbols of the set below them.
-- A word has at most 64 ones, so the sum is small.
-- Assumes nothing.
use Rattle.std.proofs.Common.{◌∙◌, ◌≤◌, ◌<◌, ◌^◌, ℕ, Fits, w64, ap, arith}
use Rattle.std.specs.Int.Count.{ones}
use Rattle.std.proofs.lemmas.Nat.{ones-le}
use Rattle.theory.specs.Count.{count}
use Rattle.sets.specs.Symbols.{has}
use Rattle.sets.specs.Symbols.Blocks.{ones_none, ones_more, ones_few}
use Rattle.sets.proofs.symbols.Symbols.size.Goals as goal

word : (w : ℕ) → Fits w64 w → w < 2 ^ 64
word w h = omega (arith, h)

few : (w : ℕ) → Fits w64 w → ones w ≤ 64
few w h = ones-le 64 w (word w h)

pub loop-w-init : goal.loop-w-init
loop-w-init c = ones_none c.args.self

pub overflow_add-n : goal.overflow_add-n
overflow_add-n c =
    omega (arith, ones_few c.args.self c.loop-w.w-index c.loop-w.n c.loop-w.invariant, few _ c.loop-w-test.element_fits)

pub loop-w-preserved : goal.loop-w-preserved
loop-w-preserved c =
    ones_more c.args.self c.loop-w.w-index c.loop-w.n (word _ c.loop-w-test.element_fits) c.loop-w.invariant

pub returns : goal.returns
returns c = c.loop-w.invariant ∙ ap (count (has c.args.self)) (omega arith)
