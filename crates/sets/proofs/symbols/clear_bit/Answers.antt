-- `sets::symbols::clear_bit` meets its contract: 1 << k is 2 ^ k, since k is below 64. Where w has bit k it is at least
-- 2 ^ k, and only bit k of w - 2 ^ k differs from w's; where w does not have it, w is right as it is.
-- Assumes nothing.
use mathlib.Core.Path.{◌≡◌, ap, ◌∙◌}
use mathlib.Core.Bool.{true}
use Prim.Native.Nat.{ℕ, ◌-◌, ◌*◌, ◌%◌, ◌^◌}
use native.Mathlib.Omega.{arith}
use Rattle.sets.specs.Symbols.{bit_of}
use Rattle.sets.specs.Symbols.Words.{shifted_one, bit_least, test_present, test_absent, cleared_word, kept_word}
use Rattle.sets.proofs.symbols.clear_bit.Goals as goal
use Rattle.sets.proofs.symbols.clear_bit.Goals.{Then-w-k-eq1}

-- the branch taken: w has bit k
present : (c : Then-w-k-eq1) → bit_of c.args.w c.args.k ≡ true
present c = test_present c.args.w c.args.k c.if-w-k-eq1.true

shifted : (c : Then-w-k-eq1) → (1 * 2 ^ c.args.k) % 2 ^ 64 ≡ 2 ^ c.args.k
shifted c = shifted_one c.args.k c.requires

pub overflow_sub-result : goal.overflow_sub-result
overflow_sub-result c = omega (arith, shifted c, bit_least c.args.k c.args.w (present c))

pub returns-then-w-k-eq1 : goal.returns-then-w-k-eq1
returns-then-w-k-eq1 c =
    ap (λ (u : ℕ). c.args.w - u) (shifted c)
    ∙ cleared_word c.args.w c.args.k 64 c.ranges.w.fits (present c)

pub returns-else-w-k-eq1 : goal.returns-else-w-k-eq1
returns-else-w-k-eq1 c =
    kept_word c.args.w c.args.k 64 c.ranges.w.fits (test_absent c.args.w c.args.k c.if-w-k-eq1.false)
