-- `input::input_outcome` meets its contract: 1 where a size is missing, and else what the sizes and the number of bytes
-- behind them say.
-- Assumes nothing.
use Rattle.std.proofs.Common.{◌≡◌, ℕ, List, ◌∙◌, ◌-◌, length, take, drop, arith}
use Rattle.std.proofs.Math.ListN.{length-take, length-drop}
use Rattle.input.specs.Input.Accepted.{sizes_missing, by_sizes}
use Rattle.input.proofs.input.input_outcome.Goals as goal

-- what stands behind the sizes
behind : (l : List ℕ) → length (take (length l - 4) (drop 4 l)) ≡ length l - 4
behind l = rw (length-take (length l - 4) (drop 4 l), length-drop 4 l) (omega arith)

pub returns-in_default : goal.returns-in_default
returns-in_default c = sizes_missing _ c.in_default.len_below

pub returns : goal.returns
returns c =
    c.sizes_outcome.ensures
    ∙ rw (c.from.ensures, c.from-2.ensures, c.from-3.ensures, c.from-4.ensures, behind c.args.input.now)
    (by_sizes c.args.input.now c.in-len4-up.len_at_least)
