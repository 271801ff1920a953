-- `window::all_cells_have` meets its contract. The invariant: no cell before p has a in the pattern and another symbol
-- than b in the window.
-- Assumes nothing.
use Rattle.std.proofs.Common.{sym, ◌∙◌, arith}
use Rattle.pairs.specs.Pairs.{image_all, image_other}
use Rattle.found.proofs.window.all_cells_have.Goals as goal

pub returns-then-symbol-b : goal.returns-then-symbol-b
returns-then-symbol-b c =
    sym
    (image_other _ _ _ _ c.loop-p.p _ (omega (arith, c.args.c.fitting, c.loop-p-test.true)) c.if-x-a.true
    (λ e. c.if-symbol-b.true (c.symbol.ensures ∙ e)))

pub returns : goal.returns
returns c = sym (image_all _ _ _ _ c.loop-p.p _ (omega (arith, c.loop-p-test.false, c.args.c.fitting)) c.loop-p.invariant)
