-- `columns::pair_symbol` meets its contract: a symbol whose first place is none is not in the pattern, and any other is
-- paired with the window's symbol there.
-- Assumes nothing.
use Rattle.std.proofs.Common.{◌≡◌, ◌∙◌, sym, get_or, arith}
use Rattle.columns.specs.Columns.{pairs_skip, pairs_more, match_even, place_past, place_other}
use Rattle.columns.proofs.columns.pair_symbol.Goals as goal
use Rattle.columns.proofs.columns.pair_symbol.Goals.{Then-b-a}

-- the symbol at the place is another one
differ : (c : Then-b-a) → get_or c.args.c.pattern.now (get_or c.args.first.now c.args.a 0) 0 ≡ c.args.a → ⊥
differ c e = omega (arith, c.from-b.ensures, c.if-b-a.true)

pub returns-then-c-p : goal.returns-then-c-p
returns-then-c-p c =
    pairs_skip _ _ _ _ _ _ c.requires.1 c.requires.2 (place_past _ _ c.requires.0 _ c.if-c-p.true)

pub returns-then-b-a : goal.returns-then-b-a
returns-then-b-a c =
    pairs_skip _ _ _ _ _ _ c.requires.1 c.requires.2
    (place_other _ _ c.requires.0 _ (differ c))

pub returns : goal.returns
returns c =
    rw (c.from.ensures, c.from-2.ensures)
    (pairs_more _ _ _ _ _ _ c.requires.1 c.requires.2 (match_even _ _ c.requires.0) _ _
    (omega (arith, c.if-c-p.false, c.args.c.fitting)) (sym c.from-b.ensures ∙ c.if-b-a.false)
    c.symbol-x.ensures (omega arith))
