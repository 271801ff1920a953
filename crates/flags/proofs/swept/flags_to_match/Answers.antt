-- `swept::flags_to_match` meets its contract. The invariant: the run stands before the window at row top, and the flags
-- of the windows above it are written.
-- Assumes nothing.
use Rattle.std.proofs.Common.{◌≡◌, ◌+◌, ◌*◌, ℕ, ap, arith, get_or}
use Rattle.theory.specs.Older.Laws.{older_zeros}
use Rattle.shapes.specs.Shapes.{across}
use Rattle.flags.specs.Flags.Swept.{swept_first, swept_more, swept_to_match}
use Rattle.flags.proofs.swept.flags_to_match.Goals as goal
use Rattle.flags.proofs.swept.flags_to_match.Goals.{After-swept_flag-r}

-- the count that is handed on is the window's
count_there : (g : _) (c : After-swept_flag-r g)
    → get_or c.args.counts.now (c.loop-top.top * c.across-across.result + c.args.left) 0
    ≡ get_or c.args.counts.now (c.loop-top.top * across c.args.s + c.args.left) 0
count_there g c =
    ap (λ (n : ℕ). get_or c.args.counts.now (c.loop-top.top * n + c.args.left) 0) c.across-across.ensures

pub loop-top-init : goal.loop-top-init
loop-top-init g c =
    swept_first _ _ _ _ _ _ _ c.requires.0 c.requires.2 _ _ _ c.requires.1
    (older_zeros 1 _ (omega arith) c.table-last.ensures)

pub returns-then-links_serve-clause-to_match : goal.returns-then-links_serve-clause-to_match
returns-then-links_serve-clause-to_match g c =
    rw c.across-across.ensures
    (swept_to_match _ _ _ _ _ _ _ c.requires.0 c.requires.2 _ _ _ _ _ (omega arith) c.loop-top.invariant _ _
    (count_there g (goal.at.returns-then-links_serve-clause-to_match g c).After-swept_flag-r)
    c.swept_flag-r.ensures.flag (rw c.across-across.ensures at (c.links_serve.ensures c.if-links_serve.true)))

pub loop-top-preserved : goal.loop-top-preserved
loop-top-preserved g c =
    let got = c.swept_flag-r.ensures in
    rw c.across-across.ensures
    (swept_more _ _ _ _ _ _ _ c.requires.0 c.requires.2 _ _ _ _ _ (omega arith) c.loop-top.invariant _ _
    (count_there g (goal.at.loop-top-preserved g c).After-swept_flag-r) got.flag _ _ _ got.run got.own_so_far)
