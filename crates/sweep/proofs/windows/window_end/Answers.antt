-- `windows::window_end` meets its contract: nothing of the window was read and it is compared, or the own ends are
-- ready and `next_end` asks for no more.
-- Assumes nothing.
use Rattle.sweep.specs.Sweep.Runs.{sweep_with, run_asks}
use Rattle.sweep.proofs.windows.window_end.Goals as goal

pub next_end-requires : goal.next_end-requires
next_end-requires g c =
    let p = c.requires in
    run_asks _ _ _ _ _ _ (sweep_with _ _ _ _ _ _ p.0 p.1 _ c.ready_ends.ensures.own_so_far) p.1 _ _ _ p.2 p.3
    (λ _. c.ready_ends.ensures.agreed_bound)
