-- `inherit::own_end` meets its contract: the own ends are made already, or `own_ends` makes them with the first places,
-- of all rows, which are the whole pattern (`own_ends_all`).
-- Assumes nothing.
use Rattle.inheriting.specs.Inheritance.Laws.{own_ends_all}
use Rattle.inheriting.proofs.inherit.own_end.Goals as goal

pub returns-then-own-gt0 : goal.returns-then-own-gt0
returns-then-own-gt0 c =
    let m = c.requires.1.made c.if-own-gt0.true in
    record { value = m.each c.args.k c.requires.2; own_ends_made = m }

pub returns : goal.returns
returns c =
    let m = own_ends_all _ _ _ _ c.requires.0 c.own_ends.ensures in
    record { value = m.each c.args.k c.requires.2; own_ends_made = m }
