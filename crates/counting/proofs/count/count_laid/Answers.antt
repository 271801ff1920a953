-- `count::count_laid` meets its contract: the pattern is read, no own end is made yet, and the rest is `count_flagged`.
-- Assumes nothing.
use Rattle.sweep.specs.Sweep.Own.{own_unmade}
use Rattle.counting.proofs.count.count_laid.Goals as goal

pub count_flagged-requires : goal.count_flagged-requires
count_flagged-requires g c =
    let known = c.read_pattern-known.result in (
      rw c.read_pattern-known.ensures c.requires,
      known.are.count_is,
      known.are.first_are,
      own_unmade _ _ _ _ c.table-own.ensures,
    )

pub returns : goal.returns
returns g c =
    let e = c.count_flagged.ensures in
    record {
      buffers = rw c.read_pattern-known.ensures at e.buffers;
      totals = rw c.read_pattern-known.ensures at e.totals;
    }
