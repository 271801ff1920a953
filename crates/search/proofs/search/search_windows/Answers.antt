-- `search::search_windows` meets its contract: the flags that the first step leaves are those of all windows
-- (`flagged_after`), the second asks for no more, and the two together are the search (`steps_joined`).
-- Assumes nothing.
use Rattle.shapes.specs.Questions.{asked}
use Rattle.flags.specs.Flags.{working}
use Rattle.sweep.specs.Sweep.Own.{own_unmade}
use Rattle.searched.specs.Search.{lend}
use Rattle.search.specs.Steps.{flagged_after, steps_joined}
use Rattle.search.proofs.search.search_windows.Goals as goal

pub count_flagged-totals-requires : goal.count_flagged-totals-requires
count_flagged-totals-requires g c =
    let known = c.read_pattern-known.result in (
      rw c.read_pattern-known.ensures c.requires,
      known.are.count_is,
      known.are.first_are,
      own_unmade _ _ _ _ c.table-own.ensures,
    )

pub list_flagged-requires : goal.list_flagged-requires
list_flagged-requires g c =
    let a = c.args in
    let counted = c.count_flagged-totals.ensures in (
      record {
        flagged = λ _.
            flagged_after _ _ _ (working a.links.now a.counts.now a.flags.now) _
            (rw c.read_pattern-known.ensures c.requires) counted.buffers;
        totalled = λ _. counted.totals;
      },
      counted.own_so_far,
    )

pub returns : goal.returns
returns g c =
    let a = c.args in
    let e = c.read_pattern-known.ensures in
    steps_joined (asked a.text.now (g.P.Pattern.cells a.pattern) a.s)
    (lend a.links.now a.counts.now a.flags.now a.listing.now) _ c.list_flagged.result _
    (rw e at c.count_flagged-totals.ensures.buffers) (rw e at c.list_flagged.ensures)
