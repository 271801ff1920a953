-- `program::searched_output` meets its contract: the search has run on the input's text and pattern (`has_run`), so
-- that what it answers is printed as the output is to be.
-- Assumes nothing.
use mathlib.Core.Path.{sym}
use native.Mathlib.Omega.{arith}
use lib.Seq.{length-take-le}
use Rattle.program.proofs.Room.{long}
use Rattle.program.specs.Program.Searched.{Ran, ran, refused_output, size_inside, printable, listed_output}
use Rattle.program.proofs.program.searched_output.Goals as goal
use Rattle.program.proofs.program.searched_output.Goals.{After-search-answer}

has_run : (s : After-search-answer) → Ran s.args.input.now s.search-answer.result s.search-answer.new.listing
has_run s =
    ran s.args.input.now _ _ _ s.requires
    (λ k. omega (arith, s.type_inv.input k))
    (long _ _ s.table-links.ensures) (long _ _ s.table-counts.ensures) (long _ _ s.table-flags.ensures)
    (long _ _ s.table-listing.ensures)
    (rw (s.new-q.ensures, s.from-rows.ensures, s.from-columns.ensures, s.from-height.ensures, s.from-width.ensures)
    at s.search-answer.ensures.answer)

pub slice_bounds-listing-end : goal.slice_bounds-listing-end
slice_bounds-listing-end c = size_inside (has_run (goal.at.slice_bounds-listing-end c).After-search-answer) _ _ _ c.in-Ok.is

pub slice_bounds-listed_output-end : goal.slice_bounds-listed_output-end
slice_bounds-listed_output-end c =
    sym (length-take-le _ _
    (size_inside (has_run (goal.at.slice_bounds-listed_output-end c).After-search-answer) _ _ _ c.in-Ok.is))

pub listed_output-requires : goal.listed_output-requires
listed_output-requires c = printable (has_run (goal.at.listed_output-requires c).After-search-answer) _ _ _ c.in-Ok.is

pub returns-in-Ok : goal.returns-in-Ok
returns-in-Ok c = listed_output (has_run (goal.at.returns-in-Ok c).After-search-answer) _ _ _ c.in-Ok.is _ _ c.listed_output.ensures

pub returns-in-Err : goal.returns-in-Err
returns-in-Err c = refused_output (has_run (goal.at.returns-in-Err c).After-search-answer) _ c.in-Err.is _ _ c.refused_output.ensures
