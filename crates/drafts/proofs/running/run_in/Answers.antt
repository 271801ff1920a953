-- `running::run_in` is safe: the listing of an accepted search lies in its buffer and holds records.
-- Assumes nothing.
use Rattle.std.proofs.Common.{◌≤◌, length, arith, sym, length-take-le}
use Rattle.shapes.specs.Questions.{Question, question_in}
use Rattle.entries.specs.Listing.{search_records}
use Rattle.searched.specs.Search.Outcome.{listed_fits, listed_bytes, listed-length, listed_inside}
use Rattle.drafts.proofs.running.run_in.Goals as goal
use Rattle.drafts.proofs.running.run_in.Goals.{In-Ok}

-- the question
abbrev asking : In-Ok → Question
asking c = question_in c.args.q

inside : (c : In-Ok) → c.in-Ok.totals.length ≤ length c.search-answer.new.listing
inside c =
    listed_inside (asking c) _ _ _ _ _ _ c.in-Ok.is c.search-answer.ensures.answer c.search-answer.ensures.bytes.1

pub slice_bounds-print_listing-end : goal.slice_bounds-print_listing-end
slice_bounds-print_listing-end c = inside c

pub slice_bounds-print_listing-end-in-Ok : goal.slice_bounds-print_listing-end-in-Ok
slice_bounds-print_listing-end-in-Ok c =
    sym (length-take-le _ _ (inside (goal.at.slice_bounds-print_listing-end-in-Ok c).In-Ok))

pub print_listing-requires : goal.print_listing-requires
print_listing-requires c =
    let q = asking (goal.at.print_listing-requires c).In-Ok in (
      record {
        records = search_records q;
        bytes_are = listed_bytes q _ _ _ _ _ _ c.in-Ok.is c.search-answer.ensures.answer c.search-answer.ensures.bytes.1;
      },
      omega (
        arith,
        c.requires,
        listed_fits q _ _ _ _ _ _ c.in-Ok.is c.search-answer.ensures.answer,
        listed-length q _ _ _ _ _ _ c.in-Ok.is c.search-answer.ensures.answer c.search-answer.ensures.bytes.1,
      ),
    )
