-- `output::print_listing` is safe: the buffer has room for the lines of a listing of at most 64 bytes.
-- Assumes nothing.
use Rattle.std.proofs.Common.{◌≡◌, ◌∙◌, ◌≤◌, sym, ap, arith, ℕ, length, length-take-le}
use Rattle.std.proofs.lemmas.List.{length-replicate}
use Rattle.printing.specs.Lines.Front.{lines_front}
use Rattle.drafts.proofs.output.print_listing.Goals as goal
use Rattle.drafts.proofs.output.print_listing.Goals.{After-write_lines-length}

-- the lines are within the buffer
inside : (c : After-write_lines-length) → c.write_lines-length.result ≤ length c.write_lines-length.new.output
inside c =
    let room : length c.table-output.result ≡ 256 =
    ap length c.table-output.ensures ∙ length-replicate {A = ℕ} 256 0 in
    (lines_front _ _ _ _ c.requires.0 (omega (arith, c.requires.1, room)) c.write_lines-length.ensures).inside

pub slice_bounds-output-end : goal.slice_bounds-output-end
slice_bounds-output-end c = inside (goal.at.slice_bounds-output-end c).After-write_lines-length

pub slice_bounds-print-end : goal.slice_bounds-print-end
slice_bounds-print-end c =
    sym (length-take-le _ _ (inside (goal.at.slice_bounds-print-end c).After-write_lines-length))
