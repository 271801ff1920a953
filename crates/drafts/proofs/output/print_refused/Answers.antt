-- `output::print_refused` is safe: the buffer has room for the line of a refusal.
-- Assumes nothing.
use Rattle.std.proofs.Common.{◌≡◌, ◌∙◌, ◌≤◌, refl, sym, ap, arith, ℕ, length, length-take-le}
use Rattle.std.proofs.lemmas.List.{length-replicate}
use Rattle.printing.specs.Lines.Writing.{refusal_length}
use Rattle.printing.specs.Lines.Front.{refusal_front}
use Rattle.drafts.proofs.output.print_refused.Goals as goal
use Rattle.drafts.proofs.output.print_refused.Goals.{After-write_refusal-length}

-- the line is within the buffer
inside : (c : After-write_refusal-length) → c.write_refusal-length.result ≤ length c.write_refusal-length.new.output
inside c =
    let room : length c.table-output.result ≡ 12 =
    ap length c.table-output.ensures ∙ length-replicate {A = ℕ} 12 0 in
    (refusal_front _ _ _ _ _ (omega (arith, room)) refl c.write_refusal-length.ensures.end
    c.write_refusal-length.ensures.output_after).inside

pub write_refusal-length-requires : goal.write_refusal-length-requires
write_refusal-length-requires c =
    let room : length c.table-output.result ≡ 12 =
    ap length c.table-output.ensures ∙ length-replicate {A = ℕ} 12 0 in
    omega (arith, refusal_length c.from.result, room)

pub slice_bounds-output-end : goal.slice_bounds-output-end
slice_bounds-output-end c = inside (goal.at.slice_bounds-output-end c).After-write_refusal-length

pub slice_bounds-print-end : goal.slice_bounds-print-end
slice_bounds-print-end c =
    sym (length-take-le _ _ (inside (goal.at.slice_bounds-print-end c).After-write_refusal-length))
