-- `lines::write_refusal` meets its contract: the word is one piece, the number with the line feed the other.
-- Assumes nothing.
use Rattle.std.proofs.Common.{[], ◌∷◌, ◌++◌}
use Rattle.theory.specs.Pieces.{first_room, second_room, both-written}
use Rattle.printing.specs.Decimal.{decimal}
use Rattle.printing.specs.Lines.{refused_word}
use Rattle.printing.specs.Lines.Writing.{refusal_parts}
use Rattle.printing.proofs.lines.write_refusal.Goals as goal

pub put-end-requires : goal.put-end-requires
put-end-requires c =
    let n = c.args.number in
    first_room _ c.args.at refused_word (decimal n ++ (10 ∷ [])) _ (refusal_parts n) c.requires

pub write_item-requires : goal.write_item-requires
write_item-requires c =
    let n = c.args.number in
    second_room _ c.args.at refused_word (decimal n ++ (10 ∷ [])) _ (refusal_parts n) c.requires _ _
    c.put-end.ensures.buffer_after c.put-end.ensures.end

pub returns : goal.returns
returns c =
    let n = c.args.number in
    let all =
    both-written _ c.args.at refused_word (decimal n ++ (10 ∷ [])) _ (refusal_parts n) c.requires _ _
    c.put-end.ensures.buffer_after c.put-end.ensures.end _ _ c.write_item.ensures.output_after
    c.write_item.ensures.end in
    record { end = all.0; output_after = all.1 }
