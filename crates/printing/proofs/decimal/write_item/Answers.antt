-- `decimal::write_item` meets its contract: the digits are one piece, the byte behind them the other.
-- Assumes nothing.
use Rattle.std.proofs.Common.{[], ◌∷◌, refl}
use Rattle.theory.specs.Pieces.{first_room, second_room, both-written}
use Rattle.printing.specs.Decimal.{decimal}
use Rattle.printing.proofs.decimal.write_item.Goals as goal

pub write_decimal-end-requires : goal.write_decimal-end-requires
write_decimal-end-requires c = first_room _ c.args.at (decimal c.args.n) (c.args.mark ∷ []) _ refl c.requires

pub put-requires : goal.put-requires
put-requires c =
    let digits = c.write_decimal-end.ensures in
    second_room _ c.args.at (decimal c.args.n) (c.args.mark ∷ []) _ refl c.requires _ _ digits.output_after digits.end

pub returns : goal.returns
returns c =
    let digits = c.write_decimal-end.ensures in
    let all =
    both-written _ c.args.at (decimal c.args.n) (c.args.mark ∷ []) _ refl c.requires _ _ digits.output_after
    digits.end _ _ c.put.ensures.buffer_after c.put.ensures.end in
    record { end = all.0; output_after = all.1 }
