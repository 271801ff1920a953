-- `invert` fixes the number and the bijection, of the bijection that the columns held; `write_answer` hands both over.
-- Assumes nothing.
use Rattle.std.proofs.Common.{◌≡◌, ◌∙◌, ap, sym}
use Rattle.refusals.specs.Said.{said_number}
use Rattle.mapping.specs.Bijections.{Renamed, renamed, invert_of}
use Rattle.mapping.specs.declared.bijections.Bijection.{Bijection}
use Rattle.values.specs.Bijections.{from_columns}
use Rattle.exports.proofs.bijections.colourway_bijection_invert.Goals as goal
use Rattle.exports.proofs.bijections.colourway_bijection_invert.Goals.{After-write_answer}

-- of the columns that were lent
answer : (c : After-write_answer)
    → renamed (from_columns c.args.forward.now c.args.backward.now) c.invert-inverted.result
    ≡ (λ (b : Bijection). invert_of b) (from_columns c.args.forward.now c.args.backward.now)
answer c =
    ap (λ (b : Bijection). renamed b c.invert-inverted.result) (sym c.bijection_in.ensures)
    ∙ c.invert-inverted.ensures
    ∙ ap (λ (b : Bijection). invert_of b) c.bijection_in.ensures

pub returns : goal.returns
returns c =
    record {
      number = c.write_answer.ensures.number ∙ ap (λ (r : Renamed). said_number r.said) (answer c);
      bijection_after = c.write_answer.ensures.bijection_after ∙ ap (λ (r : Renamed). r.bijection) (answer c);
    }
