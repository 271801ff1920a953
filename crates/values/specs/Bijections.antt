-- How a bijection passes to Rust and C: as its two columns.
-- Assumes nothing.
use Rattle.std.specs.Prelude.{ℕ, List}
use Rattle.mapping.specs.declared.bijections.Bijection.{Bijection}

-- the bijection that has these columns
abbrev pub from_columns : List ℕ → List ℕ → Bijection
from_columns forward backward = record { forward = forward; backward = backward }
