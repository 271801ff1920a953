-- `input_buffer` meets its contract: 32,773 bytes are long enough.
-- Assumes nothing.
use lib.ListN.{replicate, length-replicate}
use mathlib.Core.Path.{sym}
use Prim.Native.Nat.{ℕ}
use Rattle.program.specs.Theorems.{long_enough}
use Rattle.colourway.proofs.input_buffer.Goals as goal

pub returns-clause-enough : goal.returns-clause-enough
returns-clause-enough c = (long_enough (replicate 32773 0) (sym (length-replicate {A = ℕ} 32773 0))).1
