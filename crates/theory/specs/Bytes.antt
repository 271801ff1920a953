-- A list of bytes.
-- Assumes nothing.
use Rattle.std.specs.Prelude.{List, ℕ, ◌<◌, get_or}

-- every entry is a byte. Behind the end there is none, and `get_or` gives 0.
abbrev pub Bytes : List ℕ → Type 0
Bytes l = (k : ℕ) → get_or l k 0 < 256
