-- Whether flags are the truth, one strip after the other: all of them are exactly if those of every strip are.
-- Assumes nothing.
pub mod Laws
use Rattle.std.specs.Prelude.{◌≡◌, Bool, List, ℕ, ◌+◌, ◌*◌, ◌<◌, eqb, get_or}
use Rattle.theory.specs.First.{every}
use Rattle.shapes.specs.Shapes.{across, down}
use Rattle.shapes.specs.declared.shapes.Shape.{Shape}
use Rattle.flags.specs.Flags.Strips.{flag_of}

-- What the inner functions' contracts cite.

-- the flags of the windows at column left are the truth
unfoldable pub column_true : List ℕ → List ℕ → Shape → ℕ → List ℕ → Bool
column_true text pattern s left flags =
    every (λ top. eqb (get_or flags (top * across s + left) 0) (flag_of text pattern s (top * across s + left)))
    (down s)

-- those of its first n windows are
abbrev pub TrueTo : List ℕ → List ℕ → Shape → ℕ → List ℕ → ℕ → Type 0
TrueTo text pattern s left flags n =
    (top : ℕ) → top < n → get_or flags (top * across s + left) 0 ≡ flag_of text pattern s (top * across s + left)

-- those of the first n strips are
abbrev pub StripsTrue : List ℕ → List ℕ → Shape → List ℕ → ℕ → Type 0
StripsTrue text pattern s flags n = (left : ℕ) → left < n → TrueTo text pattern s left flags (down s)
