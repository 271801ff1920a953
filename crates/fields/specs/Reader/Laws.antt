-- What passes to Rust and C is what the reader says: a record comes back from its bytes, and reading always returns a
-- place.
-- Assumes nothing.
use Rattle.std.specs.Prelude.{◌≡◌, refl, Bool, true, false, List, [], ◌∷◌, ℕ, ltb, length}
use Rattle.std.proofs.Common.{sym, ap}
use Rattle.refusals.specs.Said.{accepts, ◌then◌, check_with, said_values}
use Rattle.listing.specs.Records.{bytes_of}
use Rattle.reading.specs.Reader.{whole_at, whole_values, cursor_said}
use Rattle.reading.specs.Reader.Answers.{record_of}
use Rattle.listing.specs.declared.records.Record.{Record}
use Rattle.refusals.specs.Refusals.{value_or_given}
use Rattle.fields.specs.Reader.{fields_of, fields_by, next_by}

pub fields_whole : (r : Record) (next : ℕ) (old : List ℕ) → fields_of r ≡ fields_by (accepts (next ∷ bytes_of r)) old
fields_whole r next old = ap fields_of (sym (record_of r))

-- reading returns a place, whatever it says
pub next_returned : (listing : List ℕ) (at other : ℕ)
    → value_or_given (said_values (cursor_said listing at)) other ∷ [] ≡ next_by (cursor_said listing at)
unfolding cursor_said
next_returned listing at other = go (ltb at (length listing)) (whole_at listing at)
  where
    go : (a b : Bool) → let said =
        check_with a 15 (at ∷ []) then check_with b 6 (at ∷ []) then accepts (whole_values listing at) in
        value_or_given (said_values said) other ∷ [] ≡ next_by said
    go true true = refl
    go true false = refl
    go false b = refl
