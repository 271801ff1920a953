-- How a record passes to Rust and C: its kind and the numbers of its body, and 0 for what it does not have; and what
-- reading leaves in what is lent.
-- Assumes nothing.
pub mod Laws
use Rattle.std.specs.Prelude.{List, [], ◌∷◌, ℕ, take, drop}
use Rattle.refusals.specs.Said.{Said, accepts, refuses, said_values}
use Rattle.listing.specs.Records.{record_from_bytes}
use Rattle.listing.specs.declared.records.Record.{Record}
use Rattle.listing.specs.declared.records.Record.TheVariants.{Found, Pair, Mismatch, Closing}
use Rattle.listing.specs.declared.records.Side.TheVariants.{Pattern, Window}

-- a record's numbers
abbrev pub fields_of : Record → List ℕ
fields_of (Found row column) = 1 ∷ row ∷ column ∷ 0 ∷ 0 ∷ 0 ∷ 0 ∷ []
fields_of (Pair pattern text) = 2 ∷ pattern ∷ text ∷ 0 ∷ 0 ∷ 0 ∷ 0 ∷ []
fields_of (Mismatch Pattern b) =
    3 ∷ b.window.row ∷ b.window.column ∷ b.earlier.row ∷ b.earlier.column ∷ b.later.row ∷ b.later.column
    ∷ []
fields_of (Mismatch Window b) =
    4 ∷ b.window.row ∷ b.window.column ∷ b.earlier.row ∷ b.earlier.column ∷ b.later.row ∷ b.later.column
    ∷ []
fields_of (Closing found refused) = 5 ∷ found ∷ refused ∷ 0 ∷ 0 ∷ 0 ∷ 0 ∷ []

-- the fields after reading that says so: accepted, the numbers of the record whose bytes come behind the place after
-- it; refused, what stood there
abbrev pub fields_by : Said → List ℕ → List ℕ
fields_by (accepts values) old = fields_of (record_from_bytes (drop 1 values))
fields_by (refuses number values) old = old

-- next after it: the first number returned, which is the place after the record or, refused, the cursor's place
abbrev pub next_by : Said → List ℕ
next_by said = take 1 (said_values said)
