-- A walk that goes on has not stopped; and what the reader's answer says of the bytes at a place.
-- Assumes nothing.
use Rattle.std.specs.Prelude.{◌≡◌, List, ℕ}
use Rattle.refusals.specs.declared.refusals.Refusal.{Refusal}
use Rattle.listing.specs.Records.{mismatch_bytes}
use Rattle.reading.specs.Reader.{bytes_from}
use Rattle.listing.specs.declared.records.MismatchBody.{MismatchBody}
use Rattle.claims.specs.Claims.{Walk}
use Rattle.std.specs.Prelude.{Ok, Err}

-- a walk that goes on has not stopped
pub goes_not_stops : (at : ℕ) (why : Refusal) → ◌≡◌ {A = Walk} (Ok at) (Err why) → ⊥
goes_not_stops at why e = cc

-- a mismatch's body was read at a place
abbrev pub MismatchAt : MismatchBody → List ℕ → ℕ → Type 0
MismatchAt body listing at = mismatch_bytes body ≡ bytes_from listing at 1 6
