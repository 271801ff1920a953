-- What a call returns to Rust and C besides its number, in the numbers that are lent for it.
-- Assumes nothing.
pub mod Laws
use Rattle.std.specs.Prelude.{List, [], ◌∷◌, ℕ, Result}
use Rattle.theory.specs.Written.{written}
use Rattle.refusals.specs.Said.{Said, accepts, refuses, answer_said}
use Rattle.refusals.specs.declared.refusals.Refusal.{Refusal}
use Rattle.listing.specs.declared.totals.Totals.{Totals}

-- the numbers after a call that says so: accepted, the values that it returns; refused, what the refusal returns from
-- place k on, and the rest as it was
abbrev pub values_by : ℕ → Said → List ℕ → List ℕ
values_by k (accepts values) old = values
values_by k (refuses number values) old = written old k values

-- the papers' number and values of an answer whose counts are numbers of one width or another (`searched_said`)
abbrev pub totals_said : {N : Type 0} → (N → ℕ) → Result (Totals N) Refusal → Said
totals_said {N = N} number answer = answer_said (λ (t : Totals N). number t.found ∷ number t.refused ∷ t.length ∷ []) answer
