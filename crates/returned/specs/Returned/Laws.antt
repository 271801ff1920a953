-- A refusal returns one number at most, so one store writes what it returns.
-- Assumes nothing.
use Rattle.std.specs.Prelude.{◌≡◌, List, ℕ, ◌<◌, length, get_or, set}
use Rattle.std.proofs.Common.{sym, ◌∙◌}
use Rattle.std.proofs.lemmas.List.{set-get_or}
use Rattle.theory.specs.Written.{written, written-set}
use Rattle.theory.specs.Pieces.{written_none}
use Rattle.refusals.specs.Refusals.{values_of, value_or_given}
use Rattle.refusals.specs.Refusals.Laws.{Few, nothing, one, values_few}
use Rattle.refusals.specs.declared.refusals.Refusal.{Refusal}

-- a refusal returns one number at most: one store writes it
value_stored_few : {values : List ℕ} → Few values → (old : List ℕ) (k : ℕ) → k < length old
    → set old k (value_or_given values (get_or old k 0)) ≡ written old k values
value_stored_few nothing old k h = set-get_or old k 0 ∙ sym (written_none old k)
value_stored_few (one n) old k h = written-set old k n h

pub value_stored : (why : Refusal) (old : List ℕ) (k : ℕ) → k < length old
    → set old k (value_or_given (values_of why) (get_or old k 0)) ≡ written old k (values_of why)
value_stored why old k h = value_stored_few (values_few why) old k h
