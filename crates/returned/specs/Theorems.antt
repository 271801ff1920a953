-- Demand 3 from what the exported search, List and check ensure: where the number is 0, it holds of the listing and
-- of the counts in the totals; its sentence on the one-window answer takes besides what the one-window question
-- ensures. Why it holds: no refusal has the number 0, so that the call was accepted, and then the totals are its
-- values.
-- Assumes nothing.
use Rattle.std.specs.Prelude.{◌≡◌, List, [], ◌∷◌, ℕ, get_or, take}
use Rattle.std.proofs.Common.{sym, ◌∙◌, ap}
use Rattle.theory.specs.Bytes.{Bytes}
use Rattle.refusals.specs.Said.{Said, accepts, said_number}
use Rattle.shapes.specs.Questions.{Question}
use Rattle.entries.specs.Listing.{found_in, refused_in, needed_length}
use Rattle.searched.specs.Search.{totalling, Lent, done, search_of, list_done, list_of}
use Rattle.searched.specs.Theorems.{search_zero}
use Rattle.searched.specs.Parts.{listing_zero}
use Rattle.rules.specs.Check.{check_of}
use Rattle.rules.proofs.Theorems.{check_zero}
use Rattle.guarantee.specs.Demand3.{Demand3, Shows, ListsAnswers}
use Rattle.listing.specs.declared.records.Record.{Record}
use Rattle.guarantee.specs.Theorems.{demand_3}
use Rattle.returned.specs.Returned.{values_by}

-- of the exported search: number, totals and buffers after it as it ensures them
pub searched_from_outside : (q : Question) (l after : Lent) (number : ℕ) (old totals : List ℕ)
    → number ≡ said_number (search_of q l).said → totals ≡ values_by 2 (search_of q l).said old
    → after ≡ (search_of q l).lent
    → Bytes q.text.cells × Bytes q.pattern.cells → number ≡ 0
    → (entry : ℕ → ℕ → List Record)
    × Shows q (take (get_or totals 2 0) after.listing) (get_or totals 0 0) (get_or totals 1 0) entry × ListsAnswers q entry
searched_from_outside q l after number old totals n t b bytes zero =
    rw values (demand_3.1 q l after (found_in q) (refused_in q) (needed_length q) whole bytes.1)
  where
    said : (search_of q l).said ≡ accepts (found_in q ∷ refused_in q ∷ needed_length q ∷ [])
    said = search_zero q l (sym n ∙ zero)

    values : totals ≡ found_in q ∷ refused_in q ∷ needed_length q ∷ []
    values = t ∙ ap (λ (s : Said). values_by 2 s old) said

    whole : done (totalling (found_in q) (refused_in q) (needed_length q)) after ≡ search_of q l
    whole = rw (b, ← said)

-- of the exported List
pub listed_from_outside : (q : Question) (flags old after : List ℕ) (number : ℕ) (before totals : List ℕ)
    → number ≡ said_number (list_of q flags old).said → totals ≡ values_by 2 (list_of q flags old).said before
    → after ≡ (list_of q flags old).buffer
    → Bytes q.text.cells × Bytes q.pattern.cells → number ≡ 0
    → (entry : ℕ → ℕ → List Record)
    × Shows q (take (get_or totals 2 0) after) (get_or totals 0 0) (get_or totals 1 0) entry × ListsAnswers q entry
listed_from_outside q flags old after number before totals n t b bytes zero =
    rw values (demand_3.2 q flags old after (found_in q) (refused_in q) (needed_length q) whole bytes.1)
  where
    said : (list_of q flags old).said ≡ accepts (found_in q ∷ refused_in q ∷ needed_length q ∷ [])
    said = listing_zero q flags old (sym n ∙ zero)

    values : totals ≡ found_in q ∷ refused_in q ∷ needed_length q ∷ []
    values = t ∙ ap (λ (s : Said). values_by 2 s before) said

    whole : list_done (totalling (found_in q) (refused_in q) (needed_length q)) after ≡ list_of q flags old
    whole = rw (b, ← said)

-- of the exported check
pub checked_from_outside : (q : Question) (listing : List ℕ) (number : ℕ) (old totals : List ℕ)
    → number ≡ said_number (check_of q listing) → totals ≡ values_by 0 (check_of q listing) old
    → Bytes q.text.cells × Bytes q.pattern.cells × Bytes listing → number ≡ 0
    → Demand3 q listing (get_or totals 0 0) (get_or totals 1 0)
checked_from_outside q listing number old totals n t bytes zero =
    let z = check_zero q listing (sym n ∙ zero) in
    let values : totals ≡ z.0 ∷ z.1 ∷ [] = t ∙ ap (λ (s : Said). values_by 0 s old) (sym z.2) in
    rw values (demand_3.0 q listing z.0 z.1 z.2 (bytes.1, bytes.2))
