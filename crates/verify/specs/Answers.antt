-- What the check answers: where a window or the closing stops the walk, where the listing is kept, and where 2, 3, 4
-- refuse before it begins.
-- Assumes nothing.
use Rattle.std.proofs.Common.{◌≡◌, List, [], ℕ, ◌-◌, ◌∙◌, arith, Ok, Err}
use Rattle.theory.specs.Count.Laws.{count_not}
use Rattle.refusals.specs.Said.{accepts}
use Rattle.shapes.specs.Questions.{Question, windows_of, shape_said}
use Rattle.refusals.specs.declared.refusals.Refusal.{Refusal}
use Rattle.claims.specs.Claims.{Walk}
use Rattle.rules.specs.Check.{closing_from, windows_to, stands_found, found_to, refused_to, listing_walk, checked_said}
use Rattle.rules.specs.Check.{Checked, kept, walk_said, listing_said, check_of}

-- ---- the walk's answer

module _ (q : Question) (listing : List ℕ) where
  -- a window stops it
  pub stopped_answer : (why : Refusal) → windows_to q listing (windows_of q) ≡ Err why
      → checked_said (Err why) ≡ listing_said q listing
  unfolding listing_said listing_walk
  stopped_answer why e = rw e

  module _ (at found : ℕ) (reached : windows_to q listing (windows_of q) ≡ Ok at)
      (found_is : found ≡ found_to q listing (windows_of q)) where
    -- those that are not found are refused
    refused_rest : windows_of q - found ≡ refused_to q listing (windows_of q)
    unfolding found_to refused_to
    refused_rest = omega (arith, found_is, count_not (stands_found q listing) (windows_of q))

    -- all windows are right, and the closing decides
    module _ (refused : ℕ) (refused_is : refused ≡ windows_of q - found) where
      closing_answer : (c : Walk) → c ≡ closing_from listing found refused at
          → walk_said c found refused ≡ listing_said q listing
      unfolding listing_said listing_walk
      closing_answer c e = rw (reached, e, refused_is ∙ refused_rest, found_is)

      pub closing_stopped : (why : Refusal) → Err why ≡ closing_from listing found refused at
          → checked_said (Err why) ≡ listing_said q listing
      closing_stopped why e = closing_answer (Err why) e

      pub closing_kept : (next : ℕ) → Ok next ≡ closing_from listing found refused at
          → checked_said (kept found refused) ≡ listing_said q listing
      closing_kept next e = closing_answer (Ok next) e

  -- ---- 2, 3, 4 before it

  -- where they refuse nothing, the walk's answer is the check's
  pub check_walked : (r : Checked) → shape_said q ≡ accepts [] → checked_said r ≡ listing_said q listing
      → checked_said r ≡ check_of q listing
  unfolding check_of
  check_walked r z e = e ∙ rw z
