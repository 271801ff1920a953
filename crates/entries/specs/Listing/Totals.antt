-- The totals of a search from its flags: as many ones as windows that match, as many others as windows that do not, and
-- together all windows.
-- Assumes nothing.
use Rattle.std.specs.Prelude.{◌≡◌, refl, Bool, true, false, not, List, ℕ}
use Rattle.std.specs.Prelude.{zero, suc, ◌+◌, ◌-◌, ◌*◌, ◌≤◌, ◌<◌, eqb, length}
use Rattle.std.specs.Prelude.{get_or, take, count_by}
use Rattle.std.proofs.Common.{ap, ◌∙◌, add-one, eq-eqb, ne_eqb, arith}
use Rattle.std.proofs.lemmas.List.Sums.{count_by_more_yes, count_by_more_no}
use Rattle.theory.specs.Test.{pick}
use Rattle.theory.specs.Count.{count}
use Rattle.theory.specs.Count.Laws.{count_ext, count_le, count_not}
use Rattle.theory.specs.Match.{is_match}
use Rattle.shapes.specs.Questions.{Question, asked, windows_of}
use Rattle.shapes.specs.Shapes.{across, down}
use Rattle.shapes.specs.declared.shapes.Shape.{Shape}
use Rattle.matching.specs.Questions.{answer_at}
use Rattle.flags.specs.Flags.{window_flag}
use Rattle.flags.specs.Flags.Strips.{flag_of}
use Rattle.entries.specs.Listing.{found_in, refused_in, needed_length}
use Rattle.listing.specs.declared.totals.Totals.{Totals}

-- what the windows of a search add up to
abbrev pub totals_in : Question → Totals ℕ
totals_in q = record { found = found_in q; refused = refused_in q; length = needed_length q }

-- how many of the first n flags are 1
unfoldable pub ones : List ℕ → ℕ → ℕ
ones flags n = count (λ k. eqb (get_or flags k 0) 1) n

-- and how many are not
unfoldable pub others : List ℕ → ℕ → ℕ
others flags n = count (λ k. not (eqb (get_or flags k 0) 1)) n

-- ---- flag by flag

module _ (flags : List ℕ) where
  -- as a filter counts them
  pub ones_counted : (n : ℕ) → n ≤ length flags → count_by (λ x. eqb x 1) (take n flags) ≡ ones flags n
  unfolding ones count
  ones_counted zero h = refl
  ones_counted (suc n) h = rw (← add-one n) (go _ refl (ones_counted n (omega arith)))
    where
      one : ℕ → Bool
      one x = eqb x 1

      go : (b : Bool) → one (get_or flags n 0) ≡ b → count_by one (take n flags) ≡ ones flags n
          → count_by one (take (n + 1) flags) ≡ pick (one (get_or flags n 0)) (ones flags n + 1) (ones flags n)
      go true e below = rw e (count_by_more_yes one flags n 0 (omega arith) e ∙ ap (λ (m : ℕ). m + 1) below)
      go false e below = rw e (count_by_more_no one flags n 0 (omega arith) e ∙ below)

  pub ones_le : (n : ℕ) → ones flags n ≤ n
  unfolding ones
  ones_le n = count_le _ n

  pub ones-others : (n : ℕ) → ones flags n + others flags n ≡ n
  unfolding ones others
  ones-others n = count_not (λ k. eqb (get_or flags k 0) 1) n

  -- what is left of n flags are the others
  pub others_left : (n found : ℕ) → found ≡ ones flags n → n - found ≡ others flags n
  others_left n found e = omega (arith, ones-others n)

-- ---- the flags of all windows

flag_test : (b : Bool) (x : ℕ) → x ≡ pick b 1 0 → eqb x 1 ≡ b
flag_test true x e = eq-eqb x 1 e
flag_test false x e = ne_eqb x 1 (λ d. absurd (omega arith))

module _ (text pattern : List ℕ) (s : Shape) (flags : List ℕ)
    (flags_are : (k : ℕ) → k < down s * across s → get_or flags k 0 ≡ flag_of text pattern s k) where
  pub match_test : (k : ℕ) → k < down s * across s
      → eqb (get_or flags k 0) 1 ≡ is_match (answer_at (asked text pattern s) k)
  unfolding window_flag
  match_test k h = flag_test (is_match (answer_at (asked text pattern s) k)) (get_or flags k 0) (flags_are k h)

  pub ones_found : ones flags (down s * across s) ≡ found_in (asked text pattern s)
  unfolding ones found_in
  ones_found = count_ext _ _ (down s * across s) match_test

  pub others_refused : others flags (down s * across s) ≡ refused_in (asked text pattern s)
  unfolding others refused_in
  others_refused = count_ext _ _ (down s * across s) (λ k h. ap not (match_test k h))

-- every window is found or refused
pub found_refused : (q : Question)
    → found_in q + refused_in q ≡ windows_of q
unfolding found_in refused_in
found_refused q =
    count_not (λ k. is_match (answer_at q k)) (windows_of q)
