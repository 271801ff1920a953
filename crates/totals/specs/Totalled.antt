-- The totals of a question from its flags: the ones among flags that are the truth are the windows found (`totalled`),
-- also where they stand at the front of a buffer (`totalled_front`).
-- Assumes nothing.
use Rattle.std.specs.Prelude.{◌≡◌, refl, not, List, ℕ, ◌-◌, ◌*◌, ◌≤◌, ◌<◌, eqb, length, get_or, take, count_by}
use Rattle.std.proofs.Common.{sym, ap, ◌∙◌, take_all, arith}
use Rattle.std.proofs.lemmas.List.{length-take-le, get_or-take}
use Rattle.theory.specs.Count.Laws.{count_ext}
use Rattle.shapes.specs.Questions.{asked}
use Rattle.shapes.specs.Shapes.{across, down}
use Rattle.shapes.specs.declared.shapes.Shape.{Shape}
use Rattle.occurrences.specs.Distinct.{distinct}
use Rattle.flags.specs.Flags.Strips.{flag_of}
use Rattle.entries.specs.Listing.{listing_length, needed_length}
use Rattle.entries.specs.Listing.Totals.{totals_in, ones, others, ones_counted, others_left, ones_found}
use Rattle.entries.specs.Listing.Totals.{others_refused}
use Rattle.listing.specs.declared.totals.Totals.{Totals}

-- what flags add up to, of a pattern with so many symbols
abbrev pub totals_flagged : List ℕ → ℕ → Totals ℕ
totals_flagged flags symbols =
    let found = ones flags (length flags) in
    let refused = others flags (length flags) in
    record { found = found; refused = refused; length = listing_length found refused symbols }

-- those that are 1 counted, and the others left
pub totals_counted : (flags : List ℕ) (symbols found : ℕ) → found ≡ count_by (λ x. eqb x 1) flags
    → record {
      found = found;
      refused = length flags - found;
      length = listing_length found (length flags - found) symbols;
    }
    ≡ totals_flagged flags symbols
totals_counted flags symbols found e = rw (others_left flags n found counted, counted) refl
  where
    n : ℕ
    n = length flags

    counted : found ≡ ones flags n
    counted =
        e ∙ ap (count_by (λ x. eqb x 1)) (sym (take_all n flags (omega arith))) ∙ ones_counted flags n (omega arith)

-- the ones and the others of flags that are the truth are the totals
pub totalled : (text pattern : List ℕ) (s : Shape) (flags : List ℕ)
    → ((k : ℕ) → k < down s * across s → get_or flags k 0 ≡ flag_of text pattern s k) → (found refused size : ℕ)
    → found ≡ ones flags (down s * across s) → refused ≡ others flags (down s * across s)
    → size ≡ listing_length found refused (distinct pattern)
    → record { found = found; refused = refused; length = size } ≡ totals_in (asked text pattern s)
unfolding needed_length
totalled text pattern s flags flags_are found refused size a b e =
    rw (e, a, b, ones_found text pattern s flags flags_are, others_refused text pattern s flags flags_are)

-- ---- the first flags of a buffer

module _ (flags : List ℕ) (n : ℕ) where
  front_ones : ones (take n flags) n ≡ ones flags n
  unfolding ones
  front_ones = count_ext _ _ n (λ k h. ap (λ (x : ℕ). eqb x 1) (get_or-take n flags k 0 h))

  front_others : others (take n flags) n ≡ others flags n
  unfolding others
  front_others = count_ext _ _ n (λ k h. ap (λ (x : ℕ). not (eqb x 1)) (get_or-take n flags k 0 h))

  -- they add up to their ones and others
  pub totals_front : (symbols : ℕ) → n ≤ length flags
      → totals_flagged (take n flags) symbols
      ≡ record {
        found = ones flags n;
        refused = others flags n;
        length = listing_length (ones flags n) (others flags n) symbols;
      }
  totals_front symbols room = rw (length-take-le n flags room, front_ones, front_others) refl

-- so they are the totals, if they are the truth of every window
pub totalled_front : (text pattern : List ℕ) (s : Shape) (flags : List ℕ) → down s * across s ≤ length flags
    → ((k : ℕ) → k < down s * across s → get_or flags k 0 ≡ flag_of text pattern s k) → (symbols : ℕ)
    → symbols ≡ distinct pattern
    → totals_flagged (take (down s * across s) flags) symbols ≡ totals_in (asked text pattern s)
totalled_front text pattern s flags room flags_are symbols e =
    let n = down s * across s in
    totals_front flags n symbols room
    ∙ totalled text pattern s flags flags_are _ _ _ refl refl
    (ap (λ (d : ℕ). listing_length (ones flags n) (others flags n) d) e)
