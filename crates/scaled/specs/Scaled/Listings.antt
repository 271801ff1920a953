-- The listings of the scales one after the other: as long as the sum of their lengths says (`listings_length`), each at
-- the place where those before it end (`listings_part`), and written one after the other into a buffer they are all
-- written (`listings_written`). Each is an induction over the scales.
-- Assumes nothing.
use Rattle.std.specs.Prelude.{◌≡◌, List, [], ◌++◌, take, drop}
use Rattle.std.proofs.Common.{sym, ◌∙◌, append_assoc, append-nil, zero-add, add-one, arith, drop-drop}
use Rattle.std.proofs.Math.Path.{ap, ap₂}
use Prim.Native.Nat.{ℕ, zero, suc, ◌+◌, ◌*◌, ◌≤◌}
use Rattle.std.proofs.Math.Decide.{ℕ_discrete}
use Rattle.std.proofs.Math.ListN.{length, length-append}
use Rattle.std.proofs.Math.Seq.{take-append_seam, drop-append_seam}
use Rattle.theory.specs.Bytes.{Bytes}
use Rattle.theory.specs.Join.Laws.{joined-zero, joined-suc}
use Rattle.theory.specs.Written.{written, length-written, written-append}
use Rattle.refusals.specs.Said.{over_front}
use Rattle.shapes.specs.Questions.{Question}
use Rattle.occurrences.specs.Distinct.{distinct}
use Rattle.entries.specs.Listing.{found_in, refused_in, listing_length, needed_length, search_listing}
use Rattle.entries.specs.Listing.Length.{length_listing}
use Rattle.scaled.specs.Scaled.{scaled, sum_to, length_to, listings_to}
use Rattle.scaled.specs.Scaled.Cells.{same_distinct, enlarged_bytes}

-- a piece at the front of the rest of a buffer is a piece at that place
pub front_written : (l : List ℕ) (at : ℕ) (xs : List ℕ) → take at l ++ over_front xs (drop at l) ≡ written l at xs
unfolding written
front_written l at xs =
    sym (append_assoc (take at l) xs (drop (length xs) (drop at l))) ∙ rw (drop-drop (length xs) at l)

-- and one at the buffer's own front is a piece at place 0
pub written_front : (l xs : List ℕ) → over_front xs l ≡ written l 0 xs
unfolding written
written_front l xs = rw (zero-add (length xs))

-- one scale's length is a × (3 + 3d) + 7b + 5 with its own found and refused, and the pattern's d
pub scaled_needed : (k : ℕ) (q : Question) → 1 ≤ k
    → length q.pattern.cells ≡ q.pattern.rows * q.pattern.columns
    → needed_length (scaled k q)
    ≡ listing_length (found_in (scaled k q)) (refused_in (scaled k q)) (distinct q.pattern.cells)
unfolding needed_length
scaled_needed k q pos size = rw (same_distinct k q.pattern pos size)

module _ (q : Question) where
  -- by the last scale
  pub listings_none : listings_to q 0 ≡ []
  unfolding listings_to
  listings_none = joined-zero _

  listings_suc : (n : ℕ) → listings_to q (suc n) ≡ listings_to q n ++ search_listing (scaled (suc n) q)
  unfolding listings_to
  listings_suc n = joined-suc _ n

  pub listings_next : (n : ℕ) → listings_to q (n + 1) ≡ listings_to q n ++ search_listing (scaled (n + 1) q)
  listings_next n = rw (add-one n) (listings_suc n)

  -- those of more scales begin with those of fewer
  pub listings_begin : (k n : ℕ) → k ≤ n → (more : List ℕ) × (listings_to q n ≡ listings_to q k ++ more)
  listings_begin k zero h = ([], ap (listings_to q) (none h) ∙ sym (append-nil (listings_to q k)))
    where
      none : k ≤ 0 → 0 ≡ k
      none h = omega arith
  listings_begin k (suc n) h = go (listings_begin k n) (ℕ_discrete k (suc n))
    where
      go : (k ≤ n → (more : List ℕ) × (listings_to q n ≡ listings_to q k ++ more)) → Dec (k ≡ suc n)
          → (more : List ℕ) × (listings_to q (suc n) ≡ listings_to q k ++ more)
      go ih (yes e) = ([], ap (listings_to q) (sym e) ∙ sym (append-nil (listings_to q k)))
      go ih (no d) =
          let r = ih (omega arith) in (
            r.0 ++ search_listing (scaled (suc n) q),
            listings_suc n ∙ ap (λ (l : List ℕ). l ++ search_listing (scaled (suc n) q)) r.1
                ∙ append_assoc (listings_to q k) r.0 (search_listing (scaled (suc n) q)),
          )

  module _ (bytes : Bytes q.pattern.cells) where
    pub scaled-length : (k : ℕ) → length (search_listing (scaled k q)) ≡ needed_length (scaled k q)
    scaled-length k = length_listing (scaled k q) (enlarged_bytes k q.pattern bytes)

    -- as long as the sum of the lengths says
    pub listings_length : (n : ℕ) → length (listings_to q n) ≡ length_to q n
    unfolding sum_to
    listings_length zero = ap length listings_none
    listings_length (suc n) =
        ap length (listings_suc n) ∙ length-append (listings_to q n) (search_listing (scaled (suc n) q))
        ∙ ap₂ (λ (a b : ℕ). a + b) (listings_length n) (scaled-length (suc n))

    -- written over the front of a buffer that is long enough, they leave it as long as it was
    pub listings_kept : (n : ℕ) (old : List ℕ) → length_to q n ≤ length old
        → length (over_front (listings_to q n) old) ≡ length old
    listings_kept n old h =
        ap length (written_front old (listings_to q n))
        ∙ length-written old 0 (listings_to q n) (omega (arith, listings_length n))

    -- from the place where those of k scales end, as many bytes as scale k + 1 needs are its listing
    pub listings_part : (k n : ℕ) (rest : List ℕ) → k + 1 ≤ n
        → take (needed_length (scaled (k + 1) q)) (drop (length_to q k) (listings_to q n ++ rest))
        ≡ search_listing (scaled (k + 1) q)
    listings_part k n rest h =
        let r = listings_begin (k + 1) n h in
        let whole : listings_to q n ++ rest
        ≡ listings_to q k ++ (search_listing (scaled (k + 1) q) ++ (r.0 ++ rest)) =
        ap (λ (l : List ℕ). l ++ rest) (r.1 ∙ ap (λ (l : List ℕ). l ++ r.0) (listings_next k))
        ∙ append_assoc (listings_to q k ++ search_listing (scaled (k + 1) q)) r.0 rest
        ∙ append_assoc (listings_to q k) (search_listing (scaled (k + 1) q)) (r.0 ++ rest) in
        rw (whole, ← listings_length k, ← scaled-length (k + 1))
        (ap (take (length (search_listing (scaled (k + 1) q))))
        (drop-append_seam (listings_to q k) (search_listing (scaled (k + 1) q) ++ (r.0 ++ rest)))
        ∙ take-append_seam (search_listing (scaled (k + 1) q)) (r.0 ++ rest))

    -- a scale more written behind those before it
    pub listings_written : (n : ℕ) (old : List ℕ)
        → written (over_front (listings_to q n) old) (length_to q n) (search_listing (scaled (n + 1) q))
        ≡ over_front (listings_to q (n + 1)) old
    listings_written n old =
        rw (written_front old (listings_to q n), ← listings_length n)
        (ap (λ (at : ℕ). written (written old 0 (listings_to q n)) at (search_listing (scaled (n + 1) q)))
        (sym (zero-add (length (listings_to q n))))
        ∙ written-append old 0 (listings_to q n) (search_listing (scaled (n + 1) q)) (omega arith))
        ∙ ap (written old 0) (sym (listings_next n))
        ∙ sym (written_front old (listings_to q (n + 1)))
