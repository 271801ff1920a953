-- A listing holds the bytes of one list of records and no other (`records_injective`), so that what `Printed` says of a
-- listing's records is one output. Why it holds: a record's first byte is its kind, the kind says how many bytes the
-- record has, and no two records have the same bytes.
-- Assumes nothing.
use Rattle.std.specs.Prelude.{◌≡◌, refl, List, [], ◌∷◌, ◌++◌, ℕ, length, get_or, take, drop}
use Rattle.std.proofs.Common.{sym, ◌∙◌, ap, ap₂, arith, length-append}
use Rattle.std.proofs.Math.ListN.{get_or-append}
use Rattle.std.proofs.Math.Seq.{take-append_seam, drop-append_seam}
use Rattle.listing.specs.Records.{bytes_of, kind_size}
use Rattle.listing.specs.Entries.{bytes_all}
use Rattle.reading.specs.Reader.Answers.{bytes_injective}
use Rattle.reading.specs.Reader.RoundTrip.{bytes_some, size_is}
use Rattle.listing.specs.declared.records.Record.{Record}

-- two records that begin the same bytes
module _ (x y : Record) (xs ys : List ℕ) (e : bytes_of x ++ xs ≡ bytes_of y ++ ys) where
  -- have the same kind, and so the same length
  same_length : length (bytes_of x) ≡ length (bytes_of y)
  same_length = sym (size_is x) ∙ ap kind_size kind ∙ size_is y
    where
      kind : get_or (bytes_of x) 0 0 ≡ get_or (bytes_of y) 0 0
      kind =
          sym (get_or-append (bytes_of x) xs 0 0 (bytes_some x))
          ∙ ap (λ (l : List ℕ). get_or l 0 0) e
          ∙ get_or-append (bytes_of y) ys 0 0 (bytes_some y)

  -- are the same
  same_record : x ≡ y
  same_record =
      bytes_injective x y
      (sym (take-append_seam (bytes_of x) xs) ∙ ap₂ (λ (n : ℕ) (l : List ℕ). take n l) same_length e
      ∙ take-append_seam (bytes_of y) ys)

  -- and leave the same bytes
  same_rest : xs ≡ ys
  same_rest =
      sym (drop-append_seam (bytes_of x) xs) ∙ ap₂ (λ (n : ℕ) (l : List ℕ). drop n l) same_length e
      ∙ drop-append_seam (bytes_of y) ys

pub records_injective : (rs ss : List Record) → bytes_all rs ≡ bytes_all ss → rs ≡ ss
unfolding bytes_all
records_injective [] [] e = refl
records_injective [] (s ∷ ss) e =
    absurd (omega (arith, bytes_some s, sym (length-append (bytes_of s) (bytes_all ss)) ∙ sym (ap length e)))
records_injective (r ∷ rs) [] e =
    absurd (omega (arith, bytes_some r, sym (length-append (bytes_of r) (bytes_all rs)) ∙ ap length e))
records_injective (r ∷ rs) (s ∷ ss) e =
    ap₂ (λ (x : Record) (xs : List Record). x ∷ xs) (same_record r s (bytes_all rs) (bytes_all ss) e)
    (records_injective rs ss (same_rest r s (bytes_all rs) (bytes_all ss) e))
