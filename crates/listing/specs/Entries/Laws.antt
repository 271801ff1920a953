-- Laws of entries: their bytes one after another, their lengths, and that a mapping which carries the pattern onto a
-- window makes right pairs.
-- Assumes nothing.
use Rattle.std.specs.Prelude.{◌≡◌, Bool, List, [], ◌∷◌, ◌++◌, ◌↔◌, ℕ, suc, ◌+◌, ◌*◌, ◌<◌, length, get_or}
use Rattle.std.proofs.Math.Path.{refl}
use Rattle.std.proofs.Common.{sym, ◌∙◌, ap, append-nil, append_assoc, arith}
use Rattle.std.proofs.Math.Bool.{true, false}
use Rattle.theory.specs.Test.Laws.{is_true, says_true}
use Rattle.theory.specs.Count.{Entry}
use Rattle.theory.specs.Count.Laws.{members_iff, members_rising}
use Rattle.theory.specs.Match.{Maps, matched, mismatched}
use Rattle.sets.specs.Symbols.{symbols_of}
use Rattle.occurrences.specs.Distinct.{contains}
use Rattle.occurrences.specs.Distinct.Sets.{contains_tested}
use Rattle.listing.specs.Records.{bytes_of}
use Rattle.listing.specs.declared.records.Record.{Record}
use Rattle.listing.specs.declared.records.Record.TheVariants.{Found, Pair}
use Rattle.listing.specs.Entries.{bytes_all, pairs_of, mismatch_body_at, mismatch_record, entry_of, RightPairs}

-- ---- bytes of records

pub bytes_none : bytes_all [] ≡ []
unfolding bytes_all
bytes_none = refl

pub bytes_cons : (r : Record) (rs : List Record) → bytes_all (r ∷ rs) ≡ bytes_of r ++ bytes_all rs
unfolding bytes_all
bytes_cons r rs = refl

pub bytes_one : (r : Record) → bytes_all (r ∷ []) ≡ bytes_of r
unfolding bytes_all
bytes_one r = append-nil (bytes_of r)

pub bytes_append : (xs ys : List Record) → bytes_all (xs ++ ys) ≡ bytes_all xs ++ bytes_all ys
unfolding bytes_all
bytes_append [] ys = refl
bytes_append (x ∷ xs) ys =
    ap (λ (r : List ℕ). bytes_of x ++ r) (bytes_append xs ys)
    ∙ sym (append_assoc (bytes_of x) (bytes_all xs) (bytes_all ys))

-- ---- pairs

pub pairs_none : (image : ℕ → ℕ) → pairs_of image [] ≡ []
unfolding pairs_of
pairs_none image = refl

pub pairs_cons : (image : ℕ → ℕ) (a : ℕ) (xs : List ℕ) → pairs_of image (a ∷ xs) ≡ Pair a (image a) ∷ pairs_of image xs
unfolding pairs_of
pairs_cons image a xs = refl

-- a pair has three bytes
pub length_pairs : (image : ℕ → ℕ) (xs : List ℕ) → length (bytes_all (pairs_of image xs)) ≡ 3 * length xs
unfolding pairs_of bytes_all
length_pairs image [] = refl
length_pairs image (a ∷ xs) = omega (arith, length_pairs image xs)

-- equal images of the symbols listed
pub pairs_ext : (f g : ℕ → ℕ) (xs : List ℕ) → ((i : ℕ) → i < length xs → f (get_or xs i 0) ≡ g (get_or xs i 0))
    → pairs_of f xs ≡ pairs_of g xs
unfolding pairs_of
pairs_ext f g [] h = refl
pairs_ext f g (a ∷ xs) h =
    ap (λ (x : ℕ). Pair a x ∷ pairs_of f xs) (h 0 (omega arith))
    ∙ ap (λ (rs : List Record). Pair a (g a) ∷ rs) (pairs_ext f g xs (λ i l. h (suc i) (omega arith)))

-- ---- right pairs

-- the symbols of a pattern are just those that stand in it
symbols_just : (pattern : List ℕ) → ((k : ℕ) → get_or pattern k 0 < 256) → (a : ℕ) → Entry (symbols_of pattern) a
    ↔ ((p : ℕ) × (p < length pattern) × (get_or pattern p 0 ≡ a))
symbols_just pattern bytes a = (
  (λ e. says_true (contains_tested pattern a) ((members_iff (contains pattern) 256 a).0 e).1),
  (λ e. (members_iff (contains pattern) 256 a).1 (rw (← e.2) (bytes e.0), is_true (contains_tested pattern a) e)),
)

-- so a mapping that carries the pattern onto a window makes right pairs with them
pub right_pairs : (pattern : List ℕ) (w : ℕ → ℕ) (n : ℕ) (image : ℕ → ℕ) → ((k : ℕ) → get_or pattern k 0 < 256)
    → Maps (λ p. get_or pattern p 0) w n image
    → RightPairs pattern w n (symbols_of pattern) image
right_pairs pattern w n image bytes maps =
    record { rising = members_rising (contains pattern) 256; just = symbols_just pattern bytes; maps = maps }

-- ---- entries

module _ (row column width : ℕ) (symbols : List ℕ) (image : ℕ → ℕ) where
  pub entry_found : entry_of row column width symbols image matched ≡ Found row column ∷ pairs_of image symbols
  unfolding entry_of
  entry_found = refl

  pub entry_refused : (side : Bool) (q p : ℕ)
      → entry_of row column width symbols image (mismatched side q p)
      ≡ mismatch_record side (mismatch_body_at row column width q p) ∷ []
  unfolding entry_of
  entry_refused side q p = refl

  -- a found window has 3 + 3d bytes, a refused one 7
  pub length_found : length (bytes_all (entry_of row column width symbols image matched)) ≡ 3 + 3 * length symbols
  unfolding entry_of bytes_all
  length_found = omega (arith, length_pairs image symbols)

  pub length_refused : (side : Bool) (q p : ℕ)
      → length (bytes_all (entry_of row column width symbols image (mismatched side q p))) ≡ 7
  unfolding entry_of bytes_all
  length_refused true q p = refl
  length_refused false q p = refl
