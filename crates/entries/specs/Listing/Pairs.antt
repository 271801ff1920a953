-- The pairs of a found window, symbol by symbol down a list: the next pair, and that none is left at the list's end.
-- Assumes nothing.
use Rattle.std.specs.Prelude.{◌≡◌, refl, List, [], ◌++◌, ℕ, suc, ◌+◌, ◌*◌, ◌≤◌, ◌<◌, length, get_or, drop}
use Rattle.std.proofs.Common.{ap, ◌∙◌, add-one, drop_of_length-le, drop-cons}
use Rattle.sets.specs.Symbols.{symbols_of}
use Rattle.cells.specs.declared.windows.WindowPlace.{WindowPlace}
use Rattle.theory.specs.Written.{written}
use Rattle.listing.specs.Records.{bytes_of}
use Rattle.theory.specs.Pieces.{Left, left_room, left_less}
use Rattle.listing.specs.Entries.{bytes_all, pairs_of}
use Rattle.listing.specs.Entries.Laws.{bytes_none, bytes_cons, pairs_none, pairs_cons, length_pairs}
use Rattle.listing.specs.declared.records.Record.TheVariants.{Found, Pair}
use Rattle.entries.specs.Listing.Entries.{images_at, found_records}

-- the bytes of the pairs of listed symbols, each with its image
unfoldable pub pair_bytes : (ℕ → ℕ) → List ℕ → List ℕ
pair_bytes f xs = bytes_all (pairs_of f xs)

-- three bytes for each
pub pairs_long : (f : ℕ → ℕ) (xs : List ℕ) → length (pair_bytes f xs) ≡ 3 * length xs
unfolding pair_bytes
pairs_long f xs = length_pairs f xs

-- a found window's bytes
pub found_bytes : (text : List ℕ) (v : WindowPlace) (pattern : List ℕ)
    → bytes_all (found_records text v pattern) ≡ bytes_of (Found v.row v.column)
    ++ pair_bytes (images_at text v pattern) (symbols_of pattern)
unfolding pair_bytes
found_bytes text v pattern =
    bytes_cons (Found v.row v.column) (pairs_of (images_at text v pattern) (symbols_of pattern))

module _ (f : ℕ → ℕ) (xs : List ℕ) (k : ℕ) where
  -- those from symbol k on: its pair, and then those behind it
  pairs_next : (a x : ℕ) → k < length xs → a ≡ get_or xs k 0 → x ≡ f (get_or xs k 0)
      → pair_bytes f (drop k xs) ≡ bytes_of (Pair a x) ++ pair_bytes f (drop (k + 1) xs)
  unfolding pair_bytes
  pairs_next a x h e d =
      rw (d, e, add-one k)
      (ap (λ (ys : List ℕ). bytes_all (pairs_of f ys)) (drop-cons xs k 0 h)
      ∙ ap bytes_all (pairs_cons f (get_or xs k 0) (drop (suc k) xs))
      ∙ bytes_cons (Pair (get_or xs k 0) (f (get_or xs k 0))) (pairs_of f (drop (suc k) xs)))

  -- the buffer has room for the next pair, and when it is written less is left
  module _ (whole : List ℕ) (stop : ℕ) (l : List ℕ) (at : ℕ) (h : Left whole stop l at (pair_bytes f (drop k xs)))
      (b : k < length xs) where
    pub pair_room : at + 3 ≤ length l
    pair_room =
        left_room l at (pair_bytes f (drop k xs)) h (bytes_of (Pair (get_or xs k 0) (f (get_or xs k 0))))
        (pair_bytes f (drop (k + 1) xs)) (pairs_next (get_or xs k 0) (f (get_or xs k 0)) b refl refl)

    pub pair_less : (a x : ℕ) → a ≡ get_or xs k 0 → x ≡ f (get_or xs k 0) → (new : List ℕ) (next : ℕ)
        → new ≡ written l at (bytes_of (Pair a x)) → next ≡ at + length (bytes_of (Pair a x))
        → Left whole stop new next (pair_bytes f (drop (k + 1) xs))
    pair_less a x e d new next n s =
        left_less l at (pair_bytes f (drop k xs)) h (bytes_of (Pair a x)) (pair_bytes f (drop (k + 1) xs))
        (pairs_next a x b e d) new next n s

  pub pairs_over : length xs ≤ k → pair_bytes f (drop k xs) ≡ []
  unfolding pair_bytes
  pairs_over h =
      ap (λ (ys : List ℕ). bytes_all (pairs_of f ys)) (drop_of_length-le xs h)
      ∙ ap bytes_all (pairs_none f) ∙ bytes_none
