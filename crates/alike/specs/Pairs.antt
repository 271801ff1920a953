-- Pairs of cells that are alike in the pattern, as offsets from a window's corner in the text: where the cells of one
-- of them are not alike in a window, a mismatch ends in it (`pairs_differ`), since a match keeps equal symbols equal.
-- Assumes nothing.
use Rattle.std.specs.Prelude.{◌≡◌, refl, Bool, List, ℕ, ◌+◌, ◌≤◌, ◌<◌, eqb, length, get_or, set, replicate}
use Rattle.std.proofs.Common.{zero-mul, arith, length-set, get_or-set_same, get_or-set_other}
use Rattle.std.proofs.Math.Nat.{zero-div, zero-mod}
use Rattle.std.proofs.lemmas.List.{length-replicate, get_or-replicate}
use Rattle.theory.specs.Test.{Tested, holds, fails}
use Rattle.theory.specs.Test.Laws.{eq_tested}
use Rattle.theory.specs.First.Laws.{first_spec}
use Rattle.theory.specs.Match.{ends, first_end}
use Rattle.theory.specs.Match.Even.{Even, even_if}
use Rattle.cells.specs.Windows.{offset_of}
use Rattle.prefixes.specs.State.{FirstPlaces}
use Rattle.alike.specs.declared.pairs.Pair.{Pair}

-- What the inner functions' contracts cite.

-- x and y are the offsets of two positions of the pattern with the same symbol
pub record PairAt (pattern : List ℕ) (columns width x y : ℕ) : Type 0 where
  pub p : ℕ
  pub q : ℕ
  pub p_in : p < length pattern
  pub q_in : q < length pattern
  pub alike : get_or pattern p 0 ≡ get_or pattern q 0
  pub x_is : x ≡ offset_of columns width p
  pub y_is : y ≡ offset_of columns width q

-- the corner with itself
abbrev pub no_pair : Pair
no_pair = record { earlier = 0; later = 0 }

-- eight such pairs
pub record AlikePairs (pattern : List ℕ) (columns width : ℕ) (pairs : List Pair) : Type 0 where
  pub long : length pairs ≡ 8
  pub each : (i : ℕ) → i < 8
      → PairAt pattern columns width (get_or pairs i no_pair).earlier (get_or pairs i no_pair).later

-- the cells of pair i are alike in the window at that corner
abbrev pub alike_at : List ℕ → ℕ → List Pair → ℕ → Bool
alike_at text corner pairs i =
    eqb (get_or text (corner + (get_or pairs i no_pair).earlier) 0)
    (get_or text (corner + (get_or pairs i no_pair).later) 0)

-- the cells of eight pairs lie in the text
pub record PairsInside (cells corner : ℕ) (pairs : List Pair) : Type 0 where
  pub long : length pairs ≡ 8
  pub small : cells ≤ 65025
  pub earlier_in : (i : ℕ) → i < 8 → corner + (get_or pairs i no_pair).earlier < cells
  pub later_in : (i : ℕ) → i < 8 → corner + (get_or pairs i no_pair).later < cells

-- ---- the pairs

module _ (pattern : List ℕ) (columns width : ℕ) where
  -- a cell with itself
  pub pairs_none : 0 < length pattern → 0 < width → AlikePairs pattern columns width (replicate 8 no_pair)
  pairs_none h w =
      record {
        long = length-replicate {A = Pair} 8 no_pair;
        each = λ i l. rw (get_or-replicate {A = Pair} 8 i no_pair no_pair l) (record {
          p = 0;
          q = 0;
          p_in = h;
          q_in = h;
          alike = refl;
          x_is = zero_at;
          y_is = zero_at;
        });
      }
    where
      zero_at : 0 ≡ offset_of columns width 0
      zero_at = rw (zero-div width, zero-mod width, zero-mul)

  module _ (first : List ℕ) (places : FirstPlaces (λ k. get_or pattern k 0) (length pattern) first) where
    -- a position with the first place of its symbol
    pub pair_first : (q x y : ℕ) → q < length pattern
        → x ≡ offset_of columns width (get_or first (get_or pattern q 0) 0)
        → y ≡ offset_of columns width q → PairAt pattern columns width x y
    pair_first q x y h e f =
        let a = places.each q h in
        record {
          p = get_or first (get_or pattern q 0) 0;
          q = q;
          p_in = omega (arith, a.0);
          q_in = h;
          alike = a.1;
          x_is = e;
          y_is = f;
        }

  pub pairs_more : (pairs : List Pair) (n : ℕ) (x : Pair) → n < 8 → PairAt pattern columns width x.earlier x.later
      → AlikePairs pattern columns width pairs → AlikePairs pattern columns width (set pairs n x)
  pairs_more pairs n x h new old =
      record { long = rw length-set old.long; each = λ i l. go i l (eq_tested i n) }
    where
      go : (i : ℕ) {b : Bool} → i < 8 → Tested (i ≡ n) b
          → PairAt pattern columns width (get_or (set pairs n x) i no_pair).earlier
          (get_or (set pairs n x) i no_pair).later
      go i l (holds e) = rw (e, get_or-set_same pairs n x no_pair (omega (arith, old.long))) new
      go i l (fails d) = rw (get_or-set_other pairs n i x no_pair d) (old.each i l)

-- ---- a window

-- where no mismatch ends, two positions are alike in the window exactly if they are in the pattern
pub clear_even : (m w : ℕ → ℕ) (n : ℕ) → n ≤ first_end m w n → Even m w n
unfolding first_end
clear_even m w n none = even_if m w n (λ k l. (first_spec (ends m w) n).before k (omega arith))
