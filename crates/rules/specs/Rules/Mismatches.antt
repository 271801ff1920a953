-- A mismatch in a listing: what its tests say, and its bytes by the two positions.
-- Assumes nothing.
use Rattle.std.specs.Prelude.{◌≡◌, Bool, true, false, List, [], ◌∷◌, ℕ, ◌+◌, ◌*◌, ◌/◌, ◌%◌, ◌<◌}
use Rattle.std.proofs.Common.{mod-lt, div-lt_iff_lt-mul, div-add-mod', arith}
use Rattle.theory.specs.Test.{Tested}
use Rattle.theory.specs.Test.Laws.{tested_iff, eq_tested, lt_tested, both_tested, not_tested}
use Rattle.theory.specs.Match.{AlikeOnly, Mismatch}
use Rattle.cells.specs.Windows.Laws.{corner_row_lem, corner_column_lem}
use Rattle.cells.specs.declared.windows.WindowPlace.{WindowPlace}
use Rattle.listing.specs.Records.{mismatch_bytes}
use Rattle.listing.specs.Entries.{mismatch_body_at}
use Rattle.claims.specs.Claims.{byte_at, alike_only_test, true_mismatch_test}
use Rattle.rules.specs.Check.{is_due}

-- ---- what the tests say

pub due_tested : (v : WindowPlace) (listing : List ℕ) (at : ℕ)
    → Tested ((byte_at listing at 1 ≡ v.row) × (byte_at listing at 2 ≡ v.column)) (is_due v listing at)
unfolding is_due
due_tested v listing at =
    both_tested (eq_tested (byte_at listing at 1) v.row) (eq_tested (byte_at listing at 2) v.column)

-- two cells of a pattern, the earlier first, spoil the window on that side
pub record Spoils (side : Bool) (m w : ℕ → ℕ) (height width i j k l : ℕ) : Type 0 where
  pub row_inside : i < height
  pub column_inside : j < width
  pub later_row_inside : k < height
  pub later_column_inside : l < width
  pub mismatch : Mismatch side m w (i * width + j) (k * width + l)

module _ (m w : ℕ → ℕ) where
  alike_tested : (side : Bool) (q p : ℕ) → Tested (AlikeOnly side m w q p) (alike_only_test side m w q p)
  alike_tested true q p = both_tested (eq_tested (m q) (m p)) (not_tested (eq_tested (w q) (w p)))
  alike_tested false q p = both_tested (eq_tested (w q) (w p)) (not_tested (eq_tested (m q) (m p)))

  pub spoils_tested : (side : Bool) (height width i j k l : ℕ)
      → Tested (Spoils side m w height width i j k l) (true_mismatch_test side m w height width i j k l)
  unfolding true_mismatch_test
  spoils_tested side height width i j k l =
      tested_iff
      (λ h. record {
        row_inside = h.0.0;
        column_inside = h.0.1;
        later_row_inside = h.1.0.0;
        later_column_inside =
            h.1.0.1;
        mismatch = record { order = h.1.1.0; alike = h.1.1.1 };
      })
      (λ s. (
        (s.row_inside, s.column_inside),
        ((s.later_row_inside, s.later_column_inside), (s.mismatch.order, s.mismatch.alike)),
      ))
      (both_tested (both_tested (lt_tested i height) (lt_tested j width))
      (both_tested (both_tested (lt_tested k height) (lt_tested l width))
      (both_tested (lt_tested (i * width + j) (k * width + l)) (alike_tested side (i * width + j) (k * width + l)))))

-- ---- cells and positions

-- the bytes of two cells by their positions
pub cells_bytes : (row column width i j k l : ℕ) → j < width → l < width
    → mismatch_bytes (mismatch_body_at row column width (i * width + j) (k * width + l))
    ≡ row ∷ column ∷ i ∷ j ∷ k ∷ l ∷ []
cells_bytes row column width i j k l h g =
    rw (
      corner_row_lem width i j h,
      corner_column_lem width i j h,
      corner_row_lem width k l g,
      corner_column_lem width
          k l g,
    )

-- and the positions of a mismatch are cells that spoil
pub spoils_at : (side : Bool) (m w : ℕ → ℕ) (height width q p : ℕ) → 0 < width → p < height * width
    → Mismatch side m w q p
    → Spoils side m w height width (q / width) (q % width) (p / width) (p % width)
spoils_at side m w height width q p some h d =
    let order = d.order in
    record {
      row_inside = (div-lt_iff_lt-mul some).1 (omega arith);
      column_inside = mod-lt q some;
      later_row_inside = (div-lt_iff_lt-mul some).1 h;
      later_column_inside = mod-lt p some;
      mismatch = rw (div-add-mod' q width, div-add-mod' p width) d;
    }
