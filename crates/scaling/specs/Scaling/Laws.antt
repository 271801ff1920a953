-- Laws of the room at a scale: a side enlarged fits by its quotient; 2, 3 and 17, then 9 and 10 of the enlarged sides
-- are the chains of crates/scaled; a pattern that lies by sound numbers is the enlargement (`placed_enlarged`), and the
-- numbers of a scale that fits are small.
-- Assumes nothing.
use Rattle.std.specs.Prelude.{◌≡◌, true, List, [], ℕ, ◌*◌, ◌/◌, ◌≤◌, leb, get_or}
use Rattle.std.proofs.Common.{sym, ◌∙◌, ap, le-div_iff_mul-le, le_refl, mul-le-mul, mul-le-mul_left, mul-zero, arith}
use Rattle.std.proofs.Math.Nat.{one-mul}
use Rattle.theory.specs.Test.Laws.{tested_same, tested_iff, le_tested, is_true}
use Rattle.theory.specs.Table.{table}
use Rattle.refusals.specs.Said.{Said, accepts, ◌then◌}
use Rattle.shapes.specs.Shapes.{Sides, windows}
use Rattle.shapes.specs.Questions.{Question, sides_of}
use Rattle.shapes.specs.declared.shapes.Shape.{Shape}
use Rattle.flags.specs.Flags.{Rooms}
use Rattle.placed.specs.Placing.{index_at, enlarged, Sound}
use Rattle.scaled.specs.Scaled.{enlarged_cells, scaled, FitsAt, scaled_shape_said, scaled_room_said, largest_of}
use Rattle.scaled.specs.Scaled.{every_room_said}
use Rattle.scaled.specs.Scaled.Fit.{PosedAt, posed_between, largest_some}
use Rattle.rooms.specs.Rooms.{links_said, windows_said}

-- ---- one side

module _ (whole part k : ℕ) where
  -- nothing enlarged is nothing
  pub none_fits : part ≡ 0 → true ≡ leb (k * part) whole
  none_fits e =
      let none : k * part ≡ 0 = ap (λ (x : ℕ). k * x) e ∙ mul-zero k in
      sym (is_true (le_tested (k * part) whole) (omega arith))

  pub some_fits : 1 ≤ part → leb k (whole / part) ≡ leb (k * part) whole
  some_fits pos =
      tested_same
      (tested_iff
      (le-div_iff_mul-le {k = part} {x = k} {y = whole} pos).0
      (le-div_iff_mul-le {k = part} {x = k} {y = whole} pos).1
      (le_tested k (whole / part)))
      (le_tested (k * part) whole)

-- ---- the chains

module _ (q : Question) (r : Rooms) where
  -- where 2, 3 and 17 refuse nothing, by 9 and 10 for the enlarged sides
  pub scaled_room_goes : (k : ℕ) (links windows : Said) → scaled_shape_said k q ≡ accepts []
      → links ≡ links_said (sides_of (scaled k q)) r.links
      → windows ≡ windows_said (sides_of (scaled k q)) r.counts r.flags
      → links then windows ≡ scaled_room_said k q r
  unfolding scaled_room_said links_said windows_said
  scaled_room_goes k links windows shape l w = rw (shape, l, w)

  -- and by 9 for the largest, 10 for the pattern as it is
  pub every_room_goes : (links windows : Said) → scaled_shape_said 1 q ≡ accepts []
      → links ≡ links_said (sides_of (scaled (largest_of q) q)) r.links
      → windows ≡ windows_said (sides_of q) r.counts r.flags
      → links then windows ≡ every_room_said q r
  unfolding every_room_said links_said windows_said
  every_room_goes links windows shape l w =
      rw (shape, l, w, one-mul q.pattern.rows, one-mul q.pattern.columns)

-- the largest scale fits, where the pattern as it is does
pub largest_fit : (q : Question) (k : ℕ) → k ≡ largest_of q → PosedAt 1 q → FitsAt k (sides_of q)
largest_fit q k e p =
    rw e (posed_between q (largest_of q) p (largest_some q p) (le_refl (largest_of q))).fitting

-- and sides at that scale are those of the question
pub largest_sides : (q : Question) (k : ℕ) (sides : Shape) → k ≡ largest_of q → sides ≡ sides_of (scaled k q)
    → sides ≡ sides_of (scaled (largest_of q) q)
largest_sides q k sides e d = d ∙ ap (λ (n : ℕ). sides_of (scaled n q)) e

-- ---- how an enlargement lies

-- a pattern that lies by sound numbers is the enlargement by their scale
pub placed_enlarged : {k height width cells by_scale by_width by_block : ℕ}
    → Sound k height width cells by_scale by_width by_block → (pattern : List ℕ)
    → enlarged pattern k width cells ≡ enlarged_cells k pattern height width
unfolding enlarged_cells
placed_enlarged {k = k} {width = width} s pattern =
    ap (λ (n : ℕ). table (λ p. get_or pattern (index_at k width p) 0) n) s.cells_is

-- the numbers of a scale that fits are small
module _ (k : ℕ) (s : Shape) (good : Sides s.rows s.columns s.height s.width) (fit : FitsAt k s) where
  pub scale_small : k ≤ 255
  scale_small =
      omega (
        arith,
        mul-le-mul_left k good.height_good.positive,
        fit.height_le,
        good.rows_good.small,
      )

  pub block_small : k * s.width * k ≤ 65025
  block_small =
      let wide : k * s.width ≤ 255 = omega (arith, fit.width_le, good.columns_good.small) in
      omega (arith, mul-le-mul wide scale_small)
