-- When an enlargement fits: by products, as document 02 says it, by quotients, as the code tests it, and by the largest
-- scale (`fits_tested`, `quotients_tested`, `largest_tested`: one test, three statements; the last two need a pattern
-- that has cells). What the chain 2, 3, 17 passes (`PosedAt`): then the question with the enlarged pattern is posed,
-- with sides of at most 255. What a scale needs of links rises with it, of counts and flags falls, so that room at the
-- ends is room for every scale between.
-- Assumes nothing.
use Rattle.std.specs.Prelude.{◌≡◌, Bool, false, ℕ, ◌*◌, ◌/◌, ◌≤◌, ◌<◌, leb, length}
use Rattle.std.proofs.Math.Path.{sym}
use Rattle.std.proofs.Common.{◌∙◌, le-div_iff_mul-le, div-le_self, mul-le-mul, mul-le-mul_left, mul-le-mul_right, arith}
use mathlib.Core.List.{List, []}
use Rattle.std.proofs.Math.Nat.{le-min, min-le_left, min-le_right}
use borrow.Author.Tests.{le-leb}
use Rattle.theory.specs.Test.{both, Tested}
use Rattle.theory.specs.Test.Laws.{tested_iff, le_tested, both_tested, is_true, is_false, says_true}
use Rattle.theory.specs.Table.Laws.{length-table}
use Rattle.refusals.specs.Said.{accepts, refuses, ◌then◌, check}
use Rattle.refusals.specs.Said.Laws.{then_both, check_passed, check_true, check_accepts, check_refuses}
use Rattle.shapes.specs.Shapes.{Sides}
use Rattle.shapes.specs.Questions.{Grid, Question, Posed, sides_of, sides_said, grid_said, cells_said}
use Rattle.shapes.specs.Questions.{links_needed, windows_of}
use Rattle.shapes.specs.Questions.Laws.{sides_passed, sides_pass, grid_passed, grid_pass, posed_said}
use Rattle.shapes.specs.declared.shapes.Shape.{Shape}
use Rattle.flags.specs.Flags.{Rooms, RoomFor}
use Rattle.rooms.specs.Rooms.{room_said}
use Rattle.rooms.specs.Rooms.Laws.{room_passed, room_passes}
use Rattle.scaled.specs.Scaled.{enlarged_cells, enlarged, scaled, FitsAt, fits_test, scale_said, scaled_shape_said}
use Rattle.scaled.specs.Scaled.{scaled_room_said, largest_scale_of, largest_of, every_room_said}

-- ---- one test, three statements

module _ (k : ℕ) (s : Shape) where
  pub fits_tested : Tested (FitsAt k s) (fits_test k s)
  unfolding fits_test
  fits_tested =
      tested_iff (λ h. record { positive = h.0; height_le = h.1.0; width_le = h.1.1 })
      (λ f. (f.positive, (f.height_le, f.width_le)))
      (both_tested (le_tested 1 k)
      (both_tested (le_tested (k * s.height) s.rows) (le_tested (k * s.width) s.columns)))

  -- of a pattern that has cells
  module _ (tall : 1 ≤ s.height) (wide : 1 ≤ s.width) where
    -- products to quotients, and back
    pub fits_quotients : FitsAt k s → (1 ≤ k) × (k ≤ s.rows / s.height) × (k ≤ s.columns / s.width)
    fits_quotients f = (
      f.positive,
      (le-div_iff_mul-le {k = s.height} {x = k} {y = s.rows} tall).1 f.height_le,
      (le-div_iff_mul-le {k = s.width} {x = k} {y = s.columns} wide).1 f.width_le,
    )

    pub quotients_fit : (1 ≤ k) × (k ≤ s.rows / s.height) × (k ≤ s.columns / s.width) → FitsAt k s
    quotients_fit h =
        record {
          positive = h.0;
          height_le = (le-div_iff_mul-le {k = s.height} {x = k} {y = s.rows} tall).0 h.1;
          width_le = (le-div_iff_mul-le {k = s.width} {x = k} {y = s.columns} wide).0 h.2;
        }

    -- k fits exactly if it is at least 1 and at most the largest
    pub fits_largest : FitsAt k s → (1 ≤ k) × (k ≤ largest_scale_of s)
    fits_largest f = let h = fits_quotients f in (h.0, le-min h.1 h.2)

    pub largest_fits : (1 ≤ k) × (k ≤ largest_scale_of s) → FitsAt k s
    largest_fits h =
        quotients_fit (
          h.0,
          omega (arith, h.1, min-le_left (s.rows / s.height) (s.columns / s.width)),
          omega (arith, h.1, min-le_right (s.rows / s.height) (s.columns / s.width)),
        )

    pub quotients_tested : Tested ((1 ≤ k) × (k ≤ s.rows / s.height) × (k ≤ s.columns / s.width)) (fits_test k s)
    quotients_tested = tested_iff fits_quotients quotients_fit fits_tested

    pub largest_tested : Tested ((1 ≤ k) × (k ≤ largest_scale_of s)) (fits_test k s)
    largest_tested = tested_iff fits_largest largest_fits fits_tested

    -- above the largest scale none fits
    pub none_above : largest_scale_of s < k → fits_test k s ≡ false
    none_above h = is_false largest_tested (λ f. omega (arith, f.1, h))

  -- ---- 17 alone

  pub scale_passed : (values : List ℕ) → scale_said k s ≡ accepts values → FitsAt k s
  unfolding scale_said
  scale_passed values e = says_true fits_tested (check_true (fits_test k s) 17 [] values e)

  pub scale_pass : FitsAt k s → scale_said k s ≡ accepts []
  unfolding scale_said
  scale_pass f = sym (check_accepts (fits_test k s) 17 [] (is_true fits_tested f))

  pub scale_refused : (FitsAt k s → ⊥) → refuses 17 [] ≡ scale_said k s
  unfolding scale_said
  scale_refused n = check_refuses (fits_test k s) 17 [] (is_false fits_tested n)

-- ---- 2, 3 and 17

-- the cells of an enlargement are as many as its sides say
pub length-enlarged : (k : ℕ) (g : Grid) → length (enlarged k g).cells ≡ k * g.rows * (k * g.columns)
unfolding enlarged_cells
length-enlarged k g = length-table _ (k * g.rows * (k * g.columns))

-- what is not refused by 2, 3 or 17
pub record PosedAt (k : ℕ) (q : Question) : Type 0 where
  pub sides : Sides q.text.rows q.text.columns q.pattern.rows q.pattern.columns
  pub text_size : length q.text.cells ≡ q.text.rows * q.text.columns
  pub pattern_size : length q.pattern.cells ≡ q.pattern.rows * q.pattern.columns
  pub fitting : FitsAt k (sides_of q)

module _ (k : ℕ) (q : Question) where
  pub posed_at_lem : (values : List ℕ) → scaled_shape_said k q ≡ accepts values → PosedAt k q
  unfolding scaled_shape_said cells_said
  posed_at_lem values e =
      let a = then_both (sides_said (sides_of q)) (cells_said q then scale_said k (sides_of q)) values e in
      let b = then_both (cells_said q) (scale_said k (sides_of q)) values a.1 in
      let c = then_both (grid_said q.text) (grid_said q.pattern) b.0.0 b.0.1 in
      record {
        sides = sides_passed (sides_of q) a.0.0 a.0.1;
        text_size = grid_passed q.text c.0.0 c.0.1;
        pattern_size = grid_passed q.pattern b.0.0 c.1;
        fitting = scale_passed k (sides_of q) values b.1;
      }

  pub posed_at_said : PosedAt k q → scaled_shape_said k q ≡ accepts []
  unfolding scaled_shape_said cells_said
  posed_at_said p =
      rw (
        sides_pass (sides_of q) p.sides,
        grid_pass q.text p.text_size,
        grid_pass q.pattern p.pattern_size,
      )
      (scale_pass k (sides_of q) p.fitting)

  -- the enlarged pattern's sides are then sides
  module _ (p : PosedAt k q) where
    height_some : 1 ≤ k * q.pattern.rows
    height_some = omega (arith, mul-le-mul p.fitting.positive p.sides.height_good.positive)

    width_some : 1 ≤ k * q.pattern.columns
    width_some = omega (arith, mul-le-mul p.fitting.positive p.sides.width_good.positive)

    pub scaled-sides : Sides q.text.rows q.text.columns (k * q.pattern.rows) (k * q.pattern.columns)
    scaled-sides =
        record {
          rows_good = p.sides.rows_good;
          columns_good = p.sides.columns_good;
          height_good = record {
            positive = height_some;
            small = omega (arith, p.fitting.height_le, p.sides.rows_good.small);
          };
          width_good = record {
            positive = width_some;
            small = omega (arith, p.fitting.width_le, p.sides.columns_good.small);
          };
        }

    -- and the question with the enlarged pattern is posed
    pub scaled_posed : Posed (scaled k q)
    scaled_posed =
        record {
          shape = record {
            sized = record {
              sides = scaled-sides;
              fitting = record { height_le = p.fitting.height_le; width_le = p.fitting.width_le };
            };
            cells_is = p.text_size;
          };
          size = length-enlarged k q.pattern;
        }

    -- so that from there on its refusals are those of the search for the enlarged pattern
    pub scaled_rooms : (r : Rooms) → scaled_room_said k q r ≡ room_said (scaled k q) r
    unfolding scaled_room_said room_said
    scaled_rooms r = rw (posed_at_said p, posed_said (scaled k q) scaled_posed)

-- ---- 9 and 10

module _ (k : ℕ) (q : Question) (r : Rooms) where
  -- where nothing is refused before 11 there is room for the search for the enlarged pattern
  pub scaled_passed : (values : List ℕ) → scaled_room_said k q r ≡ accepts values → PosedAt k q × RoomFor (scaled k q) r
  unfolding scaled_room_said
  scaled_passed values e =
      let a = then_both (scaled_shape_said k q) _ values e in
      let p = posed_at_lem k q a.0.0 a.0.1 in
      (p, room_passed (scaled k q) r values (sym (scaled_rooms k q p r) ∙ e))

  pub scaled_passes : PosedAt k q → RoomFor (scaled k q) r → scaled_room_said k q r ≡ accepts []
  scaled_passes p room = scaled_rooms k q p r ∙ room_passes (scaled k q) r room

-- what a scale needs of links rises with it
pub links_rise : (q : Question) (j k : ℕ) → j ≤ k → links_needed (scaled j q) ≤ links_needed (scaled k q)
links_rise q j k h = mul-le-mul_left q.text.rows (mul-le-mul_right q.pattern.columns h)

-- and the number of windows falls
pub windows_fall : (q : Question) (j k : ℕ) → j ≤ k → windows_of (scaled k q) ≤ windows_of (scaled j q)
windows_fall q j k h =
    mul-le-mul
    (omega (arith, mul-le-mul_right q.pattern.rows h))
    (omega (arith, mul-le-mul_right q.pattern.columns h))

-- where the pattern as it is fits, every scale up to the largest does
pub posed_between : (q : Question) (k : ℕ) → PosedAt 1 q → 1 ≤ k → k ≤ largest_of q → PosedAt k q
posed_between q k p low high =
    record {
      sides = p.sides;
      text_size = p.text_size;
      pattern_size = p.pattern_size;
      fitting =
          largest_fits k (sides_of q) p.sides.height_good.positive p.sides.width_good.positive (low, high);
    }

-- and the largest is at least 1
pub largest_some : (q : Question) → PosedAt 1 q → 1 ≤ largest_of q
largest_some q p =
    (fits_largest 1 (sides_of q) p.sides.height_good.positive p.sides.width_good.positive p.fitting).1

-- and at most 255
pub largest_small : (q : Question) → PosedAt 1 q → largest_of q ≤ 255
largest_small q p =
    omega (
      arith,
      min-le_left (q.text.rows / q.pattern.rows) (q.text.columns / q.pattern.columns),
      div-le_self q.text.rows q.pattern.rows,
      p.sides.rows_good.small,
    )

-- of the search at every scale: what holds where nothing is refused before 11
pub record EveryRoom (q : Question) (r : Rooms) : Type 0 where
  pub posed_is : PosedAt 1 q
  pub links_room : links_needed (scaled (largest_of q) q) ≤ r.links
  pub counts_room : windows_of (scaled 1 q) ≤ r.counts
  pub flags_room : windows_of (scaled 1 q) ≤ r.flags

module _ (q : Question) (r : Rooms) where
  abbrev windows_good : Bool
  windows_good = both (leb (windows_of (scaled 1 q)) r.counts) (leb (windows_of (scaled 1 q)) r.flags)

  windows_tested : Tested ((windows_of (scaled 1 q) ≤ r.counts) × (windows_of (scaled 1 q) ≤ r.flags)) windows_good
  windows_tested =
      both_tested (le_tested (windows_of (scaled 1 q)) r.counts) (le_tested (windows_of (scaled 1 q)) r.flags)

  pub every_passed : (values : List ℕ) → every_room_said q r ≡ accepts values → EveryRoom q r
  unfolding every_room_said
  every_passed values e =
      let a = then_both (scaled_shape_said 1 q)
      (check (leb (links_needed (scaled (largest_of q) q)) r.links) 9 then check windows_good 10) values e in
      let l = check_passed (leb (links_needed (scaled (largest_of q) q)) r.links) 9 [] (check windows_good 10) values
      a.1 in
      let w = says_true windows_tested (check_true windows_good 10 [] values l.1) in
      record {
        posed_is = posed_at_lem 1 q a.0.0 a.0.1;
        links_room = says_true (le_tested (links_needed (scaled (largest_of q) q)) r.links) l.0;
        counts_room = w.0;
        flags_room = w.1;
      }

  pub every_passes : EveryRoom q r → every_room_said q r ≡ accepts []
  unfolding every_room_said
  every_passes a =
      rw (
        posed_at_said 1 q a.posed_is,
        le-leb (links_needed (scaled (largest_of q) q)) r.links a.links_room,
        le-leb (windows_of (scaled 1 q)) r.counts a.counts_room,
        le-leb (windows_of (scaled 1 q)) r.flags a.flags_room,
      )

  -- there is room for every scale up to the largest
  pub every_room : EveryRoom q r → (k : ℕ) → 1 ≤ k → k ≤ largest_of q → PosedAt k q × RoomFor (scaled k q) r
  every_room a k low high =
      let p = posed_between q k a.posed_is low high in
      let z = scaled_posed k q p in (
        p,
        record {
          shape = z.shape;
          size = z.size;
          links_room = omega (arith, links_rise q k (largest_of q) high, a.links_room);
          counts_room = omega (arith, windows_fall q 1 k low, a.counts_room);
          flags_room = omega (arith, windows_fall q 1 k low, a.flags_room);
        },
      )
