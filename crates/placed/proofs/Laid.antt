-- First places in an enlargement, from those in the pattern: an enlargement shows every cell of the pattern and no
-- other symbol, and a cell first at its corner.
-- Assumes nothing.
use Rattle.std.specs.Prelude.{◌≡◌, List, ℕ, ◌+◌, ◌*◌, ◌/◌, ◌%◌, ◌≤◌, ◌<◌, length, get_or}
use Rattle.std.proofs.Common.{sym, ◌∙◌, ap, mul-le-mul, mul-le-mul_left, mul-le-mul_right, one-mul, mul-one, le_trans}
use Rattle.std.proofs.Common.{le_of_eq, arith, lt-ltb}
use Rattle.theory.specs.Test.Laws.{pick_true}
use Rattle.prefixes.specs.State.{FirstPlaces}
use Rattle.placed.specs.Placing.{index_at, laid_at, laid_place_of, enlarged, Sound}
use Rattle.placed.specs.Placing.Laws.{enlarged_long, enlarged_cell, place_inside}
use Rattle.placed.specs.Placing.Places.{laid_shows, laid_inside, laid_first}

-- the numbers of an enlargement are small
module _ {k height width cells by_scale by_width by_block : ℕ}
    (s : Sound k height width cells by_scale by_width by_block) where
  tall_le : height ≤ k * height
  tall_le = omega (arith, mul-le-mul_right height s.scaled, one-mul height)

  broad_le : width ≤ k * width
  broad_le = omega (arith, mul-le-mul_right width s.scaled, one-mul width)

  pub sides_few : height * width ≤ 65025
  sides_few = omega (arith, s.few, s.cells_is, mul-le-mul tall_le broad_le)

  pub wide_few : k * width ≤ 65025
  wide_few =
      omega (
        arith,
        s.few,
        s.cells_is,
        mul-le-mul_right (k * width) (le_trans s.tall tall_le),
        one-mul (k * width),
      )

  -- and so is a place that is laid
  module _ (p : ℕ) (h : p < height * width) where
    pub laid_few : laid_at k width p ≤ 65025
    laid_few = omega (arith, laid_inside k width s.scaled s.broad p height h, s.few, s.cells_is)

    pub sum_few : p / width * (k * width) + p % width ≤ 65025
    sum_few =
        let all : ℕ = p / width * (k * width) + p % width in
        le_trans (le_trans (le_of_eq (sym (mul-one all))) (mul-le-mul_left all s.scaled)) laid_few

-- the places of the symbols before v are laid, the others are not yet
pub record LaidTo (k height width : ℕ) (first₀ : List ℕ) (v : ℕ) (first : List ℕ) : Type 0 where
  pub long : length first ≡ 256
  pub laid : (u : ℕ) → u < v → get_or first u 0 ≡ laid_place_of k height width (get_or first₀ u 0)
  pub rest : (u : ℕ) → v ≤ u → get_or first u 0 ≡ get_or first₀ u 0

module _ (pattern : List ℕ) {k height width cells by_scale by_width by_block : ℕ}
    (s : Sound k height width cells by_scale by_width by_block) (sides : length pattern ≡ height * width) where
  shown : (q : ℕ) → q < cells → get_or (enlarged pattern k width cells) q 0 ≡ get_or pattern (index_at k width q) 0
  shown q h = sym (enlarged_cell pattern k width cells q h)

  place_lt : (q : ℕ) → q < cells → index_at k width q < length pattern
  place_lt q h = omega (arith, place_inside s q h, sides)

  -- where a place is shown first
  module _ (p : ℕ) (h : p < length pattern) where
    laid_is : laid_place_of k height width p ≡ laid_at k width p
    unfolding laid_place_of
    laid_is = pick_true _ _ (lt-ltb p (height * width) (omega (arith, sides)))

    laid_lt : laid_at k width p < cells
    laid_lt =
        omega (arith, laid_inside k width s.scaled s.broad p height (omega (arith, sides)), s.cells_is)

    laid_cell : get_or (enlarged pattern k width cells) (laid_at k width p) 0 ≡ get_or pattern p 0
    laid_cell = shown _ laid_lt ∙ ap (λ (x : ℕ). get_or pattern x 0) (laid_shows k width s.scaled s.broad p)

  pub laid_all : (first₀ first : List ℕ) (v : ℕ) → ((i : ℕ) → get_or pattern i 0 < 256) → 256 ≤ v
      → FirstPlaces (λ i. get_or pattern i 0) (length pattern) first₀ → LaidTo k height width first₀ v first
      → FirstPlaces (λ i. get_or (enlarged pattern k width cells) i 0) (length (enlarged pattern k width cells)) first
  laid_all first₀ first v bytes h places here =
      record { long = here.long; each = λ q l. each q (omega (arith, enlarged_long pattern k width cells)) }
    where
      each : (q : ℕ) → q < cells
          → (get_or first (get_or (enlarged pattern k width cells) q 0) 0 ≤ q)
          × (get_or (enlarged pattern k width cells) (get_or first (get_or (enlarged pattern k width cells) q 0) 0) 0
          ≡ get_or (enlarged pattern k width cells) q 0)
      each q l =
          let a : ℕ = get_or pattern (index_at k width q) 0 in
          let p : ℕ = get_or first₀ a 0 in
          let f = places.each (index_at k width q) (place_lt q l) in
          let p_lt : p < length pattern = omega (arith, f.0, place_lt q l) in
          let at_first : get_or first a 0 ≡ laid_at k width p
          = here.laid a (omega (arith, bytes (index_at k width q))) ∙ laid_is p p_lt in
          rw (shown q l, at_first) (laid_first k width s.scaled s.broad p q f.0, laid_cell p p_lt ∙ f.1)
