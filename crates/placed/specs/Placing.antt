-- An enlargement of a pattern: each of its cells stands k by k times. Everything that is compared is said of the list
-- of its cells (`enlarged`), and the code reads them off the pattern.
-- Assumes nothing.
pub mod Laws
pub mod Places
use Rattle.std.specs.Prelude.{◌≡◌, List, ℕ, ◌+◌, ◌*◌, ◌/◌, ◌%◌, ◌≤◌, ltb, get_or}
use Rattle.theory.specs.Test.{pick}
use Rattle.theory.specs.Table.{table}

-- the place of the pattern's cell that position p of its enlargement by k shows: cell (i, j) shows cell (i / k, j / k);
-- a row of the pattern has width cells, one of the enlargement k times as many
abbrev pub index_at : ℕ → ℕ → ℕ → ℕ
index_at k width p = p / (k * width) / k * width + p % (k * width) / k

-- the first position that shows the pattern's cell at place p: the corner of its k by k cells
abbrev pub laid_at : ℕ → ℕ → ℕ → ℕ
laid_at k width p = (p / width * (k * width) + p % width) * k

-- where the pattern's cell at place p is shown first; 0 where it has no such place
unfoldable pub laid_place_of : ℕ → ℕ → ℕ → ℕ → ℕ
laid_place_of k height width p = pick (ltb p (height * width)) (laid_at k width p) 0

-- what a position is multiplied by where it is divided by d
abbrev pub inverse : ℕ → ℕ
inverse d = 4294967296 / d + 1

-- the enlargement by k of a pattern of that width, of so many cells
abbrev pub enlarged : List ℕ → ℕ → ℕ → ℕ → List ℕ
enlarged pattern k width cells = table (λ p. get_or pattern (index_at k width p) 0) cells

-- what the code needs of the numbers of an enlargement: its cells are few, and the inverses right
pub record Sound (scale height width cells by_scale by_width by_block : ℕ) : Type 0 where
  pub scaled : 1 ≤ scale
  pub tall : 1 ≤ height
  pub broad : 1 ≤ width
  pub cells_is : cells ≡ scale * height * (scale * width)
  pub few : cells ≤ 65025
  pub scale_inverse : by_scale ≡ inverse scale
  pub width_inverse : by_width ≡ inverse (scale * width)
  pub block_inverse : by_block ≡ inverse (scale * width * scale)
