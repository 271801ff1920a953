-- The blocks of a pattern as it lies: what a block shows, how far it goes, and what follows it in its row.
-- Assumes nothing.
use Rattle.std.specs.Prelude.{◌≡◌, List, ℕ, ◌+◌, ◌*◌, ◌≤◌, ◌<◌, length, get_or}
use Rattle.placed.specs.declared.block.Block.{Block}

-- n cells of a list from p on are alike
pub record AlikeFrom (l : List ℕ) (p n : ℕ) : Type 0 where
  pub some : 0 < n
  pub inside : p + n ≤ length l
  pub same : (k : ℕ) → k < n → get_or l p 0 ≡ get_or l (p + k) 0

-- b is the block of position p of a pattern whose cells are l
pub record BlockAt (l : List ℕ) (p : ℕ) (b : Block) : Type 0 where
  pub shows : b.symbol ≡ get_or l p 0
  pub alike : AlikeFrom l p b.cells

-- n cells from p on are alike, of so many at most, and if fewer, the next one is not
pub record Repeats (l : List ℕ) (p most n : ℕ) : Type 0 where
  pub few : n ≤ most
  pub alike : AlikeFrom l p n
  pub stops : n < most → get_or l p 0 ≡ get_or l (p + n) 0 → ⊥

-- n positions of an enlargement l from p on show the pattern's cell at a place
pub record Shown (pattern l : List ℕ) (place p n : ℕ) : Type 0 where
  pub inside : place < length pattern
  pub shows : get_or pattern place 0 ≡ get_or l p 0
  pub alike : AlikeFrom l p n

-- what follows in a row of an enlargement, from p on up to stop, behind a block that shows the pattern's cell at a
-- place: block after block, each of as many positions as the scale, the pattern's next cells
abbrev pub Follows : List ℕ → List ℕ → ℕ → ℕ → ℕ → ℕ → Type 0
Follows pattern l scale place p stop =
    (n : ℕ) → p + n * scale < stop → Shown pattern l (place + 1 + n) (p + n * scale) scale
