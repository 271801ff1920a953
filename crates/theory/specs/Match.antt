-- What a parameterized match is (document 004, section 2): two sequences of symbols, a pattern m and a window w, over
-- the positions below n. Rows and columns enter only where a position is turned into a cell, which is not here.
-- Assumes nothing.
pub mod Even
pub mod Answers
pub mod Images
pub mod Relation
pub mod Ext
pub mod Bijections
use Rattle.std.specs.Prelude.{◌≡◌, Bool, true, false, not, List, ℕ, ◌<◌, eqb, ltb}
use Rattle.theory.specs.Test.{pick}
use Rattle.theory.specs.First.{first}
use Rattle.theory.specs.Table.{table}

-- The meaning.

-- f gives the window's symbol for the pattern's at every position, and different symbols for different symbols of the
-- pattern
pub record Maps (m w : ℕ → ℕ) (n : ℕ) (f : ℕ → ℕ) : Type 0 where
  pub carries : (p : ℕ) → p < n → f (m p) ≡ w p
  pub one_to_one : (p q : ℕ) → p < n → q < n → f (m p) ≡ f (m q) → m p ≡ m q

-- the pattern parameterize matches the window
abbrev pub Matches : (ℕ → ℕ) → (ℕ → ℕ) → ℕ → Type 0
Matches m w n = (f : ℕ → ℕ) × Maps m w n f

-- the positions q and p are alike on one side only: in the pattern (true), or in the window (false)
abbrev pub AlikeOnly : Bool → (ℕ → ℕ) → (ℕ → ℕ) → ℕ → ℕ → Type 0
AlikeOnly true m w q p = (m q ≡ m p) × (w q ≡ w p → ⊥)
AlikeOnly false m w q p = (w q ≡ w p) × (m q ≡ m p → ⊥)

-- document 01's clash: two positions, the earlier first, alike on one side only
pub record Mismatch (side : Bool) (m w : ℕ → ℕ) (q p : ℕ) : Type 0 where
  pub order : q < p
  pub alike : AlikeOnly side m w q p

-- The answer for a window, by looking at every pair of positions.

-- two positions with the pattern symbols a and b and the window symbols x and y are alike on one side only
abbrev pub mismatch_by : ℕ → ℕ → ℕ → ℕ → Bool
mismatch_by a b x y = pick (eqb a b) (not (eqb x y)) (eqb x y)

-- the test of the positions q and p; p comes first, since the search for an earlier position goes by q
unfoldable pub mismatch_at : (ℕ → ℕ) → (ℕ → ℕ) → ℕ → ℕ → Bool
mismatch_at m w p q = mismatch_by (m q) (m p) (w q) (w p)

-- the first position that mismatches with p, or p
unfoldable pub earliest : (ℕ → ℕ) → (ℕ → ℕ) → ℕ → ℕ
earliest m w p = first (mismatch_at m w p) p

-- some mismatch ends at p
unfoldable pub ends : (ℕ → ℕ) → (ℕ → ℕ) → ℕ → Bool
ends m w p = ltb (earliest m w p) p

-- the first position at which any mismatch ends, or n
unfoldable pub first_end : (ℕ → ℕ) → (ℕ → ℕ) → ℕ → ℕ
first_end m w n = first (ends m w) n

-- a match, or a mismatch: whether alike in the pattern, the earlier and the later position
pub data Answer : Type 0 where
  matched : Answer
  mismatched : Bool → ℕ → ℕ → Answer

-- an answer says that the pattern matches
abbrev pub is_match : Answer → Bool
is_match matched = true
is_match (mismatched side q p) = false

-- the mismatch that ends at p, where some does, and begins first
unfoldable pub mismatch_ending : (ℕ → ℕ) → (ℕ → ℕ) → ℕ → Answer
mismatch_ending m w p = mismatched (eqb (m (earliest m w p)) (m p)) (earliest m w p) p

-- the mismatch that ends first and then begins first; where there is none, a match
unfoldable pub answer_of : (ℕ → ℕ) → (ℕ → ℕ) → ℕ → Answer
answer_of m w n = pick (ltb (first_end m w n) n) (mismatch_ending m w (first_end m w n)) matched

-- the image of the symbol a: the window's symbol at a's first position in the pattern, or 256 where it has none
unfoldable pub image_of : (ℕ → ℕ) → (ℕ → ℕ) → ℕ → ℕ → ℕ
image_of m w n a = image_at (first (λ p. eqb (m p) a) n)
  where
    image_at : ℕ → ℕ
    image_at p = pick (ltb p n) (w p) 256

-- the images of all symbols
unfoldable pub column : (ℕ → ℕ) → (ℕ → ℕ) → ℕ → List ℕ
column m w n = table (image_of m w n) 256
