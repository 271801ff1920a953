-- Two columns of 256 entries that give a bijection: entry a of the first is the image of a, entry b of the second the
-- preimage of b, 256 stands for none.
-- Assumes nothing.
pub mod Agreement
pub mod Operations
use Rattle.std.specs.Prelude.{◌≡◌, Bool, true, false, List, ◌↔◌, ◌⊎◌, ℕ, ◌≤◌, ◌<◌, eqb, ltb, leb, get_or}
use Rattle.theory.specs.Test.{pick, both}
use Rattle.theory.specs.First.{every}
use Rattle.theory.specs.Table.{table}

-- the columns agree: for all a and b up to 255 the first gives b at a exactly if the second gives a at b; and neither
-- holds a number above 256
pub record Agree (f g : List ℕ) : Type 0 where
  pub forward_le : (a : ℕ) → a < 256 → get_or f a 0 ≤ 256
  pub backward_le : (b : ℕ) → b < 256 → get_or g b 0 ≤ 256
  pub same : (a : ℕ) → a < 256 → (b : ℕ) → b < 256 → (get_or f a 0 ≡ b) ↔ (get_or g b 0 ≡ a)

-- both tests say the same
abbrev pub same_test : Bool → Bool → Bool
same_test true b = b
same_test false true = false
same_test false false = true

-- the test of that, by looking at every a and b
unfoldable pub agree : List ℕ → List ℕ → Bool
agree f g =
    both (every (λ a. leb (get_or f a 0) 256) 256)
    (both (every (λ b. leb (get_or g b 0) 256) 256)
    (every (λ a. every (λ b. same_test (eqb (get_or f a 0) b) (eqb (get_or g b 0) a)) 256) 256))

-- x has no image in the column, or y
abbrev pub Free : List ℕ → ℕ → ℕ → Type 0
Free f x y = (get_or f x 0 ≡ 256) ⊎ (get_or f x 0 ≡ y)

-- the test of that, of the entry alone
abbrev pub none_or : ℕ → ℕ → Bool
none_or image y = pick (eqb image 256) true (eqb image y)

-- and of the column
abbrev pub free : List ℕ → ℕ → ℕ → Bool
free f x y = none_or (get_or f x 0) y

-- the image of x, or none where x is none
abbrev pub through : List ℕ → ℕ → ℕ
through g x = pick (ltb x 256) (get_or g x 0) 256

-- first one column, then another
unfoldable pub chained : List ℕ → List ℕ → List ℕ
chained f g = table (λ a. through g (get_or f a 0)) 256

-- The test in one pass over each column, as code makes it.

-- the entry x, which stands at a, is 256, or a symbol at which the column g leads back to a
pub record Back (g : List ℕ) (x a : ℕ) : Type 0 where
  pub entry_le : x ≤ 256
  pub back : x < 256 → get_or g x 0 ≡ a

-- the test of that
abbrev pub back_test : List ℕ → ℕ → ℕ → Bool
back_test g x a = pick (ltb x 256) (eqb (get_or g x 0) a) (eqb x 256)

-- every entry of f is
abbrev pub LeadsBack : List ℕ → List ℕ → Type 0
LeadsBack f g = (a : ℕ) → a < 256 → Back g (get_or f a 0) a

-- the test of that
unfoldable pub leads_back_test : List ℕ → List ℕ → Bool
leads_back_test f g = every (λ a. back_test g (get_or f a 0) a) 256
