-- What a comparison keeps: two tables of 256 places, one for each symbol. `first` has the first place of each symbol of
-- the pattern; it says nothing of symbols that the pattern has not. `last` has one more than the last place of each
-- symbol among the cells of the window that were looked at. It is not cleared from window to window: an entry at or
-- before the window's beginning counts for nothing, so a window further down takes it as it is.
-- Assumes nothing.
pub mod Tables
pub mod Laws
use Rattle.std.specs.Prelude.{◌≡◌, Bool, false, List, ℕ, ◌+◌, ◌-◌, ◌≤◌, ◌<◌, eqb, ltb, length, get_or}
use Rattle.theory.specs.Test.{pick}
use Rattle.theory.specs.Match.{ends}
use Rattle.theory.specs.Older.{Older}
use Rattle.prefixes.specs.Prefixes.{suffix}

-- What the inner functions' contracts cite.

-- l has the first place of each symbol of the first n positions
pub record FirstPlaces (m : ℕ → ℕ) (n : ℕ) (l : List ℕ) : Type 0 where
  pub long : length l ≡ 256
  pub each : (k : ℕ) → k < n → (get_or l (m k) 0 ≤ k) × (m (get_or l (m k) 0) ≡ m k)

-- l has, of each symbol that occurs in t from i to before e, one more than its last place there, and of any other
-- nothing above i
pub record Lasts (t : ℕ → ℕ) (i e : ℕ) (l : List ℕ) : Type 0 where
  pub older : Older (e + 1) l
  pub stands : (v : ℕ) → v < 256 → i < get_or l v 0 → t (get_or l v 0 - 1) ≡ v
  pub none : (v : ℕ) → v < 256 → (k : ℕ) → i ≤ k → get_or l v 0 ≤ k → k < e → t k ≡ v → ⊥

-- the window at i agrees up to e
pub record Swept (m t : ℕ → ℕ) (i e : ℕ) (l : List ℕ) : Type 0 where
  pub order : i ≤ e
  pub clear : (k : ℕ) → i + k < e → ends m (suffix t i) k ≡ false
  pub lasts : Lasts t i e l

-- the code's test: near is the table's entry for the window's symbol, a the pattern's symbol at p
unfoldable pub agrees_test : List ℕ → List ℕ → ℕ → ℕ → ℕ → ℕ → Bool
agrees_test pattern first i near p a = pick (ltb i near) (eqb (get_or pattern (near - 1 - i) 0) a) (eqb (get_or first a 0) p)

-- the code's earlier position, where a mismatch ends at p
unfoldable pub earlier_distance : List ℕ → List ℕ → ℕ → ℕ → ℕ → ℕ
earlier_distance pattern first i near p =
    pick (ltb i near) (pick (ltb (first_of p) (first_of (near - 1 - i))) (first_of p) (first_of (near - 1 - i))) (first_of p)
  where
    first_of : ℕ → ℕ
    first_of q = get_or first (get_or pattern q 0) 0
