-- A column stays older than a base that rises, and where an older entry is stored.
-- Assumes nothing.
use Rattle.std.specs.Prelude.{◌≡◌, refl, Bool, List, ℕ, zero, suc, ◌+◌, ◌<◌, length, get_or, set, replicate}
use Rattle.std.proofs.Common.{◌∙◌, ap, arith, length-set, get_or-set_same, get_or-set_other}
use Rattle.std.proofs.lemmas.List.{length-replicate}
use Rattle.theory.specs.Test.{Tested, holds, fails}
use Rattle.theory.specs.Test.Laws.{eq_tested}
use Rattle.theory.specs.Older.{Older}

-- a column of zeros is older than any base but 0
pub zeros_at : (n i : ℕ) → ◌≡◌ {A = ℕ} (get_or (replicate n 0) i 0) 0
zeros_at zero i = refl
zeros_at (suc n) zero = refl
zeros_at (suc n) (suc i) = zeros_at n i

pub older_zeros : (base : ℕ) (l : List ℕ) → 0 < base → l ≡ replicate 256 0 → Older base l
older_zeros base l h e =
    rw e (record { long = length-replicate {A = ℕ} 256 0; below = λ i. omega (arith, zeros_at 256 i) })

pub zeros_long : (l : List ℕ) → l ≡ replicate 256 0 → length l ≡ 256
zeros_long l e = ap length e ∙ length-replicate {A = ℕ} 256 0

-- an entry of this window is older than the next one's base, and so is one of an earlier window
pub older_next : (base : ℕ) (l : List ℕ) → Older base l → Older (base + 256) l
older_next base l o = record { long = o.long; below = λ i. omega (arith, o.below i) }

pub older_set : (base : ℕ) (l : List ℕ) (i x : ℕ) → Older base l → i < 256 → x < base → Older base (set l i x)
older_set base l i x o k h = record { long = rw length-set o.long; below = λ j. go j (eq_tested j i) }
  where
    go : (j : ℕ) {t : Bool} → Tested (j ≡ i) t → get_or (set l i x) j 0 < base
    go j (holds d) = rw d (omega (arith, get_or-set_same l i x 0 (omega (arith, o.long))))
    go j (fails d) = omega (arith, get_or-set_other l i j x 0 d, o.below j)
