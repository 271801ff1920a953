-- Counting in a loop: from number to number, and that none is counted where every number passes.
-- Assumes nothing.
use Rattle.std.specs.Prelude.{◌≡◌, refl, Bool, true, false, not, ℕ, ◌+◌, ◌<◌, eqb}
use Rattle.std.proofs.Common.{⊎_elim, add-one, arith}
use Rattle.theory.specs.Test.{Tested}
use Rattle.theory.specs.Test.Laws.{eq_tested, tested, tested_same, tested_iff, true_or_false}
use Rattle.theory.specs.First.{every}
use Rattle.theory.specs.First.Laws.{every_tested}
use Rattle.theory.specs.Count.{count}
use Rattle.theory.specs.Count.Laws.{count_none, members_all, length-members}

-- no number yet, and one more
pub count-zero : (P : ℕ → Bool) → 0 ≡ count P 0
unfolding count
count-zero P = refl

pub count_hit : (P : ℕ → Bool) (n c : ℕ) → c ≡ count P n → P n ≡ true → c + 1 ≡ count P (n + 1)
unfolding count
count_hit P n c e h = rw (add-one n, h, e)

pub count_miss : (P : ℕ → Bool) (n c : ℕ) → c ≡ count P n → P n ≡ false → c ≡ count P (n + 1)
unfolding count
count_miss P n c e h = rw (add-one n, h, e)

-- none is counted exactly where every one passes
pub count-every : (P : ℕ → Bool) (n : ℕ) → eqb (count (λ i. not (P i)) n) 0 ≡ every P n
count-every P n =
    tested_same (tested_iff none (λ all. count_none _ n (λ k h. not_all k (all k h))) (eq_tested _ 0))
    (every_tested P n holds_if)
  where
    holds_if : (k : ℕ) → Tested (P k ≡ true) (P k)
    holds_if k = tested (P k) (λ e. e) (λ e. e)

    not_all : (k : ℕ) → P k ≡ true → not (P k) ≡ false
    not_all k e = rw e refl

    none : count (λ i. not (P i)) n ≡ 0 → (k : ℕ) → k < n → P k ≡ true
    none e k h = ⊎_elim (λ t. t) (λ f. absurd (counted k h f)) (true_or_false (P k))
      where
        counted : (k : ℕ) → k < n → P k ≡ false → ⊥
        counted k h f =
            let a = members_all (λ i. not (P i)) n k h (rw f refl) in
            omega (arith, a.1, length-members (λ i. not (P i)) n, e)
