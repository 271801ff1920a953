-- The least number that passes a test has the three properties, and only it has; a test of every number below a bound.
-- Assumes nothing.
use Rattle.std.specs.Prelude.{◌≡◌, refl, Bool, true, false, not, ℕ, zero, suc, ◌<◌}
use Rattle.std.proofs.Common.{◌∙◌, zero-le, suc-le-suc, arith, le_of_suc-le-suc}
use Rattle.std.proofs.lemmas.Bool.{not-false}
use Rattle.theory.specs.Test.{pick, Tested}
use Rattle.theory.specs.Test.Laws.{true_false, tested_iff, eq_tested, not_tested, says_true, is_false}
use Rattle.theory.specs.First.{first, First, every}

step : (P : ℕ → Bool) (n r : ℕ) (b : Bool) → P zero ≡ b → First (λ k. P (suc k)) n r
    → First P (suc n) (pick b zero (suc r))
step P n r true e f = record { within = zero-le; before = λ k h. absurd (none k h); hit = λ _. e }
  where
    none : (k : ℕ) → k < 0 → ⊥
    none k h = omega arith
step P n r false e f =
    record { within = suc-le-suc f.within; before = before; hit = λ h. f.hit (le_of_suc-le-suc h) }
  where
    before : (k : ℕ) → k < suc r → P k ≡ false
    before zero h = e
    before (suc k) h = f.before k (le_of_suc-le-suc h)

pub first_spec : (P : ℕ → Bool) (n : ℕ) → First P n (first P n)
unfolding first
first_spec P zero = record { within = zero-le; before = λ k h. absurd (none k h); hit = λ h. absurd (none 0 h) }
  where
    none : (k : ℕ) → k < 0 → ⊥
    none k h = omega arith
first_spec P (suc n) = step P n (first (λ k. P (suc k)) n) (P zero) refl (first_spec (λ k. P (suc k)) n)

pub first_unique : {P : ℕ → Bool} {n r s : ℕ} → First P n r → First P n s → r ≡ s
first_unique {P} {n} {r} {s} f g =
    let a : r < s → ⊥ = clear f g in
    let b : s < r → ⊥ = clear g f in
    omega arith
  where
    clear : {u t : ℕ} → First P n u → First P n t → u < t → ⊥
    clear {u} {t} f' g' h = true_false (f'.hit (omega arith)) (g'.before u h)

-- what a loop or a proof shows of r to know it for `first P n`
pub first_is : {P : ℕ → Bool} {n r : ℕ} → First P n r → first P n ≡ r
first_is {P} {n} f = first_unique (first_spec P n) f

-- tests that agree below n have the same first
pub first_ext : (P Q : ℕ → Bool) (n : ℕ) → ((k : ℕ) → k < n → P k ≡ Q k) → first P n ≡ first Q n
first_ext P Q n h =
    let f = first_spec Q n in
    first_is (record {
      within = f.within;
      before = λ k l. h k (omega (arith, f.within)) ∙ f.before k l;
      hit = λ l. h _ l ∙ f.hit l;
    })

pub every_tested : {Q : ℕ → Type 0} (P : ℕ → Bool) (n : ℕ) → ((k : ℕ) → Tested (Q k) (P k))
    → Tested ((k : ℕ) → k < n → Q k) (every P n)
unfolding every
every_tested {Q} P n t = tested_iff there back (eq_tested r n)
  where
    r : ℕ
    r = first (λ k. not (P k)) n

    f : First (λ k. not (P k)) n r
    f = first_spec (λ k. not (P k)) n

    there : r ≡ n → (k : ℕ) → k < n → Q k
    there e k h = says_true (t k) (not-false (P k) (f.before k (omega arith)))

    back : ((k : ℕ) → k < n → Q k) → r ≡ n
    back all =
        let short : r < n → ⊥ = λ h. true_false (f.hit h) (is_false (not_tested (t r)) (λ none. none (all r h))) in
        omega (arith, f.within)
