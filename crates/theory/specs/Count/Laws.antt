-- Laws of counts and members: by the last number, by a cut, of equal tests; the members of a test are rising and are
-- just the numbers that pass.
-- Assumes nothing.
use Rattle.std.specs.Prelude.{◌≡◌, refl, Bool, true, false, not, ◌⊎◌, ◌↔◌, List, [], ◌∷◌, ◌++◌, ℕ, zero, suc, ◌+◌, ◌≤◌, ◌<◌, length, get_or}
use Rattle.std.proofs.Common.{sym, ◌∙◌, ap, subst, inl, inr, append-nil, add-zero, add-suc, arith, length-append, get_or-append-add}
use Rattle.std.proofs.Math.Decide.{ℕ_discrete, dec_lt}
use Rattle.std.proofs.Math.ListN.{get_or-append}
use Rattle.theory.specs.Test.{pick}
use Rattle.theory.specs.Test.Laws.{true_false}
use Rattle.theory.specs.Count.{count, members, Entry, Rising}

pub count_ext : (P Q : ℕ → Bool) (n : ℕ) → ((k : ℕ) → k < n → P k ≡ Q k) → count P n ≡ count Q n
unfolding count
count_ext P Q zero h = refl
count_ext P Q (suc n) h = rw (h n (omega arith), count_ext P Q n (λ k l. h k (omega arith)))

pub members_ext : (P Q : ℕ → Bool) (n : ℕ) → ((k : ℕ) → k < n → P k ≡ Q k) → members P n ≡ members Q n
unfolding members
members_ext P Q zero h = refl
members_ext P Q (suc n) h = rw (h n (omega arith), members_ext P Q n (λ k l. h k (omega arith)))

pick_next : (b : Bool) (m : ℕ) → pick b (m + 1 + 1) (m + 1) ≡ pick b (m + 1) m + 1
pick_next true m = refl
pick_next false m = refl

-- a test that passes at one number more counts one more
pub count_more : (P Q : ℕ → Bool) (n x : ℕ) → x < n → P x ≡ false → Q x ≡ true → ((k : ℕ) → (k ≡ x → ⊥) → P k ≡ Q k)
    → count Q n ≡ count P n + 1
unfolding count
count_more P Q zero x l a b h = absurd (omega arith)
count_more P Q (suc n) x l a b h = go (count_more P Q n x) (ℕ_discrete n x)
  where
    go : (x < n → P x ≡ false → Q x ≡ true → ((k : ℕ) → (k ≡ x → ⊥) → P k ≡ Q k) → count Q n ≡ count P n + 1)
        → Dec (n ≡ x) →
        pick (Q n) (count Q n + 1) (count Q n) ≡ pick (P n) (count P n + 1) (count P n) + 1
    go ih (yes e) =
        rw (ap Q e ∙ b, ap P e ∙ a) (ap (λ m. m + 1) (count_ext Q P n (λ k l'. sym (h k (λ z. omega arith)))))
    go ih (no d) = rw (← (h n d), ih (omega arith) a b h) (pick_next (P n) (count P n))

-- at most n pass, and those that pass and those that do not are all
pub count_le : (P : ℕ → Bool) (n : ℕ) → count P n ≤ n
unfolding count
count_le P zero = omega arith
count_le P (suc n) = go (count_le P n) (P n)
  where
    go : count P n ≤ n → (b : Bool) → pick b (count P n + 1) (count P n) ≤ suc n
    go ih true = omega arith
    go ih false = omega arith

pub count_not : (P : ℕ → Bool) (n : ℕ) → count P n + count (λ k. not (P k)) n ≡ n
unfolding count
count_not P zero = refl
count_not P (suc n) = go (count_not P n) (P n)
  where
    go : count P n + count (λ k. not (P k)) n ≡ n → (b : Bool)
        → pick b (count P n + 1) (count P n) + pick (not b) (count (λ k. not (P k)) n + 1) (count (λ k. not (P k)) n)
        ≡ suc n
    go ih true = omega arith
    go ih false = omega arith

pub length-members : (P : ℕ → Bool) (n : ℕ) → length (members P n) ≡ count P n
unfolding count members
length-members P zero = refl
length-members P (suc n) = go (length-members P n) (P n)
  where
    go : length (members P n) ≡ count P n → (b : Bool)
        → length (members P n ++ pick b (n ∷ []) []) ≡ pick b (count P n + 1) (count P n)
    go ih true = rw length-append (omega arith)
    go ih false = rw length-append (omega arith)

pick_between : (b : Bool) (a m : ℕ) → pick b (a + m + 1) (a + m) ≡ a + pick b (m + 1) m
pick_between true a m = omega arith
pick_between false a m = refl

-- those below n, and then those among the m numbers after them
pub count_add : (P : ℕ → Bool) (n m : ℕ) → count P (n + m) ≡ count P n + count (λ k. P (n + k)) m
unfolding count
count_add P n zero = rw (add-zero n) (sym (add-zero (count P n)))
count_add P n (suc m) =
    rw (add-suc n m, count_add P n m) (pick_between (P (n + m)) (count P n) (count (λ k. P (n + k)) m))

-- 0, and then the numbers after it
pub count_front : (P : ℕ → Bool) (n : ℕ) → count P (suc n) ≡ pick (P zero) 1 0 + count (λ k. P (suc k)) n
unfolding count
count_front P zero = sym (add-zero (pick (P zero) 1 0))
count_front P (suc n) = rw (count_front P n) (pick_between (P (suc n)) (pick (P zero) 1 0) (count (λ k. P (suc k)) n))

-- where no number below n passes, none is counted or listed
pub members_none : (P : ℕ → Bool) (n : ℕ) → ((k : ℕ) → k < n → P k ≡ false) → members P n ≡ []
unfolding members
members_none P zero h = refl
members_none P (suc n) h = rw (members_none P n (λ k l. h k (omega arith)), h n (omega arith))

pub count_none : (P : ℕ → Bool) (n : ℕ) → ((k : ℕ) → k < n → P k ≡ false) → count P n ≡ 0
count_none P n h = sym (length-members P n) ∙ ap length (members_none P n h)

-- the least number that passes is listed first, and then those of the test that leaves it out
pub members_least : (P Q : ℕ → Bool) (n r : ℕ) → r < n → P r ≡ true → ((k : ℕ) → k < r → P k ≡ false) →
    Q r ≡ false → ((k : ℕ) → k < n → (k ≡ r → ⊥) → Q k ≡ P k) → members P n ≡ r ∷ members Q n
unfolding members
members_least P Q zero r l p b q h = absurd (omega arith)
members_least P Q (suc n) r l p b q h = go (members_least P Q n r) (ℕ_discrete r n)
  where
    go : (r < n → P r ≡ true → ((k : ℕ) → k < r → P k ≡ false) → Q r ≡ false
        → ((k : ℕ) → k < n → (k ≡ r → ⊥) → Q k ≡ P k) → members P n ≡ r ∷ members Q n) →
        Dec (r ≡ n) → members P n ++ pick (P n) (n ∷ []) [] ≡ r ∷ (members Q n ++ pick (Q n) (n ∷ []) [])
    go ih (yes e) =
        rw (
          members_none P n (λ k m. b k (omega arith)),
          members_none Q n (λ k m. h k (omega arith) (λ z. omega arith) ∙ b k (omega arith)),
          ap P (sym e) ∙ p,
          ap Q (sym e) ∙ q,
        )
        (ap (λ (x : ℕ). x ∷ []) (sym e))
    go ih (no d) = rw (ih (omega arith) p b q (λ k m. h k (omega arith)), h n (omega arith) (λ z. omega arith))

-- a list one longer: an entry is one of the old ones, or the last
in_longer : (xs : List ℕ) (x i : ℕ) → i < length (xs ++ (x ∷ [])) →
    ((i < length xs) × (get_or (xs ++ (x ∷ [])) i 0 ≡ get_or xs i 0)) ⊎ ((i ≡ length xs) × (get_or (xs ++ (x ∷ [])) i 0 ≡ x))
in_longer xs x i h = go (dec_lt i (length xs))
  where
    go : Dec (i < length xs) → ((i < length xs) × (get_or (xs ++ (x ∷ [])) i 0 ≡ get_or xs i 0)) ⊎
        ((i ≡ length xs) × (get_or (xs ++ (x ∷ [])) i 0 ≡ x))
    go (yes l) = inl (l, get_or-append xs (x ∷ []) 0 i l)
    go (no d) =
        let e : i ≡ length xs = omega (arith, length-append xs (x ∷ [])) in
        inr (
          e,
          ap (λ (u : ℕ). get_or (xs ++ (x ∷ [])) u 0) (e ∙ sym (add-zero (length xs)))
              ∙ get_or-append-add xs (x ∷ []) 0 0,
        )

entry_longer : (xs : List ℕ) (y x : ℕ) → Entry xs x → Entry (xs ++ (y ∷ [])) x
entry_longer xs y x e =
    (e.0, omega (arith, length-append xs (y ∷ []), e.1), get_or-append xs (y ∷ []) 0 e.0 e.1 ∙ e.2)

entry_last : (xs : List ℕ) (x : ℕ) → Entry (xs ++ (x ∷ [])) x
entry_last xs x = (
  length xs,
  omega (arith, length-append xs (x ∷ [])),
  ap (λ (u : ℕ). get_or (xs ++ (x ∷ [])) u 0) (sym (add-zero (length xs))) ∙ get_or-append-add xs (x ∷ []) 0 0,
)

-- each entry is below n and passes
abbrev Passing : (ℕ → Bool) → ℕ → List ℕ → Type 0
Passing P n xs = (i : ℕ) → i < length xs → (get_or xs i 0 < n) × (P (get_or xs i 0) ≡ true)

passing_longer : (P : ℕ → Bool) (n : ℕ) (xs : List ℕ) → P n ≡ true → Passing P n xs → Passing P (suc n) (xs ++ (n ∷ []))
passing_longer P n xs e h i l = go (in_longer xs n i l)
  where
    go : ((i < length xs) × (get_or (xs ++ (n ∷ [])) i 0 ≡ get_or xs i 0)) ⊎
        ((i ≡ length xs) × (get_or (xs ++ (n ∷ [])) i 0 ≡ n)) →
        (get_or (xs ++ (n ∷ [])) i 0 < suc n) × (P (get_or (xs ++ (n ∷ [])) i 0) ≡ true)
    go (inl o) = (omega (arith, (h i o.0).0, o.1), ap P o.1 ∙ (h i o.0).1)
    go (inr o) = (omega (arith, o.1), ap P o.1 ∙ e)

passing_more : (P : ℕ → Bool) (n : ℕ) (xs : List ℕ) (b : Bool) → P n ≡ b → Passing P n xs
    → Passing P (suc n) (xs ++ pick b (n ∷ []) [])
passing_more P n xs true e h = passing_longer P n xs e h
passing_more P n xs false e h =
    subst (Passing P (suc n)) (sym (append-nil xs)) (λ i l. (omega (arith, (h i l).0), (h i l).1))

pub members_pass : (P : ℕ → Bool) (n i : ℕ) → i < length (members P n)
    → (get_or (members P n) i 0 < n) × (P (get_or (members P n) i 0) ≡ true)
unfolding members
members_pass P zero i h = absurd (omega arith)
members_pass P (suc n) i h = passing_more P n (members P n) (P n) refl (members_pass P n) i h

-- each number below n that passes is an entry
listed : (n : ℕ) (xs : List ℕ) (b : Bool) (k : ℕ) → k < suc n → (k < n → Entry xs k) → (k ≡ n → b ≡ true)
    → Entry (xs ++ pick b (n ∷ []) []) k
listed n xs true k l h e = go (ℕ_discrete k n)
  where
    go : Dec (k ≡ n) → Entry (xs ++ (n ∷ [])) k
    go (yes z) = subst (Entry (xs ++ (n ∷ []))) (sym z) (entry_last xs n)
    go (no d) = entry_longer xs n k (h (omega arith))
listed n xs false k l h e =
    let d : k ≡ n → ⊥ = λ z. true_false (e z) refl in
    subst (λ ys. Entry ys k) (sym (append-nil xs)) (h (omega arith))

pub members_all : (P : ℕ → Bool) (n k : ℕ) → k < n → P k ≡ true → Entry (members P n) k
unfolding members
members_all P zero k l p = absurd (omega arith)
members_all P (suc n) k l p = listed n (members P n) (P n) k l (λ m. members_all P n k m p) (λ z. ap P (sym z) ∙ p)

-- so the entries are just the numbers below n that pass
pub members_iff : (P : ℕ → Bool) (n k : ℕ) → Entry (members P n) k ↔ ((k < n) × (P k ≡ true))
members_iff P n k = (
  λ e. subst (λ (u : ℕ). (u < n) × (P u ≡ true)) e.2 (members_pass P n e.0 e.1),
  λ h. members_all P n k h.0 h.1,
)

rising_longer : (xs : List ℕ) (n : ℕ) → ((i : ℕ) → i < length xs → get_or xs i 0 < n) → Rising xs
    → Rising (xs ++ (n ∷ []))
rising_longer xs n b h i j l m = go (in_longer xs n j m)
  where
    old : i < length xs → get_or (xs ++ (n ∷ [])) i 0 ≡ get_or xs i 0
    old = get_or-append xs (n ∷ []) 0 i

    go : ((j < length xs) × (get_or (xs ++ (n ∷ [])) j 0 ≡ get_or xs j 0)) ⊎
        ((j ≡ length xs) × (get_or (xs ++ (n ∷ [])) j 0 ≡ n)) →
        get_or (xs ++ (n ∷ [])) i 0 < get_or (xs ++ (n ∷ [])) j 0
    go (inl o) = let k : i < length xs = omega (arith, o.0) in omega (arith, old k, o.1, h i j l o.0)
    go (inr o) = let k : i < length xs = omega (arith, o.0) in omega (arith, old k, o.1, b i k)

rising_more : (xs : List ℕ) (n : ℕ) (b : Bool) → ((i : ℕ) → i < length xs → get_or xs i 0 < n) → Rising xs
    → Rising (xs ++ pick b (n ∷ []) [])
rising_more xs n true b h = rising_longer xs n b h
rising_more xs n false b h = subst Rising (sym (append-nil xs)) h

pub members_rising : (P : ℕ → Bool) (n : ℕ) → Rising (members P n)
unfolding members
members_rising P zero i j l m = absurd (omega arith)
members_rising P (suc n) i j l m =
    rising_more (members P n) n (P n) (λ k b. (members_pass P n k b).0) (members_rising P n) i j l m
