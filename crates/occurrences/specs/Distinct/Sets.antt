-- A list as the set of what stands in it: when a symbol stands in a list, and that the number of different symbols is
-- the size of that set.
-- Assumes nothing.
use Rattle.std.specs.Prelude.{◌≡◌, refl, Bool, true, false, List, [], ◌∷◌, ◌++◌, ℕ, zero, suc, ◌+◌, ◌<◌, eqb, ltb, length, get_or}
use Rattle.std.proofs.Common.{sym, ap, ◌∙◌, le_of_suc-le-suc, arith, lt-ltb, eq-eqb, ne_eqb}
use Rattle.theory.specs.Test.{pick, Tested, holds, fails}
use Rattle.theory.specs.Test.Laws.{pick_true, pick_false, eq_tested}
use Rattle.theory.specs.Count.{count, Entry}
use Rattle.theory.specs.Count.Laws.{count_ext, count_more, count_none}
use Rattle.occurrences.specs.Distinct.{occurs, contains, distinct}

pub contains_none : (v : ℕ) → contains [] v ≡ false
unfolding contains occurs
contains_none v = refl

found : (t : Bool) (n : ℕ) → ltb 0 (pick t (n + 1) n) ≡ pick t true (ltb 0 n)
found true n = lt-ltb 0 (n + 1) (omega arith)
found false n = refl

-- a symbol stands in a list if it is the head or stands in the tail
pub contains_cons : (x : ℕ) (xs : List ℕ) (v : ℕ) → contains (x ∷ xs) v ≡ pick (eqb v x) true (contains xs v)
unfolding contains occurs
contains_cons x xs v = found (eqb v x) (occurs v xs)

either : (s t c : Bool) → pick s true (pick t true c) ≡ pick t true (pick s true c)
either true true c = refl
either true false c = refl
either false true c = refl
either false false c = refl

-- the same at the list's end, where a loop over the list adds
pub contains_end : (xs : List ℕ) (x v : ℕ) → contains (xs ++ (x ∷ [])) v ≡ pick (eqb v x) true (contains xs v)
contains_end [] x v = contains_cons x [] v
contains_end (y ∷ xs) x v =
    contains_cons y (xs ++ (x ∷ [])) v ∙ ap (pick (eqb v y) true) (contains_end xs x v)
    ∙ either (eqb v y) (eqb v x) (contains xs v)
    ∙ ap (pick (eqb v x) true) (sym (contains_cons y xs v))

-- a symbol stands in a list exactly if an entry is that symbol
tail : (x : ℕ) (xs : List ℕ) (v : ℕ) → Entry xs v → Entry (x ∷ xs) v
tail x xs v e = (suc e.0, omega (arith, e.1), e.2)

no_more : (x : ℕ) (xs : List ℕ) (v : ℕ) → (v ≡ x → ⊥) → (Entry xs v → ⊥) → (i : ℕ) → i < length (x ∷ xs)
    → get_or (x ∷ xs) i 0 ≡ v → ⊥
no_more x xs v d n zero l e = d (sym e)
no_more x xs v d n (suc i) l e = n (i, le_of_suc-le-suc l, e)

pub contains_tested : (xs : List ℕ) (v : ℕ) → Tested ((i : ℕ) × (i < length xs) × (get_or xs i 0 ≡ v)) (contains xs v)
unfolding contains occurs
contains_tested [] v = fails (λ e. none e.0 e.1)
  where
    none : (i : ℕ) → i < 0 → ⊥
    none i h = omega arith
contains_tested (x ∷ xs) v =
    rw (contains_cons x xs v) (go (eqb v x) (contains xs v) (eq_tested v x) (contains_tested xs v))
  where
    go : (s t : Bool) → Tested (v ≡ x) s → Tested (Entry xs v) t → Tested (Entry (x ∷ xs) v) (pick s true t)
    go true t (holds e) h = holds (0, omega arith, sym e)
    go false true (fails d) (holds p) = holds (tail x xs v p)
    go false false (fails d) (fails n) = fails (λ e. no_more x xs v d n e.0 e.1 e.2)

-- each different symbol is counted once
module _ (n x : ℕ) (xs : List ℕ) where
  -- x stands further on: the set is the same
  count_old : contains xs x ≡ true → count (contains (x ∷ xs)) n ≡ count (contains xs) n
  count_old t =
      count_ext (contains (x ∷ xs)) (contains xs) n (λ v _. contains_cons x xs v ∙ go v (eqb v x) (eq_tested v x))
    where
      go : (v : ℕ) (b : Bool) → Tested (v ≡ x) b → pick b true (contains xs v) ≡ contains xs v
      go v true (holds e) = sym (ap (contains xs) e ∙ t)
      go v false (fails d) = refl

  -- x does not: the set has one more
  count_new : x < n → contains xs x ≡ false → count (contains (x ∷ xs)) n ≡ count (contains xs) n + 1
  count_new l f =
      count_more (contains xs) (contains (x ∷ xs)) n x l f
      (contains_cons x xs x ∙ pick_true true (contains xs x) (eq-eqb x x refl))
      (λ v d. sym (contains_cons x xs v ∙ pick_false true (contains xs v) (ne_eqb v x d)))

pub distinct_count : (xs : List ℕ) (n : ℕ) → ((i : ℕ) → i < length xs → get_or xs i 0 < n)
    → count (contains xs) n ≡ distinct xs
unfolding distinct
distinct_count [] n h = count_none (contains []) n (λ v _. contains_none v)
distinct_count (x ∷ xs) n h = go (distinct_count xs n (λ i l. h (suc i) (omega arith))) (contains xs x) refl
  where
    go : count (contains xs) n ≡ distinct xs → (b : Bool) → contains xs x ≡ b
        → count (contains (x ∷ xs)) n ≡ pick b (distinct xs) (distinct xs + 1)
    go ih true t = count_old n x xs t ∙ ih
    go ih false f = count_new n x xs (h 0 (omega arith)) f ∙ ap (λ (m : ℕ). m + 1) ih
