-- Laws of occurrences and distinct counts: of a list by its first symbol, by its last, and of a sequence position by
-- position. Each is an induction over the list.
-- Assumes nothing.
use Rattle.std.specs.Prelude.{◌≡◌, refl, Bool, true, false, List, [], ◌∷◌, ◌++◌, ℕ, zero, suc, ◌+◌, ◌≤◌, ◌<◌, eqb, length}
use Rattle.std.proofs.Common.{sym, ap, ◌∙◌, subst, append-nil, append_assoc, zero-add, arith, eq-eqb, ne_eqb}
use Rattle.std.proofs.Math.Decide.{ℕ_discrete}
use Rattle.theory.specs.Test.{pick, Tested}
use Rattle.theory.specs.Test.Laws.{lt_tested, is_true, is_false}
use Rattle.theory.specs.Table.{table}
use Rattle.theory.specs.Table.Laws.{table-zero, table-suc}
use Rattle.occurrences.specs.Distinct.{occurs, contains, distinct}

-- ---- `occurs`

pub occurs_none : (v : ℕ) → occurs v [] ≡ 0
unfolding occurs
occurs_none v = refl

pub occurs_hit : (v : ℕ) (xs : List ℕ) → occurs v (v ∷ xs) ≡ occurs v xs + 1
unfolding occurs
occurs_hit v xs = rw (eq-eqb v v refl)

pub occurs_miss : (v x : ℕ) (xs : List ℕ) → (v ≡ x → ⊥) → occurs v (x ∷ xs) ≡ occurs v xs
unfolding occurs
occurs_miss v x xs n = rw (ne_eqb v x n)

pick_plus : (b : Bool) (a c : ℕ) → pick b (a + c + 1) (a + c) ≡ pick b (a + 1) a + c
pick_plus true a c = omega arith
pick_plus false a c = refl

pub occurs_append : (v : ℕ) (xs ys : List ℕ) → occurs v (xs ++ ys) ≡ occurs v xs + occurs v ys
unfolding occurs
occurs_append v [] ys = sym (zero-add (occurs v ys))
occurs_append v (x ∷ xs) ys = rw (occurs_append v xs ys) (pick_plus (eqb v x) (occurs v xs) (occurs v ys))

pub occurs_snoc_hit : (v : ℕ) (xs : List ℕ) → occurs v (xs ++ (v ∷ [])) ≡ occurs v xs + 1
occurs_snoc_hit v xs = omega (arith, occurs_append v xs (v ∷ []), occurs_hit v [], occurs_none v)

pub occurs_snoc_miss : (v x : ℕ) (xs : List ℕ) → (v ≡ x → ⊥) → occurs v (xs ++ (x ∷ [])) ≡ occurs v xs
occurs_snoc_miss v x xs n = omega (arith, occurs_append v xs (x ∷ []), occurs_miss v x [] n, occurs_none v)

pick_le : (b : Bool) (a n : ℕ) → a ≤ n → pick b (a + 1) a ≤ n + 1
pick_le true a n h = omega arith
pick_le false a n h = omega arith

pub occurs_le : (v : ℕ) (xs : List ℕ) → occurs v xs ≤ length xs
unfolding occurs
occurs_le v [] = omega arith
occurs_le v (x ∷ xs) = omega (arith, pick_le (eqb v x) (occurs v xs) (length xs) (occurs_le v xs))

-- ---- `contains`

pub contains_occurs : (xs : List ℕ) (v : ℕ) → Tested (0 < occurs v xs) (contains xs v)
unfolding contains
contains_occurs xs v = lt_tested 0 (occurs v xs)

-- ---- `distinct`

pub distinct_none : distinct [] ≡ 0
unfolding distinct
distinct_none = refl

pub distinct_new : (v : ℕ) (xs : List ℕ) → occurs v xs ≡ 0 → distinct (v ∷ xs) ≡ distinct xs + 1
unfolding distinct
distinct_new v xs e = rw (is_false (contains_occurs xs v) (λ h. omega arith))

pub distinct_old : (v : ℕ) (xs : List ℕ) → 0 < occurs v xs → distinct (v ∷ xs) ≡ distinct xs
unfolding distinct
distinct_old v xs h = rw (is_true (contains_occurs xs v) h)

pub distinct_le : (xs : List ℕ) → distinct xs ≤ length xs
distinct_le [] = omega (arith, distinct_none)
distinct_le (x ∷ xs) = go (distinct_le xs) (ℕ_discrete (occurs x xs) 0)
  where
    go : distinct xs ≤ length xs → Dec (occurs x xs ≡ 0) → distinct (x ∷ xs) ≤ suc (length xs)
    go ih (yes e) = omega (arith, distinct_new x xs e)
    go ih (no n) = omega (arith, distinct_old x xs (omega arith))

-- a list that holds a symbol holds a different one
pub distinct_some : (v : ℕ) (xs : List ℕ) → 0 < occurs v xs → 1 ≤ distinct xs
distinct_some v [] h = absurd (omega (arith, occurs_none v))
distinct_some v (x ∷ xs) h = go (distinct_some x xs) (ℕ_discrete (occurs x xs) 0)
  where
    go : (0 < occurs x xs → 1 ≤ distinct xs) → Dec (occurs x xs ≡ 0) → 1 ≤ distinct (x ∷ xs)
    go ih (yes e) = omega (arith, distinct_new x xs e)
    go ih (no n) = omega (arith, distinct_old x xs (omega arith), ih (omega arith))

-- a symbol counts the same at the end as at the start
pub distinct_snoc : (xs : List ℕ) (v : ℕ) → distinct (xs ++ (v ∷ [])) ≡ distinct (v ∷ xs)
distinct_snoc [] v = refl
distinct_snoc (x ∷ xs) v = go (distinct_snoc xs v) (ℕ_discrete x v)
  where
    apart : distinct (xs ++ (v ∷ [])) ≡ distinct (v ∷ xs) → (x ≡ v → ⊥)
        → distinct (x ∷ (xs ++ (v ∷ []))) ≡ distinct (v ∷ (x ∷ xs))
    apart ih n = by (ℕ_discrete (occurs x xs) 0) (ℕ_discrete (occurs v xs) 0)
      where
        x_same : occurs x (xs ++ (v ∷ [])) ≡ occurs x xs
        x_same = occurs_snoc_miss x v xs n

        v_same : occurs v (x ∷ xs) ≡ occurs v xs
        v_same = occurs_miss v x xs (λ e. n (sym e))

        by : Dec (occurs x xs ≡ 0) → Dec (occurs v xs ≡ 0) → distinct (x ∷ (xs ++ (v ∷ []))) ≡ distinct (v ∷ (x ∷ xs))
        by (yes a) (yes b) =
            omega (
              arith,
              ih,
              distinct_new x (xs ++ (v ∷ [])) (x_same ∙ a),
              distinct_new v xs b,
              distinct_new v (x ∷ xs)
                  (v_same ∙ b),
              distinct_new x xs a,
            )
        by (yes a) (no b) =
            omega (
              arith,
              ih,
              distinct_new x (xs ++ (v ∷ [])) (x_same ∙ a),
              distinct_old v xs (omega arith),
              distinct_old v (x ∷ xs) (omega (arith, v_same)),
              distinct_new x xs a,
            )
        by (no a) (yes b) =
            omega (
              arith,
              ih,
              distinct_old x (xs ++ (v ∷ [])) (omega (arith, x_same)),
              distinct_new v xs b,
              distinct_new
                  v (x ∷ xs) (v_same ∙ b),
              distinct_old x xs (omega arith),
            )
        by (no a) (no b) =
            omega (
              arith,
              ih,
              distinct_old x (xs ++ (v ∷ [])) (omega (arith, x_same)),
              distinct_old v xs (omega arith),
              distinct_old v (x ∷ xs) (omega (arith, v_same)),
              distinct_old x xs (omega arith),
            )

    go : distinct (xs ++ (v ∷ [])) ≡ distinct (v ∷ xs) → Dec (x ≡ v)
        → distinct (x ∷ (xs ++ (v ∷ []))) ≡ distinct (v ∷ (x ∷ xs))
    go ih (yes e) =
        subst (λ (w : ℕ). distinct (x ∷ (xs ++ (w ∷ []))) ≡ distinct (w ∷ (x ∷ xs))) e
        (distinct_old x (xs ++ (x ∷ [])) (omega (arith, occurs_snoc_hit x xs))
        ∙ subst (λ (w : ℕ). distinct (xs ++ (w ∷ [])) ≡ distinct (w ∷ xs)) (sym e) ih
        ∙ sym (distinct_old x (x ∷ xs) (omega (arith, occurs_hit x xs))))
    go ih (no n) = apart ih n

-- and so does a whole list
pub distinct_turned : (ys xs : List ℕ) → distinct (ys ++ xs) ≡ distinct (xs ++ ys)
distinct_turned [] xs = ap distinct (sym (append-nil xs))
distinct_turned (y ∷ ys) xs =
    sym (distinct_snoc (ys ++ xs) y) ∙ ap distinct (append_assoc ys xs (y ∷ []))
    ∙ distinct_turned ys (xs ++ (y ∷ [])) ∙ ap distinct (append_assoc xs (y ∷ []) ys)

-- ---- the same of a sequence: a position counts exactly if no earlier one has its symbol

pub occurs_table : (w : ℕ → ℕ) (v n : ℕ) → ((q : ℕ) → q < n → w q ≡ v → ⊥) → occurs v (table w n) ≡ 0
occurs_table w v zero h = rw table-zero (occurs_none v)
occurs_table w v (suc n) h =
    rw table-suc (occurs_snoc_miss v (w n) (table w n) (λ e. h n (omega arith) (sym e))
    ∙ occurs_table w v n (λ q l. h q (omega arith)))

pub occurs_table_some : (w : ℕ → ℕ) (n q : ℕ) → q < n → 0 < occurs (w q) (table w n)
occurs_table_some w zero q h = absurd (omega arith)
occurs_table_some w (suc n) q h = go (occurs_table_some w n q) (ℕ_discrete q n)
  where
    more : occurs (w q) (table w (suc n)) ≡ occurs (w q) (table w n) + occurs (w q) (w n ∷ [])
    more = ap (occurs (w q)) (table-suc w n) ∙ occurs_append (w q) (table w n) (w n ∷ [])

    go : (q < n → 0 < occurs (w q) (table w n)) → Dec (q ≡ n) → 0 < occurs (w q) (table w (suc n))
    go ih (yes e) =
        let one : occurs (w q) (w n ∷ []) ≡ occurs (w q) [] + 1 = rw (ap w (sym e)) (occurs_hit (w q) []) in
        omega (arith, more)
    go ih (no d) = omega (arith, more, ih (omega arith))

pub distinct_next_new : (w : ℕ → ℕ) (n : ℕ) → ((q : ℕ) → q < n → w q ≡ w n → ⊥)
    → distinct (table w (suc n)) ≡ distinct (table w n) + 1
distinct_next_new w n h =
    ap distinct (table-suc w n) ∙ distinct_snoc (table w n) (w n)
    ∙ distinct_new (w n) (table w n) (occurs_table w (w n) n h)

pub distinct_next_old : (w : ℕ → ℕ) (n q : ℕ) → q < n → w q ≡ w n → distinct (table w (suc n)) ≡ distinct (table w n)
distinct_next_old w n q h e =
    ap distinct (table-suc w n) ∙ distinct_snoc (table w n) (w n)
    ∙ distinct_old (w n) (table w n) (subst (λ (v : ℕ). 0 < occurs v (table w n)) e (occurs_table_some w n q h))

-- ---- document 01's first draft: the two windows

pub example_distinct : (distinct (7 ∷ 7 ∷ 3 ∷ 7 ∷ []) ≡ 2) × (distinct (7 ∷ 3 ∷ 7 ∷ 7 ∷ []) ≡ 2)
unfolding distinct contains occurs
example_distinct = (refl, refl)
