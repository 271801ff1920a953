-- Laws of tables: their length, their entries, and a table's first and last values. Each is an induction over the
-- length.
-- Assumes nothing.
use Rattle.std.specs.Prelude.{◌≡◌, List, [], ◌∷◌, ◌++◌, length, get_or}
use Rattle.std.proofs.Math.Path.{refl, ap, ap₂}
use Rattle.std.proofs.Common.{sym, ◌∙◌, le_of_suc-le-suc, add-zero, add-one, ext_get_or}
use Prim.Native.Nat.{ℕ, zero, suc, ◌+◌, ◌<◌}
use native.Mathlib.Omega.{arith}
use Rattle.std.proofs.Math.Nat.{zero-add, suc-add}
use Rattle.theory.specs.Table.{table}

module _ {A : Type 0} where
  pub table-zero : (f : ℕ → A) → table f 0 ≡ []
  unfolding table
  table-zero f = refl

  pub length-table : (f : ℕ → A) (n : ℕ) → length (table f n) ≡ n
  unfolding table
  length-table f zero = refl
  length-table f (suc n) = ap suc (length-table (λ i. f (suc i)) n)

  pub get_or-table : (f : ℕ → A) (n i : ℕ) (d : A) → i < n → get_or (table f n) i d ≡ f i
  unfolding table
  get_or-table f zero i d h = absurd (none h)
    where
      none : i < 0 → ⊥
      none h = omega arith
  get_or-table f (suc n) zero d h = refl
  get_or-table f (suc n) (suc i) d h = get_or-table (λ i. f (suc i)) n i d (le_of_suc-le-suc h)

  pub table_ext : (f g : ℕ → A) (n : ℕ) → ((i : ℕ) → i < n → f i ≡ g i) → table f n ≡ table g n
  unfolding table
  table_ext f g zero h = refl
  table_ext f g (suc n) h =
      ap₂ (λ x xs. x ∷ xs) (h zero (omega arith))
      (table_ext (λ i. f (suc i)) (λ i. g (suc i)) n (λ i l. h (suc i) (omega arith)))

  -- the first n values, and then the m after them
  pub table-add : (f : ℕ → A) (n m : ℕ) → table f (n + m) ≡ table f n ++ table (λ i. f (n + i)) m
  unfolding table
  table-add f zero m = rw zero-add (table_ext _ _ m (λ i _. rw zero-add))
  table-add f (suc n) m =
      rw suc-add
      (ap (λ xs. f zero ∷ xs)
      (table-add (λ i. f (suc i)) n m ∙ ap (λ xs. table (λ i. f (suc i)) n ++ xs)
      (table_ext _ _ m (λ i _. rw suc-add))))

  one_value : (f : ℕ → A) (n : ℕ) → table (λ i. f (n + i)) 1 ≡ f n ∷ []
  unfolding table
  one_value f n = ap (λ x. f x ∷ []) (add-zero n)

  pub table-suc : (f : ℕ → A) (n : ℕ) → table f (suc n) ≡ table f n ++ (f n ∷ [])
  table-suc f n = ap (table f) (sym (add-one n)) ∙ table-add f n 1 ∙ ap (λ xs. table f n ++ xs) (one_value f n)

  -- a list that has the values of f is their table
  pub table_is : (f : ℕ → A) (n : ℕ) (d : A) (xs : List A) → length xs ≡ n → ((i : ℕ) → i < n → get_or xs i d ≡ f i)
      → xs ≡ table f n
  table_is f n d xs e h =
      ext_get_or d xs (table f n) (e ∙ sym (length-table f n))
      (λ i l. let k : i < n = omega arith in h i k ∙ sym (get_or-table f n i d k))
