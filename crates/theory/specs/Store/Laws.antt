-- Stores one after another: a right entry stays right, a place that is met is right, a place past all is kept. So where
-- the places cover the numbers below a size, the whole is the table of their values.
-- Assumes nothing.
use Rattle.std.specs.Prelude.{◌≡◌, List, ◌++◌, set, drop}
use Rattle.std.proofs.Math.Path.{refl, subst}
use Rattle.std.proofs.Common.{sym, ap, ◌∙◌, arith, length-append, length-drop, get_or-set_same, get_or-append-add, get_or-drop, ext_get_or}
use Prim.Native.Nat.{ℕ, zero, suc, ◌-◌, ◌≤◌, ◌<◌}
use Rattle.std.proofs.Math.Decide.{ℕ_discrete, dec_lt}
use Rattle.std.proofs.Math.ListN.{length, get_or, length-set, get_or-append}
use Rattle.std.proofs.Math.Seq.{get_or-set_other}
use Rattle.theory.specs.Table.{table}
use Rattle.theory.specs.Table.Laws.{length-table, get_or-table}
use Rattle.theory.specs.Store.{stored, stored_rows, Covers}

-- stores of equal values at equal places
pub stored_ext : (f g : ℕ → ℕ) (at : ℕ → ℕ) (n : ℕ) (l : List ℕ) → ((i : ℕ) → i < n → f (at i) ≡ g (at i))
    → stored f at n l ≡ stored g at n l
unfolding stored
stored_ext f g at zero l h = refl
stored_ext f g at (suc n) l h =
    ap (λ (v : ℕ). set (stored f at n l) (at n) v) (h n (omega arith))
    ∙ ap (λ (r : List ℕ). set r (at n) (g (at n))) (stored_ext f g at n l (λ i k. h i (omega arith)))

-- entry v becomes f v: entry w is f w if it was before, or is v
pub set_right : (l : List ℕ) (v n w : ℕ) (f : ℕ → ℕ) → w < length l → n ≡ f v → ((w ≡ v → ⊥) → get_or l w 0 ≡ f w)
    → get_or (set l v n) w 0 ≡ f w
set_right l v n w f h e k = go (ℕ_discrete w v)
  where
    go : Dec (w ≡ v) → get_or (set l v n) w 0 ≡ f w
    go (yes d) =
        subst (λ (u : ℕ). get_or (set l v n) u 0 ≡ f u) (sym d)
        (get_or-set_same l v n 0 (subst (λ (u : ℕ). u < length l) d h) ∙ e)
    go (no d) = get_or-set_other l v w n 0 d ∙ k d

module _ (f : ℕ → ℕ) where
  pub stored_none : (at : ℕ → ℕ) (l : List ℕ) → stored f at 0 l ≡ l
  unfolding stored
  stored_none at l = refl

  pub length-stored : (at : ℕ → ℕ) (n : ℕ) (l : List ℕ) → length (stored f at n l) ≡ length l
  unfolding stored
  length-stored at zero l = refl
  length-stored at (suc n) l = rw length-set (length-stored at n l)

  -- one store more
  pub stored_more : (at : ℕ → ℕ) (n : ℕ) (l cells : List ℕ) (v : ℕ) → cells ≡ stored f at n l → v ≡ f (at n)
      → set cells (at n) v ≡ stored f at (suc n) l
  unfolding stored
  stored_more at n l cells v e d = rw (e, d)

  -- what is right stays right, a place written is right, and what no place meets stays
  stored_right : (at : ℕ → ℕ) (n : ℕ) (l : List ℕ) (k : ℕ) → k < length l → get_or l k 0 ≡ f k
      → get_or (stored f at n l) k 0 ≡ f k
  unfolding stored
  stored_right at zero l k h e = e
  stored_right at (suc n) l k h e =
      set_right (stored f at n l) (at n) _ k f (omega (arith, length-stored at n l)) refl
      (λ _. stored_right at n l k h e)

  stored_hit : (at : ℕ → ℕ) (n : ℕ) (l : List ℕ) (t : ℕ) → t < n → at t < length l
      → get_or (stored f at n l) (at t) 0 ≡ f (at t)
  unfolding stored
  stored_hit at zero l t b h = absurd (omega arith)
  stored_hit at (suc n) l t b h =
      set_right (stored f at n l) (at n) _ (at t) f (omega (arith, length-stored at n l)) refl
      (λ d. let ne : t ≡ n → ⊥ = λ e. d (ap at e) in stored_hit at n l t (omega arith) h)

  stored_kept : (at : ℕ → ℕ) (n : ℕ) (l : List ℕ) (k : ℕ) → ((t : ℕ) → t < n → k ≡ at t → ⊥)
      → get_or (stored f at n l) k 0 ≡ get_or l k 0
  unfolding stored
  stored_kept at zero l k h = refl
  stored_kept at (suc n) l k h =
      get_or-set_other (stored f at n l) (at n) k (f (at n)) 0 (h n (omega arith))
      ∙ stored_kept at n l k (λ t b. h t (omega arith))

  module _ (at : ℕ → ℕ → ℕ) (n : ℕ) where
    pub rows_none : (l : List ℕ) → stored_rows f at 0 n l ≡ l
    unfolding stored_rows
    rows_none l = refl

    pub length_rows : (m : ℕ) (l : List ℕ) → length (stored_rows f at m n l) ≡ length l
    unfolding stored_rows
    length_rows zero l = refl
    length_rows (suc m) l = rw length-stored (length_rows m l)

    -- one row more
    pub rows_more : (m : ℕ) (l cells r : List ℕ) → cells ≡ stored_rows f at m n l → r ≡ stored f (at m) n cells
        → r ≡ stored_rows f at (suc m) n l
    unfolding stored_rows
    rows_more m l cells r e d = rw (← e) d

    rows_hit : (m : ℕ) (l : List ℕ) (i j : ℕ) → i < m → j < n → at i j < length l
        → get_or (stored_rows f at m n l) (at i j) 0 ≡ f (at i j)
    unfolding stored_rows
    rows_hit zero l i j b c h = absurd (omega arith)
    rows_hit (suc m) l i j b c h = go (rows_hit m l i j) (ℕ_discrete i m)
      where
        go : (i < m → j < n → at i j < length l → get_or (stored_rows f at m n l) (at i j) 0 ≡ f (at i j)) →
            Dec (i ≡ m) → get_or (stored f (at m) n (stored_rows f at m n l)) (at i j) 0 ≡ f (at i j)
        go ih (yes e) = subst (λ (u : ℕ). get_or (stored f (at u) n (stored_rows f at m n l)) (at i j) 0 ≡ f (at i j)) e
            (stored_hit (at i) n (stored_rows f at m n l) j c (omega (arith, length_rows m l)))
        go ih (no d) =
            stored_right (at m) n (stored_rows f at m n l) (at i j) (omega (arith, length_rows m l))
            (ih (omega arith) c h)

    rows_kept : (m : ℕ) (l : List ℕ) (k : ℕ) → ((i j : ℕ) → i < m → j < n → k ≡ at i j → ⊥)
        → get_or (stored_rows f at m n l) k 0 ≡ get_or l k 0
    unfolding stored_rows
    rows_kept zero l k h = refl
    rows_kept (suc m) l k h =
        stored_kept (at m) n (stored_rows f at m n l) k (λ t b. h m t (omega arith) b)
        ∙ rows_kept m l k (λ i j a b. h i j (omega arith) b)

    -- all rows written: the values in order, and the rest as it was
    pub rows_all : (m size : ℕ) (l : List ℕ) → Covers at m n size → size ≤ length l
        → stored_rows f at m n l ≡ table f size ++ drop size l
    rows_all m size l c room =
        ext_get_or 0 _ _
        (length_rows m l ∙ sym (length-append (table f size) (drop size l)
        ∙ omega (arith, length-table f size, length-drop size l)))
        (λ k h. go k (subst (λ (u : ℕ). k < u) (length_rows m l) h) (dec_lt k size))
      where
        go : (k : ℕ) → k < length l → Dec (k < size)
            → get_or (stored_rows f at m n l) k 0 ≡ get_or (table f size ++ drop size l) k 0
        go k h (yes b) =
            let p = c.place k b in
            subst (λ (u : ℕ). get_or (stored_rows f at m n l) u 0 ≡ f u) p.2
            (rows_hit m l (c.row k) (c.column k) p.0 p.1 (subst (λ (u : ℕ). u < length l) (sym p.2) h))
            ∙ sym (get_or-append (table f size) (drop size l) 0 k (omega (arith, length-table f size))
            ∙ get_or-table f size k 0 b)
        go k h (no d) =
            rows_kept m l k (λ i j a b e. d (subst (λ (u : ℕ). u < size) (sym e) (c.inside i j a b)))
            ∙ sym (subst (λ (u : ℕ). get_or (table f size ++ drop size l) u 0 ≡ get_or l u 0)
            (omega (arith, length-table f size))
            (get_or-append-add (table f size) (drop size l) (k - size) 0 ∙ get_or-drop size l (k - size) 0
            ∙ ap (λ (u : ℕ). get_or l u 0) (omega (arith, length-table f size))))
