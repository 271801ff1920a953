-- Laws of the two tables: a first place is one; last places stay last places for a window further down, and with one
-- place more.
-- Assumes nothing.
use Rattle.std.specs.Prelude.{◌≡◌, Bool, List, ℕ, ◌+◌, ◌-◌, ◌≤◌, ◌<◌, get_or, set}
use Rattle.std.proofs.Common.{sym, ◌∙◌, ap, arith, get_or-set_same, get_or-set_other}
use Rattle.theory.specs.Test.{Tested, holds, fails}
use Rattle.theory.specs.Test.Laws.{eq_tested}
use Rattle.theory.specs.Older.{Older}
use Rattle.theory.specs.Older.Laws.{older_set}
use Rattle.prefixes.specs.Prefixes.{FirstAt}
use Rattle.prefixes.specs.State.{FirstPlaces, Lasts}

pub first_at : (m : ℕ → ℕ) (n : ℕ) (l : List ℕ) → FirstPlaces m n l → (p : ℕ) → p < n → FirstAt m p (get_or l (m p) 0)
first_at m n l f p h =
    record {
      within = (f.each p h).0;
      same = (f.each p h).1;
      least = λ k kp e. let x : get_or l (m k) 0 ≤ k = (f.each k (omega arith)).0 in rw e at x;
    }

module _ (t : ℕ → ℕ) where
  -- a window further down, and with nothing of it read yet
  pub lasts_lower : (i j e : ℕ) (l : List ℕ) → i ≤ j → Lasts t i e l → Lasts t j e l
  lasts_lower i j e l h s =
      record {
        older = s.older;
        stands = λ v b k. s.stands v b (omega arith);
        none = λ v b k jk. s.none v b k (omega arith);
      }

  pub lasts_none : (i : ℕ) (l : List ℕ) → Older (i + 1) l → Lasts t i i l
  lasts_none i l o =
      record {
        older = o;
        stands = λ v b k. absurd (over v k);
        none = λ v b k ik lk ki _. absurd (empty k ik ki);
      }
    where
      over : (v : ℕ) → i < get_or l v 0 → ⊥
      over v k = omega (arith, o.below v)

      empty : (k : ℕ) → i ≤ k → k < i → ⊥
      empty k a b = omega arith

  -- one place more
  pub lasts_more : (i e : ℕ) (l : List ℕ) → t e < 256 → Lasts t i e l → Lasts t i (e + 1) (set l (t e) (e + 1))
  lasts_more i e l small s =
      record {
        older =
            older_set (e + 1 + 1) l (t e) (e + 1)
            (record { long = s.older.long; below = λ j. omega (arith, s.older.below j) }) small (omega arith);
        stands = λ v b. stands v b (eq_tested v (t e));
        none = λ v b. none v b (eq_tested v (t e));
      }
    where
      same : get_or (set l (t e) (e + 1)) (t e) 0 ≡ e + 1
      same = get_or-set_same l (t e) (e + 1) 0 (omega (arith, s.older.long))

      back : e + 1 - 1 ≡ e
      back = omega arith

      stands : (v : ℕ) {b : Bool} → v < 256 → Tested (v ≡ t e) b → i < get_or (set l (t e) (e + 1)) v 0
          → t (get_or (set l (t e) (e + 1)) v 0 - 1) ≡ v
      stands v h (holds d) k = rw (d, same, back)
      stands v h (fails d) k =
          let o : get_or (set l (t e) (e + 1)) v 0 ≡ get_or l v 0 = get_or-set_other l (t e) v (e + 1) 0 d in
          rw o (s.stands v h (omega arith))

      none : (v : ℕ) {b : Bool} → v < 256 → Tested (v ≡ t e) b → (k : ℕ) → i ≤ k → get_or (set l (t e) (e + 1)) v 0 ≤ k
          → k < e + 1 → t k ≡ v → ⊥
      none v h (holds d) k ik lk ke x =
          let y : get_or (set l (t e) (e + 1)) v 0 ≡ e + 1 = rw d same in
          omega arith
      none v h (fails d) k ik lk ke x =
          let o : get_or (set l (t e) (e + 1)) v 0 ≡ get_or l v 0 = get_or-set_other l (t e) v (e + 1) 0 d in
          let other : k ≡ e → ⊥ = λ y. d (sym x ∙ ap t y) in
          s.none v h k ik (omega arith) (omega arith) x
