-- A symbol in, a symbol out, and whole rows: the table of occurrences goes on tracking its list. An occurrence count
-- changes at one symbol alone, and the number of different ones where that count leaves or reaches 0.
-- Assumes nothing.
use Rattle.std.specs.Prelude.{◌≡◌, Bool, true, false, List, [], ◌∷◌, ◌++◌, ℕ, ◌+◌, ◌-◌, ◌≤◌, ◌<◌, eqb, length, get_or, set, take, drop, replicate}
use Rattle.std.proofs.Common.{sym, ap, ◌∙◌, subst, take_all, append-nil, append_assoc, arith, length-append, length-set, eq-eqb, ne_eqb}
use Rattle.std.proofs.lemmas.List.{length-replicate, get_or-replicate}
use Rattle.std.proofs.Math.Decide.{ℕ_discrete}
use Rattle.theory.specs.Test.{pick}
use Rattle.theory.specs.Test.Laws.{pick_true, pick_false}
use Rattle.theory.specs.Store.Laws.{set_right}
use Rattle.occurrences.specs.Distinct.{occurs, distinct}
use Rattle.occurrences.specs.Distinct.Laws.{occurs_none, occurs_hit, occurs_miss}
use Rattle.occurrences.specs.Distinct.Laws.{occurs_snoc_hit, occurs_snoc_miss}
use Rattle.occurrences.specs.Distinct.Laws.{occurs_le, distinct_none, distinct_new, distinct_old, distinct_snoc}
use Rattle.occurrences.specs.Distinct.Laws.{distinct_le, distinct_some, distinct_turned, occurs_append}
use Rattle.occurrences.specs.Occurrences.{Tracks, RoomToAdd, Starts, Adds, Removes, Replaces, Changeable, Changed}
use Rattle.occurrences.specs.Occurrences.{Underway, occurrences_of}
use Rattle.occurrences.specs.declared.occurrences.Occurrences.{Occurrences}

-- ---- one symbol in, one symbol out

pub tracks_none : (t : List ℕ) → t ≡ replicate 256 0 → Tracks (occurrences_of t 0) []
tracks_none t e =
    rw e (record {
      long = length-replicate {A = ℕ} 256 0;
      each = λ v h. get_or-replicate 256 v 0 0 h ∙ sym (occurs_none v);
      size_is = sym distinct_none;
    })

module _ (o r : Occurrences) (v : ℕ) (xs : List ℕ) (b : v < 256) where
  pub tracks_add : Tracks o xs → r.of ≡ set o.of v (get_or o.of v 0 + 1)
      → r.size ≡ pick (eqb (get_or o.of v 0) 0) (o.size + 1) o.size → Tracks r (xs ++ (v ∷ []))
  tracks_add k c s = record {
    long = rw (c, length-set) k.long;
    each = λ w h. rw c (set_right o.of v _ w (λ (u : ℕ). occurs u (xs ++ (v ∷ []))) (omega arith)
        (omega (arith, k.each v b, occurs_snoc_hit v xs)) (λ n. k.each w h ∙ sym (occurs_snoc_miss w v xs n)));
    size_is = s ∙ go (ℕ_discrete (occurs v xs) 0) ∙ sym (distinct_snoc xs v);
  }
    where
      go : Dec (occurs v xs ≡ 0) → pick (eqb (get_or o.of v 0) 0) (o.size + 1) o.size ≡ distinct (v ∷ xs)
      go (yes e) =
          pick_true _ _ (eq-eqb (get_or o.of v 0) 0 (k.each v b ∙ e))
          ∙ omega (arith, k.size_is, distinct_new v xs e)
      go (no n) =
          pick_false _ _ (ne_eqb (get_or o.of v 0) 0 (λ z. n (sym (k.each v b) ∙ z)))
          ∙ omega (arith, k.size_is, distinct_old v xs (omega arith))

  pub tracks_remove : Tracks o (v ∷ xs) → r.of ≡ set o.of v (get_or o.of v 0 - 1)
      → r.size ≡ pick (eqb (get_or o.of v 0) 1) (o.size - 1) o.size → Tracks r xs
  tracks_remove k c s = record {
    long = rw (c, length-set) k.long;
    each = λ w h. rw c (set_right o.of v _ w (λ (u : ℕ). occurs u xs) (omega arith)
        (omega (arith, k.each v b, occurs_hit v xs)) (λ n. k.each w h ∙ occurs_miss w v xs n));
    size_is = s ∙ go (ℕ_discrete (occurs v xs) 0);
  }
    where
      one_more : get_or o.of v 0 ≡ occurs v xs + 1
      one_more = k.each v b ∙ occurs_hit v xs

      go : Dec (occurs v xs ≡ 0) → pick (eqb (get_or o.of v 0) 1) (o.size - 1) o.size ≡ distinct xs
      go (yes e) =
          pick_true _ _ (eq-eqb (get_or o.of v 0) 1 (omega (arith, one_more)))
          ∙ omega (arith, k.size_is, distinct_new v xs e)
      go (no n) =
          pick_false _ _ (ne_eqb (get_or o.of v 0) 1 (λ z. n (omega (arith, one_more)))) ∙ k.size_is
          ∙ distinct_old v xs (omega arith)

-- an occurrence count and the number of different symbols are at most the list's length, and at least 1 where a symbol
-- is there
module _ (o : Occurrences) where
  pub occurrences_le : (v : ℕ) (xs : List ℕ) → v < 256 → Tracks o xs → get_or o.of v 0 ≤ length xs
  occurrences_le v xs b k = rw (k.each v b) (occurs_le v xs)

  pub size_le : (xs : List ℕ) → Tracks o xs → o.size ≤ length xs
  size_le xs k = rw k.size_is (distinct_le xs)

  pub count_some : (v : ℕ) (xs : List ℕ) → v < 256 → Tracks o (v ∷ xs) → 1 ≤ get_or o.of v 0
  count_some v xs b k = omega (arith, k.each v b, occurs_hit v xs)

  pub size_some : (v : ℕ) (xs : List ℕ) → Tracks o (v ∷ xs) → 1 ≤ o.size
  size_some v xs k = omega (arith, k.size_is, distinct_some v (v ∷ xs) (omega (arith, occurs_hit v xs)))

-- ---- a row, symbol by symbol

-- what is asked, and what is promised, where it is known that symbols enter, and where it is known that they leave
module _ (b : Bool) (o : Occurrences) (ys : List ℕ) where
  pub asked_entering : b ≡ true → Changeable b o ys → RoomToAdd o (length ys)
  asked_entering e m = subst (λ (d : Bool). Changeable d o ys) e m

  pub asked_leaving : b ≡ false → Changeable b o ys → Starts o ys
  asked_leaving e m = subst (λ (d : Bool). Changeable d o ys) e m

  pub has_entered : (r : Occurrences) → b ≡ true → Adds o ys r → Changed b o ys r
  has_entered r e a = subst (λ (d : Bool). Changed d o ys r) (sym e) a

  pub has_left : (r : Occurrences) → b ≡ false → Removes o ys r → Changed b o ys r
  has_left r e a = subst (λ (d : Bool). Changed d o ys r) (sym e) a

-- what is asked of a row is asked of its first symbol
pub first_changeable : (b : Bool) (o : Occurrences) (v : ℕ) (ys : List ℕ) → Changeable b o (v ∷ ys)
    → Changeable b o (v ∷ [])
first_changeable true o v ys m = (m.0, m.1, omega (arith, m.2))
first_changeable false o v ys m = (ys ++ m.0, m.1)

-- and, once that has entered or left, of the rest
rest_changeable : (b : Bool) (o n : Occurrences) (v : ℕ) (ys : List ℕ) → Changeable b o (v ∷ ys)
    → Changed b o (v ∷ []) n → Changeable b n ys
rest_changeable true o n v ys m a = (m.0 ++ (v ∷ []), a m.0 m.1, rw length-append (omega (arith, m.2)))
rest_changeable false o n v ys m a = (m.0, a (ys ++ m.0) m.1)

changed_none : (b : Bool) (o : Occurrences) → Changed b o [] o
changed_none true o = λ xs k. rw append-nil k
changed_none false o = λ xs k. k

-- first one symbol, then the others
changed_more : (b : Bool) (o n r : Occurrences) (v : ℕ) (ys : List ℕ) → Changed b o (v ∷ []) n → Changed b n ys r
    → Changed b o (v ∷ ys) r
changed_more true o n r v ys a d = λ xs k. rw append_assoc at (d (xs ++ (v ∷ [])) (a xs k))
changed_more false o n r v ys a d = λ xs k. d xs (a (ys ++ xs) k)

module _ (b : Bool) (o : Occurrences) (row : List ℕ) where
  pub underway_start : Changeable b o row → Underway b o row o row
  underway_start m = record { changeable = m; whole = λ r d. d }

  -- one symbol more
  underway_more : (n m : Occurrences) (v : ℕ) (ys : List ℕ) → Underway b o row n (v ∷ ys) → Changed b n (v ∷ []) m
      → Underway b o row m ys
  underway_more n m v ys u a = record {
    changeable = rest_changeable b n m v ys u.changeable a;
    whole = λ r d. u.whole r (changed_more b n m r v ys a d);
  }

  -- and none left
  pub underway_done : (n : Occurrences) → Underway b o row n [] → Changed b o row n
  underway_done n u = u.whole n (changed_none b n)

-- two symbols of what is left, and then the rest of it
two_first : (ys : List ℕ) → 2 ≤ length ys → ys ≡ get_or ys 0 0 ∷ (get_or ys 1 0 ∷ take (length ys - 2) (drop 2 ys))
two_first [] h = absurd (omega arith)
two_first (x ∷ []) h = absurd (omega arith)
two_first (x ∷ (y ∷ ys)) h =
    ap (λ (zs : List ℕ). x ∷ (y ∷ zs)) (sym (take_all _ ys (omega arith)))

pub underway_two : (b : Bool) (o n m r : Occurrences) (row ys : List ℕ) → 2 ≤ length ys → Underway b o row n ys
    → Changed b n (get_or ys 0 0 ∷ []) m → Changed b m (get_or ys 1 0 ∷ []) r
    → Underway b o row r (take (length ys - 2) (drop 2 ys))
underway_two b o n m r row ys h u a d =
    underway_more b o row m r _ _
    (underway_more b o row n m _ _ (subst (λ (zs : List ℕ). Underway b o row n zs) (two_first ys h) u) a) d

-- ---- rows alike

-- how often a symbol occurs does not depend on the order
tracks_turned : (o : Occurrences) (ys xs : List ℕ) → Tracks o (ys ++ xs) → Tracks o (xs ++ ys)
tracks_turned o ys xs k =
    record {
      long = k.long;
      each = λ v h. omega (arith, k.each v h, occurs_append v ys xs, occurs_append v xs ys);
      size_is = k.size_is ∙ distinct_turned ys xs;
    }

-- a row that is replaced by one that is alike leaves the occurrences as they are
pub alike_replaced : (o : Occurrences) (ys zs : List ℕ) → ys ≡ zs → Replaces o ys zs o
alike_replaced o ys zs e xs k = rw (← e) (tracks_turned o ys xs k)
