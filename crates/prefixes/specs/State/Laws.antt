-- Laws of a comparison's state: it begins, it goes one position on, it passes to a window further down, and where it
-- stops is the first end. The code's test and its earlier position are the step and the two cells, read off the tables.
-- Assumes nothing.
use Rattle.std.specs.Prelude.{◌≡◌, Bool, true, false, not, List, eqb, ltb, set}
use Rattle.std.proofs.Common.{sym, ◌∙◌, ap, arith}
use Prim.Native.Nat.{ℕ, ◌+◌, ◌-◌, ◌≤◌, ◌<◌}
use Rattle.std.proofs.Math.ListN.{get_or}
use Rattle.theory.specs.Test.{pick, Tested, holds, fails}
use Rattle.theory.specs.Test.Laws.{eq_tested, lt_tested}
use Rattle.theory.specs.First.Laws.{first_is}
use Rattle.theory.specs.Match.{ends, earliest, first_end}
use Rattle.theory.specs.Older.{Older}
use Rattle.prefixes.specs.Prefixes.{suffix}
use Rattle.prefixes.specs.Prefixes.Step.{near_decides, repeat_decides, new_decides}
use Rattle.prefixes.specs.Prefixes.Cells.{ending_earlier, mismatch_near, mismatch_new}
use Rattle.prefixes.specs.Prefixes.Inheritance.{still_clear}
use Rattle.prefixes.specs.State.{agrees_test, FirstPlaces, Swept, earlier_distance}
use Rattle.prefixes.specs.State.Tables.{first_at, lasts_lower, lasts_none, lasts_more}

module _ (m t : ℕ → ℕ) where
  pub swept_none : (i : ℕ) (l : List ℕ) → Older (i + 1) l → Swept m t i i l
  swept_none i l o = record { order = omega arith; clear = λ k h. absurd (empty k h); lasts = lasts_none t i l o }
    where
      empty : (k : ℕ) → i + k < i → ⊥
      empty k h = omega arith

  -- past what was read
  pub swept_past : (i j e : ℕ) (l : List ℕ) → e ≤ j → Swept m t i e l → Swept m t j j l
  swept_past i j e l h s =
      let o = s.lasts.older in
      swept_none j l (record { long = o.long; below = λ k. omega (arith, o.below k) })

  -- d further down, where the pattern agrees with itself as far as was read
  pub swept_lower : (i e d n f : ℕ) (l : List ℕ) → Swept m t i e l → f ≡ first_end m (suffix m d) n → e ≤ i + d + n
      → i + d ≤ e → e ≤ i + d + f
      → Swept m t (i + d) e l
  swept_lower i e d n f l s fe fits o h =
      record {
        order = o;
        clear = still_clear m t i e d s.clear n f fe fits h;
        lasts = lasts_lower t i (i + d) e l (omega arith) s.lasts;
      }

module _ (pattern : List ℕ) (t : ℕ → ℕ) (n i p : ℕ) (first l : List ℕ) (small : t (i + p) < 256) (inside : p < n)
    (places : FirstPlaces (λ k. get_or pattern k 0) n first) (s : Swept (λ k. get_or pattern k 0) t i (i + p) l) where
  clear_before : (k : ℕ) → k < p → ends (λ k. get_or pattern k 0) (suffix t i) k ≡ false
  clear_before k h = s.clear k (omega arith)

  -- the test tells whether a mismatch ends at p
  pub agrees_tells : agrees_test pattern first i (get_or l (t (i + p)) 0) p (get_or pattern p 0)
      ≡ not (ends (λ k. get_or pattern k 0) (suffix t i) p)
  unfolding agrees_test
  agrees_tells = go (lt_tested i near)
    where
      near : ℕ
      near = get_or l (t (i + p)) 0

      go : {b : Bool} → Tested (i < near) b
          → pick b (eqb (get_or pattern (near - 1 - i) 0) (get_or pattern p 0)) (eqb (get_or first (get_or pattern p 0) 0) p)
          ≡ not (ends (λ k. get_or pattern k 0) (suffix t i) p)
      go (holds h) =
          let back : i + (near - 1 - i) ≡ near - 1 = omega arith in
          near_decides (λ k. get_or pattern k 0) (suffix t i) p clear_before (near - 1 - i)
          (omega (arith, s.lasts.older.below (t (i + p))))
          (ap t back ∙ s.lasts.stands (t (i + p)) small h)
      go (fails h) =
          new_decides (λ k. get_or pattern k 0) (suffix t i) p clear_before (get_or first (get_or pattern p 0) 0)
          (λ k kp e. s.lasts.none (t (i + p)) small (i + k) (omega arith) (omega arith) (omega arith) e)
          (first_at (λ k. get_or pattern k 0) n first places p inside)

  -- and where the pattern repeats the symbol of an earlier position, so does whether the window does
  pub repeat_tells : (q : ℕ) → q < p → get_or pattern q 0 ≡ get_or pattern p 0
      → eqb (t (i + q)) (t (i + p)) ≡ not (ends (λ k. get_or pattern k 0) (suffix t i) p)
  repeat_tells q h e = repeat_decides (λ k. get_or pattern k 0) (suffix t i) p clear_before q h e

  -- and the earlier position of the mismatch that ends there
  pub earlier_tells : ends (λ k. get_or pattern k 0) (suffix t i) p ≡ true
      → earlier_distance pattern first i (get_or l (t (i + p)) 0) p ≡ earliest (λ k. get_or pattern k 0) (suffix t i) p
  unfolding earlier_distance
  earlier_tells hit = go (lt_tested i near)
    where
      near : ℕ
      near = get_or l (t (i + p)) 0

      first_of : ℕ → ℕ
      first_of q = get_or first (get_or pattern q 0) 0

      go : {b : Bool} → Tested (i < near) b
          → pick b (pick (ltb (first_of p) (first_of (near - 1 - i))) (first_of p) (first_of (near - 1 - i))) (first_of p)
          ≡ earliest (λ k. get_or pattern k 0) (suffix t i) p
      go (holds h) =
          let back : i + (near - 1 - i) ≡ near - 1 = omega arith in
          let q_lt : near - 1 - i < p = omega (arith, s.lasts.older.below (t (i + p))) in
          sym (ending_earlier _ _ p _ _
          (mismatch_near (λ k. get_or pattern k 0) (suffix t i) p clear_before (near - 1 - i) (first_of p)
          (first_of (near - 1 - i)) hit q_lt
          (ap t back ∙ s.lasts.stands (t (i + p)) small h)
          (first_at (λ k. get_or pattern k 0) n first places p inside)
          (first_at (λ k. get_or pattern k 0) n first places (near - 1 - i) (omega arith))))
      go (fails h) =
          sym (ending_earlier _ _ p _ _
          (mismatch_new (λ k. get_or pattern k 0) (suffix t i) p clear_before (first_of p) hit
          (λ k kp e. s.lasts.none (t (i + p)) small (i + k) (omega arith) (omega arith) (omega arith) e)
          (first_at (λ k. get_or pattern k 0) n first places p inside)))

  -- one position more
  pub swept_more : ends (λ k. get_or pattern k 0) (suffix t i) p ≡ false
      → Swept (λ k. get_or pattern k 0) t i (i + p + 1) (set l (t (i + p)) (i + p + 1))
  swept_more e =
      record {
        order = omega arith;
        clear = λ k h. go k h (eq_tested k p);
        lasts = lasts_more t i (i + p) l small s.lasts;
      }
    where
      go : (k : ℕ) {b : Bool} → i + k < i + p + 1 → Tested (k ≡ p) b
          → ends (λ k. get_or pattern k 0) (suffix t i) k ≡ false
      go k h (holds d) = rw d e
      go k h (fails d) = clear_before k (omega arith)

-- where the sweep ends is the first end
pub swept_found : (m t : ℕ → ℕ) (i p limit : ℕ) (l : List ℕ) → Swept m t i (i + p) l → p < limit
    → ends m (suffix t i) p ≡ true → p ≡ first_end m (suffix t i) limit
unfolding first_end
swept_found m t i p limit l s h e =
    sym (first_is (record { within = omega arith; before = λ k kp. s.clear k (omega arith); hit = λ _. e }))

pub swept_all : (m t : ℕ → ℕ) (i p : ℕ) (l : List ℕ) → Swept m t i (i + p) l → p ≡ first_end m (suffix t i) p
unfolding first_end
swept_all m t i p l s =
    sym (first_is (record {
      within = omega arith;
      before = λ k kp. s.clear k (omega arith);
      hit = λ h. absurd (over h);
    }))
  where
    over : p < p → ⊥
    over h = omega arith
