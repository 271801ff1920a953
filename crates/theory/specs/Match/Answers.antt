-- The answer is right: a match exactly where the pattern and the window match, and else the mismatch that ends first
-- and then begins first.
-- Assumes nothing.
use Rattle.std.specs.Prelude.{◌≡◌, refl, Bool, true, false, ◌↔◌}
use Rattle.std.proofs.Common.{subst, arith}
use Prim.Native.Nat.{ℕ, ◌<◌, ◌≤◌}
use borrow.Author.Tests.{ltb-true}
use Rattle.theory.specs.Test.{pick, Tested, holds, fails}
use Rattle.theory.specs.Test.Laws.{lt_tested}
use Rattle.theory.specs.First.{first, First}
use Rattle.theory.specs.First.Laws.{first_spec}
use Rattle.theory.specs.Match.{Maps, Matches, AlikeOnly, Mismatch, mismatch_at, earliest, ends, first_end, Answer}
use Rattle.theory.specs.Match.{matched, mismatched, mismatch_ending, answer_of, image_of}
use Rattle.theory.specs.Match.Even.{Alike, mismatch_true, mismatch_false, ends_false, even_if, maps_even}
use Rattle.theory.specs.Match.Even.{even_maps}

module _ (m w : ℕ → ℕ) where
  pub record LeastMismatch (side : Bool) (n q p : ℕ) : Type 0 where
    pub inside : p < n
    pub mismatch : Mismatch side m w q p
    pub later_first : (s : Bool) (i k : ℕ) → Mismatch s m w i k → p ≤ k
    pub earlier_first : (s : Bool) (i : ℕ) → Mismatch s m w i p → q ≤ i

  abbrev pub Right : ℕ → Answer → Type 0
  Right n matched = Maps m w n (image_of m w n)
  Right n (mismatched side q p) = LeastMismatch side n q p

  mismatch_alike : (s : Bool) (q p : ℕ) → Mismatch s m w q p → Alike (m q) (m p) (w q) (w p) → ⊥
  mismatch_alike s q p c a = go s c.alike
    where
      go : (t : Bool) → AlikeOnly t m w q p → ⊥
      go true u = u.1 (a.there u.0)
      go false u = u.1 (a.back u.0)

  least : (p n : ℕ) → p < n → ends m w p ≡ true → ((k : ℕ) → k < p → ends m w k ≡ false)
      → Right n (mismatch_ending m w p)
  unfolding mismatch_ending ends earliest
  least p n hp t before =
      let f = first_spec (mismatch_at m w p) p in
      let order : earliest m w p < p = ltb-true _ _ t in
      record {
        inside = hp;
        mismatch = record { order = order; alike = mismatch_true m w _ p (f.hit order) };
        later_first = λ s i k c.
            let no_sooner : k < p → ⊥ = λ h. mismatch_alike s i k c (ends_false m w k (before k h) i c.order) in
            omega arith;
        earlier_first = λ s i c.
            let no_sooner : i < earliest m w p
            → ⊥ = λ h. mismatch_alike s i p c (mismatch_false m w i p (f.before i h)) in
            omega arith;
      }

  -- the answer is right
  pub answer_right : (n : ℕ) → Right n (answer_of m w n)
  unfolding answer_of first_end
  answer_right n = go (lt_tested p n)
    where
      p : ℕ
      p = first (ends m w) n

      f : First (ends m w) n p
      f = first_spec (ends m w) n

      go : {t : Bool} → Tested (p < n) t → Right n (pick t (mismatch_ending m w p) matched)
      go (holds h) = least p n h (f.hit h) f.before
      go (fails g) = even_maps m w n (even_if m w n (λ k h. f.before k (omega arith)))

  no_mismatch_in : (n : ℕ) → Matches m w n → (s : Bool) (q p : ℕ) → p < n → Mismatch s m w q p → ⊥
  no_mismatch_in n (f, r) s q p h c =
      let order = c.order in
      mismatch_alike s q p c (maps_even m w n f r q p (omega arith) h)

  pub match_iff : (n : ℕ) → (answer_of m w n ≡ matched) ↔ Matches m w n
  match_iff n =
      ((λ e. (image_of m w n, subst (Right n) e (answer_right n))), (λ x. go (answer_of m w n) (answer_right n) x))
    where
      go : (v : Answer) → Right n v → Matches m w n → v ≡ matched
      go matched r x = refl
      go (mismatched s q p) l x = absurd (no_mismatch_in n x s q p l.inside l.mismatch)

  pub no_mismatch_iff : (n : ℕ) → ((s : Bool) (q p : ℕ) → p < n → Mismatch s m w q p → ⊥) ↔ Matches m w n
  no_mismatch_iff n = ((λ none. go none (answer_of m w n) (answer_right n)), no_mismatch_in n)
    where
      go : ((s : Bool) (q p : ℕ) → p < n → Mismatch s m w q p → ⊥) → (v : Answer) → Right n v → Matches m w n
      go none matched r = (image_of m w n, r)
      go none (mismatched s q p) l = absurd (none s q p l.inside l.mismatch)

  one_side : (s t : Bool) (q p : ℕ) → AlikeOnly s m w q p → AlikeOnly t m w q p → s ≡ t
  one_side true true q p u v = refl
  one_side true false q p u v = absurd (v.1 u.0)
  one_side false true q p u v = absurd (u.1 v.0)
  one_side false false q p u v = refl

  least_unique : (n : ℕ) (s t : Bool) (q p q' p' : ℕ) → LeastMismatch s n q p → LeastMismatch t n q' p'
      → mismatched s q p ≡ mismatched t q' p'
  least_unique n s t q p q' p' l k =
      let ep : p ≡ p' = omega (arith, l.later_first t q' p' k.mismatch, k.later_first s q p l.mismatch) in
      let k₁ : LeastMismatch t n q' p = rw ep k in
      let eq : q ≡ q' = omega (arith, l.earlier_first t q' k₁.mismatch, k₁.earlier_first s q l.mismatch) in
      let k₂ : LeastMismatch t n q p = rw eq k₁ in
      let es : s ≡ t = one_side s t q p l.mismatch.alike k₂.mismatch.alike in
      cc

  pub mismatch_iff : (n : ℕ) (s : Bool) (q p : ℕ) → (answer_of m w n ≡ mismatched s q p) ↔ LeastMismatch s n q p
  mismatch_iff n s q p = ((λ e. subst (Right n) e (answer_right n)), (λ l. go (answer_of m w n) (answer_right n) l))
    where
      go : (v : Answer) → Right n v → LeastMismatch s n q p → v ≡ mismatched s q p
      go matched r l = absurd (no_mismatch_in n (image_of m w n, r) s q p l.inside l.mismatch)
      go (mismatched t q' p') k l = least_unique n t s q' p' q p k l
