-- The middle notion between a match and the absence of mismatches: any two positions are alike on both sides or on
-- neither. It is symmetric in pattern and window, so one law serves both columns of a bijection.
-- Assumes nothing.
use Rattle.std.specs.Prelude.{◌≡◌, Bool, not, ltb}
use Rattle.std.proofs.Math.Path.{refl}
use Rattle.std.proofs.Common.{sym, ◌∙◌, ap, arith}
use Rattle.std.proofs.Math.Bool.{true, false}
use Rattle.std.proofs.Math.Logic.{⊎_elim}
use Prim.Native.Nat.{ℕ, ◌<◌, ◌≤◌}
use borrow.Author.Tests.{ltb-true, ltb-false, eq-eqb, eqb-true}
use Rattle.std.proofs.Math.Dec.{eqb}
use Rattle.theory.specs.Test.{pick, Tested, holds, fails}
use Rattle.theory.specs.Test.Laws.{eq_tested, lt_tested, true_false, true_or_false}
use Rattle.theory.specs.First.{first, First}
use Rattle.theory.specs.First.Laws.{first_spec}
use Rattle.theory.specs.Match.{Maps, AlikeOnly, mismatch_by, mismatch_at, earliest, ends, image_of}

-- equal on one side exactly where equal on the other
pub record Alike (a b x y : ℕ) : Type 0 where
  pub there : a ≡ b → x ≡ y
  pub back : x ≡ y → a ≡ b

-- equal on one side only
abbrev Unlike : Bool → ℕ → ℕ → ℕ → ℕ → Type 0
Unlike true a b x y = (a ≡ b) × (x ≡ y → ⊥)
Unlike false a b x y = (x ≡ y) × (a ≡ b → ⊥)

data Compare (a b x y : ℕ) : Bool → Bool → Type 0 where
  alike : {t : Bool} → Alike a b x y → Compare a b x y t false
  unlike : {t : Bool} → Unlike t a b x y → Compare a b x y t true

compare : (a b x y : ℕ) → Compare a b x y (eqb a b) (mismatch_by a b x y)
compare a b x y = go (eq_tested a b) (eq_tested x y)
  where
    go : {t u : Bool} → Tested (a ≡ b) t → Tested (x ≡ y) u → Compare a b x y t (pick t (not u) u)
    go (holds e) (holds f) = alike (record { there = λ _. f; back = λ _. e })
    go (holds e) (fails g) = unlike {t = true} (e, g)
    go (fails g) (holds f) = unlike {t = false} (f, g)
    go (fails g) (fails h) = alike (record { there = λ e. absurd (g e); back = λ f. absurd (h f) })

module _ (m w : ℕ → ℕ) where
  pub earliest_le : (p : ℕ) → earliest m w p ≤ p
  unfolding earliest
  earliest_le p = (first_spec (mismatch_at m w p) p).within

  pub mismatch_false : (q p : ℕ) → mismatch_at m w p q ≡ false → Alike (m q) (m p) (w q) (w p)
  unfolding mismatch_at
  mismatch_false q p = go (compare (m q) (m p) (w q) (w p))
    where
      go : {t b : Bool} → Compare (m q) (m p) (w q) (w p) t b → b ≡ false → Alike (m q) (m p) (w q) (w p)
      go (alike a) e = a
      go (unlike u) e = absurd (true_false refl e)

  pub mismatch_true : (q p : ℕ) → mismatch_at m w p q ≡ true → AlikeOnly (eqb (m q) (m p)) m w q p
  unfolding mismatch_at
  mismatch_true q p = go (compare (m q) (m p) (w q) (w p))
    where
      go : {t b : Bool} → Compare (m q) (m p) (w q) (w p) t b → b ≡ true → AlikeOnly t m w q p
      go (alike a) e = absurd (true_false e refl)
      go {t = true} (unlike u) e = u
      go {t = false} (unlike u) e = u

  pub no_mismatch : (q p : ℕ) → Alike (m q) (m p) (w q) (w p) → mismatch_at m w p q ≡ false
  no_mismatch q p a =
      ⊎_elim (λ t. absurd (go (eqb (m q) (m p)) (mismatch_true q p t))) (λ f. f) (true_or_false (mismatch_at m w p q))
    where
      go : (t : Bool) → AlikeOnly t m w q p → ⊥
      go true u = u.1 (a.there u.0)
      go false u = u.1 (a.back u.0)

  -- a position at which no mismatch ends is like every earlier one, and conversely
  pub ends_false : (p : ℕ) → ends m w p ≡ false → (q : ℕ) → q < p → Alike (m q) (m p) (w q) (w p)
  unfolding ends earliest
  ends_false p e q h =
      let f = first_spec (mismatch_at m w p) p in
      let le : p ≤ first (mismatch_at m w p) p = ltb-false _ _ e in
      mismatch_false q p (f.before q (omega arith))

  pub ends_not : (p : ℕ) → ((q : ℕ) → q < p → Alike (m q) (m p) (w q) (w p)) → ends m w p ≡ false
  unfolding ends earliest
  ends_not p a =
      let f = first_spec (mismatch_at m w p) p in
      ⊎_elim (λ t. absurd (true_false (f.hit (ltb-true _ _ t)) (no_mismatch _ p (a _ (ltb-true _ _ t))))) (λ e. e)
      (true_or_false (ltb (first (mismatch_at m w p) p) p))

  -- every two positions below n are alike on both sides or on neither
  abbrev pub Even : ℕ → Type 0
  Even n = (q p : ℕ) → q < n → p < n → Alike (m q) (m p) (w q) (w p)

  pub even_if : (n : ℕ) → ((k : ℕ) → k < n → ends m w k ≡ false) → Even n
  even_if n h q p hq hp = go (lt_tested q p) (lt_tested p q)
    where
      go : {t u : Bool} → Tested (q < p) t → Tested (p < q) u → Alike (m q) (m p) (w q) (w p)
      go (holds a) u = ends_false p (h p hp) q a
      go (fails a) (holds b) =
          let r = ends_false q (h q hq) p b in
          record { there = λ e. sym (r.there (sym e)); back = λ e. sym (r.back (sym e)) }
      go (fails a) (fails b) =
          let e : q ≡ p = omega arith in
          record { there = λ _. ap w e; back = λ _. ap m e }

  pub maps_even : (n : ℕ) (f : ℕ → ℕ) → Maps m w n f → Even n
  maps_even n f r q p hq hp =
      record {
        there = λ e. sym (r.carries q hq) ∙ ap f e ∙ r.carries p hp;
        back = λ e. r.one_to_one q p hq hp (r.carries q hq ∙ e ∙ sym (r.carries p hp));
      }

  -- a symbol's image is the window's symbol at one of its positions, or it has no position and no image
  pub data Image (n a : ℕ) : ℕ → Type 0 where
    at : (k : ℕ) → k < n → m k ≡ a → Image n a (w k)
    nowhere : ((k : ℕ) → k < n → m k ≡ a → ⊥) → Image n a 256

  pub image : (n a : ℕ) → Image n a (image_of m w n a)
  unfolding image_of
  image n a = go (lt_tested k n)
    where
      k : ℕ
      k = first (λ p. eqb (m p) a) n

      f : First (λ p. eqb (m p) a) n k
      f = first_spec (λ p. eqb (m p) a) n

      go : {t : Bool} → Tested (k < n) t → Image n a (pick t (w k) 256)
      go (holds h) = at k h (eqb-true _ _ (f.hit h))
      go (fails g) = nowhere (λ i hi e. true_false (eq-eqb _ _ e) (f.before i (omega arith)))

  pub even_carries : (n : ℕ) → Even n → (p : ℕ) → p < n → image_of m w n (m p) ≡ w p
  even_carries n ev p hp = go (image n (m p))
    where
      go : {v : ℕ} → Image n (m p) v → v ≡ w p
      go (at k h e) = (ev k p h hp).there e
      go (nowhere g) = absurd (g p hp refl)

  pub even_maps : (n : ℕ) → Even n → Maps m w n (image_of m w n)
  even_maps n ev =
      record {
        carries = even_carries n ev;
        one_to_one = λ p q hp hq e. (ev p q hp hq).back (sym (even_carries n ev p hp) ∙ e ∙ even_carries n ev q hq);
      }

  -- a symbol that is not in the pattern has no image
  pub no_image : (n a : ℕ) → ((k : ℕ) → k < n → m k ≡ a → ⊥) → image_of m w n a ≡ 256
  no_image n a none = go (image n a)
    where
      go : {v : ℕ} → Image n a v → v ≡ 256
      go (at k h e) = absurd (none k h e)
      go (nowhere g) = refl

pub even_swap : (m w : ℕ → ℕ) (n : ℕ) → Even m w n → Even w m n
even_swap m w n ev q p hq hp = record { there = (ev q p hq hp).back; back = (ev q p hq hp).there }
