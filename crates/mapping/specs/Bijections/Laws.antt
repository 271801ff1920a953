-- What pairing, inverting and composing give: agreement is kept, pairing changes one image and one preimage, the
-- inverse of the inverse is the bijection itself, and the composite takes a to c over some x. Each is a law on columns
-- (theory, Columns) at the columns of a bijection.
-- Assumes nothing.
use Rattle.std.specs.Prelude.{◌≡◌, refl, List, ◌↔◌, ℕ, ◌<◌, length, get_or}
use Rattle.std.proofs.Common.{ap₂, arith}
use Rattle.std.proofs.Math.Seq.{get_or-set_same, get_or-set_other}
use Rattle.theory.specs.Columns.{Agree}
use Rattle.theory.specs.Columns.Agreement.{agree_sym}
use Rattle.theory.specs.Columns.Operations.{empty_columns_agree, set_agrees, set_again, chained_agrees, chained_gives}
use Rattle.mapping.specs.declared.bijections.Bijection.{Bijection}
use Rattle.mapping.specs.Bijections.{empty_bijection, paired, inverse, composite}
use Rattle.mapping.specs.Bijections.Numbers.{Pairable}

-- bijections with the same columns are the same
pub same_columns : (b d : Bijection) → b.forward ≡ d.forward → b.backward ≡ d.backward → b ≡ d
same_columns b d e h = ap₂ bijection e h
  where
    bijection : List ℕ → List ℕ → Bijection
    bijection f g = record { forward = f; backward = g }

pub empty_agrees : Agree empty_bijection.forward empty_bijection.backward
unfolding empty_bijection
empty_agrees = empty_columns_agree

module _ (b : Bijection) (a c : ℕ) where
  -- an accepted pair keeps the agreement
  pub paired_agrees : length b.forward ≡ 256 → length b.backward ≡ 256 → a < 256 → c < 256 → Pairable b a c
      → Agree (paired b a c).forward (paired b a c).backward
  unfolding paired
  paired_agrees lf lg ha hc s =
      set_agrees b.forward b.backward a c lf lg ha hc s.image_free s.preimage_free s.agreed

  -- a has the image c, c the preimage a, and all others have what they had
  pub paired_image : length b.forward ≡ 256 → a < 256 → get_or (paired b a c).forward a 0 ≡ c
  unfolding paired
  paired_image lf ha = get_or-set_same b.forward a c 0 (omega arith)

  pub paired_preimage : length b.backward ≡ 256 → c < 256 → get_or (paired b a c).backward c 0 ≡ a
  unfolding paired
  paired_preimage lg hc = get_or-set_same b.backward c a 0 (omega arith)

  pub paired_other_images : (k : ℕ) → (k ≡ a → ⊥) → get_or (paired b a c).forward k 0 ≡ get_or b.forward k 0
  unfolding paired
  paired_other_images k ne = get_or-set_other b.forward a k c 0 ne

  pub paired_other_preimages : (k : ℕ) → (k ≡ c → ⊥) → get_or (paired b a c).backward k 0 ≡ get_or b.backward k 0
  unfolding paired
  paired_other_preimages k ne = get_or-set_other b.backward c k a 0 ne

  -- a pair that is there already changes nothing
  pub paired_again : Agree b.forward b.backward → a < 256 → c < 256 → get_or b.forward a 0 ≡ c → paired b a c ≡ b
  unfolding paired
  paired_again s ha hc e =
      same_columns (paired b a c) b (set_again b.forward a c e)
      (set_again b.backward c a ((s.same a ha c hc).0 e))

pub inverse_agrees : (b : Bijection) → Agree b.forward b.backward
    → Agree (inverse b).forward (inverse b).backward
unfolding inverse
inverse_agrees b s = agree_sym b.forward b.backward s

pub inverse-inverse : (b : Bijection) → inverse (inverse b) ≡ b
unfolding inverse
inverse-inverse b = refl

module _ (b d : Bijection) where
  pub composite_agrees : Agree b.forward b.backward → Agree d.forward d.backward
      → Agree (composite b d).forward (composite b d).backward
  unfolding composite
  composite_agrees s t = chained_agrees b.forward b.backward d.forward d.backward s t

  -- the composite gives c for a exactly if b gives some x for a and d gives c for that x; and so backward
  pub composite_image : (a c : ℕ) → a < 256 → c < 256
      → (get_or (composite b d).forward a 0 ≡ c)
      ↔ ((x : ℕ) × (x < 256) × (get_or b.forward a 0 ≡ x) × (get_or d.forward x 0 ≡ c))
  unfolding composite
  composite_image a c ha hc = chained_gives b.forward d.forward a c ha hc

  pub composite_preimage : (c a : ℕ) → c < 256 → a < 256
      → (get_or (composite b d).backward c 0 ≡ a)
      ↔ ((x : ℕ) × (x < 256) × (get_or d.backward c 0 ≡ x) × (get_or b.backward x 0 ≡ a))
  unfolding composite
  composite_preimage c a hc ha = chained_gives d.backward b.backward c a hc ha
