-- The laws of bijections said of the operations, refused or not: inverting twice gives the bijection back, pairing the
-- same pair again is accepted and changes nothing, and no operation makes columns disagree.
-- Assumes nothing.
use Rattle.std.specs.Prelude.{◌≡◌, refl, Bool, List, [], ℕ, ◌<◌, length, get_or}
use Rattle.std.proofs.Common.{sym, ◌∙◌, ap, inr}
use Rattle.theory.specs.Test.{Tested, holds, fails}
use Rattle.theory.specs.Test.Laws.{is_false}
use Rattle.theory.specs.Columns.{Agree}
use Rattle.refusals.specs.Said.{Said, accepts, refuses, new_by}
use Rattle.mapping.specs.declared.bijections.Bijection.{Bijection}
use Rattle.mapping.specs.Bijections.{paired, inverse, composite, Renamed, pair_said, pair_of, invert_said, invert_of}
use Rattle.mapping.specs.Bijections.{compose_said, compose_of}
use Rattle.mapping.specs.Bijections.Numbers.{good_columns_lem, pair_passed, pair_passes, invert_passes}
use Rattle.mapping.specs.Bijections.Numbers.{invert_disagreeing, compose_passed}
use Rattle.mapping.specs.Bijections.Laws.{paired_agrees, paired_again, inverse_agrees, inverse-inverse}
use Rattle.mapping.specs.Bijections.Laws.{composite_agrees}

-- the columns of a bijection agree
abbrev pub Agrees : Bijection → Type 0
Agrees b = Agree b.forward b.backward

-- an answer is the new bijection where it is accepted, and else the old one
by_agrees : (said : Said) (new old : Bijection) → ((values : List ℕ) → said ≡ accepts values → Agrees new) → Agrees old
    → Agrees (new_by said new old)
by_agrees (accepts values) new old h s = h values refl
by_agrees (refuses number values) new old h s = s

pub pair_keeps : (b : Bijection) (a c : ℕ) → length b.forward ≡ 256 → length b.backward ≡ 256 → a < 256 → c < 256
    → Agrees b → Agrees (pair_of b a c).bijection
unfolding pair_of
pair_keeps b a c lf lg ha hc s =
    by_agrees (pair_said b a c) (paired b a c) b
    (λ values z. paired_agrees b a c lf lg ha hc (pair_passed b a c values z)) s

pub invert_keeps : (b : Bijection) → Agrees b → Agrees (invert_of b).bijection
unfolding invert_of
invert_keeps b s = by_agrees (invert_said b) (inverse b) b (λ _ _. inverse_agrees b s) s

pub compose_keeps : (b d : Bijection) → Agrees b → Agrees (compose_of b d).bijection
unfolding compose_of
compose_keeps b d s =
    by_agrees (compose_said b d) (composite b d) b
    (λ values z. composite_agrees b d (compose_passed b d values z).0 (compose_passed b d values z).1) s

-- inverting twice
abbrev inverted : Bijection → Bijection
inverted b = (invert_of b).bijection

invert_good : (b : Bijection) → Agrees b → inverted b ≡ inverse b
unfolding invert_of
invert_good b s = rw (invert_passes b s)

invert_bad : (b : Bijection) → (Agrees b → ⊥) → inverted b ≡ b
invert_bad b n = sym (ap (λ (r : Renamed). r.bijection) (invert_disagreeing b (is_false (good_columns_lem b) n)))

pub invert_twice : (b : Bijection) → (invert_of (invert_of b).bijection).bijection ≡ b
invert_twice b = go (good_columns_lem b)
  where
    go : {t : Bool} → Tested (Agrees b) t → inverted (inverted b) ≡ b
    go (holds s) = ap inverted (invert_good b s) ∙ invert_good (inverse b) (inverse_agrees b s) ∙ inverse-inverse b
    go (fails n) = ap inverted (invert_bad b n) ∙ invert_bad b n

-- pairing the same pair again is accepted and changes nothing
pub pair_again : (b : Bijection) (a c : ℕ) → a < 256 → c < 256 → Agrees b → get_or b.forward a 0 ≡ c
    → pair_of b a c ≡ record { said = accepts []; bijection = b }
unfolding pair_of
pair_again b a c ha hc s e =
    rw (
      pair_passes b a c (record { agreed = s; image_free = inr e; preimage_free = inr ((s.same a ha c hc).0 e) }),
      paired_again b a c s ha hc e,
    )
