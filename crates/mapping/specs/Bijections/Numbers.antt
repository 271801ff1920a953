-- The chains of refusals by their tests: what each end of an operation answers, and what is known where nothing is
-- refused.
-- Assumes nothing.
use Rattle.std.specs.Prelude.{◌≡◌, true, false, ℕ}
use mathlib.Core.List.{List, []}
use Rattle.theory.specs.Test.{Tested}
use Rattle.theory.specs.Test.Laws.{is_true, says_true}
use Rattle.theory.specs.Columns.{Agree, Free, free}
use Rattle.theory.specs.Columns.Agreement.{agree_tested, free_tested}
use Rattle.refusals.specs.Said.{accepts, refuses, ◌then◌, check}
use Rattle.refusals.specs.Said.Laws.{check_passed, check_true}
use Rattle.mapping.specs.declared.bijections.Bijection.{Bijection}
use Rattle.mapping.specs.Bijections.{good_columns, paired, inverse, composite, pair_said, pair_of, invert_said}
use Rattle.mapping.specs.Bijections.{invert_of, compose_said, compose_of}

-- the test of the columns says whether they agree
pub good_columns_lem : (b : Bijection) → Tested (Agree b.forward b.backward) (good_columns b)
unfolding good_columns
good_columns_lem b = agree_tested b.forward b.backward

-- a may be paired with c
pub record Pairable (b : Bijection) (a c : ℕ) : Type 0 where
  pub agreed : Agree b.forward b.backward
  pub image_free : Free b.forward a c
  pub preimage_free : Free b.backward c a

module _ (b : Bijection) (a c : ℕ) where
  pub pair_disagreeing : good_columns b ≡ false → record { said = refuses 14 []; bijection = b } ≡ pair_of b a c
  unfolding pair_of pair_said
  pair_disagreeing e = rw e

  pub pair_other_image : good_columns b ≡ true → free b.forward a c ≡ false → record {
    said = refuses 12 [];
    bijection = b;
  } ≡ pair_of b a c
  unfolding pair_of pair_said
  pair_other_image e f = rw (e, f)

  pub pair_other_preimage : good_columns b ≡ true → free b.forward a c ≡ true → free b.backward c a ≡ false
      → record { said = refuses 13 []; bijection = b } ≡ pair_of b a c
  unfolding pair_of pair_said
  pair_other_preimage e f g = rw (e, f, g)

  pub pair_accepted : good_columns b ≡ true → free b.forward a c ≡ true → free b.backward c a ≡ true
      → record { said = accepts []; bijection = paired b a c } ≡ pair_of b a c
  unfolding pair_of pair_said
  pair_accepted e f g = rw (e, f, g)

  -- pairing is accepted exactly if a may be paired with c
  pub pair_passed : (values : List ℕ) → pair_said b a c ≡ accepts values → Pairable b a c
  unfolding pair_said
  pair_passed values e =
      let p = check_passed (good_columns b) 14 []
      (check (free b.forward a c) 12 then check (free b.backward c a) 13) values e in
      let q = check_passed (free b.forward a c) 12 [] (check (free b.backward c a) 13) values p.1 in
      record {
        agreed = says_true (good_columns_lem b) p.0;
        image_free = says_true (free_tested b.forward a c) q.0;
        preimage_free = says_true (free_tested b.backward c a) (check_true _ 13 [] values q.1);
      }

  pub pair_passes : Pairable b a c → pair_said b a c ≡ accepts []
  unfolding pair_said
  pair_passes s =
      rw (
        is_true (good_columns_lem b) s.agreed,
        is_true (free_tested b.forward a c) s.image_free,
        is_true
            (free_tested b.backward c a) s.preimage_free,
      )

module _ (b : Bijection) where
  pub invert_disagreeing : good_columns b ≡ false → record { said = refuses 14 []; bijection = b } ≡ invert_of b
  unfolding invert_of invert_said
  invert_disagreeing e = rw e

  pub invert_accepted : good_columns b ≡ true → record { said = accepts []; bijection = inverse b } ≡ invert_of b
  unfolding invert_of invert_said
  invert_accepted e = rw e

  pub invert_passes : Agree b.forward b.backward → invert_said b ≡ accepts []
  unfolding invert_said
  invert_passes s = rw (is_true (good_columns_lem b) s)

module _ (b d : Bijection) where
  pub compose_first_disagreeing : good_columns b ≡ false → record { said = refuses 14 []; bijection = b } ≡ compose_of b d
  unfolding compose_of compose_said
  compose_first_disagreeing e = rw e

  pub compose_second_disagreeing : good_columns b ≡ true → good_columns d ≡ false → record {
    said = refuses 14 [];
    bijection = b;
  } ≡ compose_of b d
  unfolding compose_of compose_said
  compose_second_disagreeing e f = rw (e, f)

  pub compose_accepted : (r : Bijection) → r ≡ composite b d → good_columns b ≡ true → good_columns d ≡ true
      → record { said = accepts []; bijection = r } ≡ compose_of b d
  unfolding compose_of compose_said
  compose_accepted r same e f = rw (e, f, same)

  -- composing is accepted exactly if the columns of both agree
  pub compose_passed : (values : List ℕ) → compose_said b d ≡ accepts values
      → Agree b.forward b.backward × Agree d.forward d.backward
  unfolding compose_said
  compose_passed values e =
      let p = check_passed (good_columns b) 14 [] (check (good_columns d) 14) values e in
      (says_true (good_columns_lem b) p.0, says_true (good_columns_lem d) (check_true (good_columns d) 14 [] values p.1))

  pub compose_passes : Agree b.forward b.backward → Agree d.forward d.backward
      → compose_said b d ≡ accepts []
  unfolding compose_said
  compose_passes s t = rw (is_true (good_columns_lem b) s, is_true (good_columns_lem d) t)
