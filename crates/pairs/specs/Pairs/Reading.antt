-- One pair: each way that its reading ends, as a walk, and the marks after it. The marks say which of the window's
-- symbols were given, so that the code's tests are those of `right_pair`.
-- Assumes nothing.
use Rattle.std.proofs.Common.{◌≡◌, refl, Bool, true, false, List, [], ◌∷◌, ℕ, ◌+◌, ◌<◌, eqb, length, get_or, set, sym}
use Rattle.std.proofs.Common.{◌∙◌, arith, length-set, get_or-set_same, get_or-set_other, eq-eqb, ne_eqb, ap, not, Ok}
use Rattle.std.proofs.Common.{Err}
use Rattle.std.proofs.lemmas.Bool.{not-true}
use Rattle.theory.specs.Older.{Older}
use Rattle.theory.specs.Test.{pick, both, Tested, holds, fails}
use Rattle.theory.specs.Test.Laws.{true_false, tested, eq_tested, both_tested, is_true, is_false}
use Rattle.occurrences.specs.Distinct.{contains}
use Rattle.occurrences.specs.Distinct.Sets.{contains_none, contains_cons}
use Rattle.refusals.specs.declared.refusals.Refusal.{Refusal}
use Rattle.refusals.specs.declared.refusals.Refusal.TheVariants.{ListingForm, ListingFalse}
use Rattle.listing.specs.Records.{bytes_of, kind_size}
use Rattle.reading.specs.Reader.{read_said, cursor_said}
use Rattle.listing.specs.declared.records.Record.{Record}
use Rattle.listing.specs.declared.records.Record.TheVariants.{Pair}
use Rattle.reading.specs.declared.reader.Cursor.{Cursor}
use Rattle.reading.specs.Reader.{Read}
use Rattle.claims.specs.Claims.{byte_at, stands, has_image_test, right_pair}
use Rattle.pairs.specs.Pairs.{Marked, PairRead}
use Rattle.claims.specs.Claims.Standing.{refused_stands, whole_byte, whole_stands, whole_other, whole_next}

-- ---- marks

-- no symbol is marked, and none was given
pub marked_none : (base : ℕ) (marks : List ℕ) → Older base marks → Marked base [] marks
marked_none base marks u =
    record {
      older = record { long = u.long; below = λ b. omega (arith, u.below b) };
      says = λ b h. ne_eqb (get_or marks b 0) base (λ e. older b e) ∙ sym (contains_none b);
    }
  where
    older : (b : ℕ) → get_or marks b 0 ≡ base → ⊥
    older b e = omega (arith, u.below b)

-- one symbol more is given and marked
pub marked_more : (base : ℕ) (given marks : List ℕ) (y : ℕ) → y < 256 → Marked base given marks
    → Marked base (y ∷ given) (set marks y base)
marked_more base given marks y l h =
    record {
      older = record { long = rw length-set h.older.long; below = λ b. low b (eq_tested b y) };
      says = λ b k. told b k (eqb b y) (eq_tested b y) ∙ sym (contains_cons y given b);
    }
  where
    inside : y < length marks
    inside = omega (arith, h.older.long)

    low : (b : ℕ) {t : Bool} → Tested (b ≡ y) t → get_or (set marks y base) b 0 < base + 1
    low b (holds e) = rw e (omega (arith, get_or-set_same marks y base 0 inside))
    low b (fails d) = omega (arith, get_or-set_other marks y b base 0 d, h.older.below b)

    told : (b : ℕ) → b < 256 → (t : Bool) → Tested (b ≡ y) t
        → eqb (get_or (set marks y base) b 0) base ≡ pick t true (contains given b)
    told b k true (holds e) = rw e (eq-eqb (get_or (set marks y base) y 0) base (get_or-set_same marks y base 0 inside))
    told b k false (fails d) = ap (λ (x : ℕ). eqb x base) (get_or-set_other marks y b base 0 d) ∙ h.says b k

-- ---- the pair

-- what makes a pair right
module _ (m w : ℕ → ℕ) (n : ℕ) (listing : List ℕ) (a : ℕ) (given : List ℕ) (at : ℕ) where
  pub right_tested : Tested ((byte_at listing at 1 ≡ a)
      × ((has_image_test m w n a (byte_at listing at 2) ≡ true) × (contains given (byte_at listing at 2) ≡ false)))
      (right_pair m w n listing a given at)
  unfolding right_pair
  right_tested =
      both_tested (eq_tested (byte_at listing at 1) a)
      (both_tested (tested (has_image_test m w n a (byte_at listing at 2)) (λ e. e) (λ e. e))
      (tested (not (contains given (byte_at listing at 2))) (not-true _) (λ e. ap not e)))

-- the ways out, by what stands at the place
module _ (m w : ℕ → ℕ) (n : ℕ) (listing : List ℕ) (a base at : ℕ) (given marks : List ℕ)
    (here : Marked base given marks) where
  -- no pair
  read_form : stands listing 2 at ≡ false → PairRead m w n listing a base at given (Err (ListingForm at)) marks
  read_form e =
      record {
        walk_is = rw e;
        marked = λ t. absurd (none (stands listing 2 at) (right_pair m w n listing a given at) e t);
        older = here.older;
      }
    where
      none : (s r : Bool) → s ≡ false → both s r ≡ true → ⊥
      none true r e t = true_false refl e
      none false r e t = true_false t refl

  -- a pair that is not right
  read_false : stands listing 2 at ≡ true → right_pair m w n listing a given at ≡ false
      → PairRead m w n listing a base at given (Err (ListingFalse at)) marks
  read_false s e =
      record {
        walk_is = rw (s, e);
        marked = λ t. absurd (none (stands listing 2 at) (right_pair m w n listing a given at) e t);
        older = here.older;
      }
    where
      none : (s r : Bool) → r ≡ false → both s r ≡ true → ⊥
      none true r e t = true_false t e
      none false r e t = true_false t refl

  -- a pair that is right: the next one begins three bytes on, and its symbol is marked
  pub read_right : stands listing 2 at ≡ true → (y : ℕ) → byte_at listing at 2 ≡ y → y < 256 → byte_at listing at 1 ≡ a
      → (get_or marks y 0 ≡ base → ⊥) → has_image_test m w n a y ≡ true
      → PairRead m w n listing a base at given (Ok (at + 3)) (set marks y base)
  read_right there y second_is l first_is d image =
      record {
        walk_is = rw (there, right);
        marked = λ _. rw second_is (marked_more base given marks y l here);
        older = (marked_more base given marks y l here).older;
      }
    where
      right : right_pair m w n listing a given at ≡ true
      right =
          is_true (right_tested m w n listing a given at) (
            first_is,
            (
              ap (has_image_test m w n a) second_is ∙ image,
              ap (contains given) second_is ∙ sym (here.says y l) ∙ ne_eqb (get_or marks y 0) base d,
            ),
          )

  -- the reader refuses, or reads another kind
  pub pair_refused : (answer : Read) (why : Refusal) → read_said answer ≡ cursor_said listing at → answer ≡ Err why
      → PairRead m w n listing a base at given (Err (ListingForm at)) marks
  unfolding kind_size
  pair_refused answer why reads e = read_form (refused_stands listing at why (rw e at reads) 2)

  pub pair_other_kind : (answer : Read) (r : Record) (next : Cursor) → read_said answer ≡ cursor_said listing at
      → answer ≡ Ok (r, next) → (get_or (bytes_of r) 0 0 ≡ 2 → ⊥)
      → PairRead m w n listing a base at given (Err (ListingForm at)) marks
  pair_other_kind answer r next reads e d = read_form (whole_other listing at r next (rw e at reads) 2 d)

  -- it reads a pair
  module _ (answer : Read) (r : Record) (next : Cursor) (x y : ℕ) (told : read_said answer ≡ cursor_said listing at)
      (whole : answer ≡ Ok (r, next)) (pair : r ≡ Pair x y) where
    reads : read_said (Ok (Pair x y, next)) ≡ cursor_said listing at
    reads = rw (whole ∙ ap (λ (s : Record). Ok (s, next)) pair) at told

    there : stands listing 2 at ≡ true
    there = whole_stands listing at (Pair x y) next reads 2 refl

    first_is : byte_at listing at 1 ≡ x
    first_is = whole_byte listing at (Pair x y) next reads 1 (omega arith)

    second_is : byte_at listing at 2 ≡ y
    second_is = whole_byte listing at (Pair x y) next reads 2 (omega arith)

    -- of another symbol
    pub pair_other : (x ≡ a → ⊥) → PairRead m w n listing a base at given (Err (ListingFalse at)) marks
    pair_other d = read_false there (is_false (right_tested m w n listing a given at) (λ h. d (sym first_is ∙ h.0)))

    -- with a symbol that was given before
    pub pair_given : y < 256 → get_or marks y 0 ≡ base
        → PairRead m w n listing a base at given (Err (ListingFalse at)) marks
    pair_given l e = read_false there (is_false (right_tested m w n listing a given at) (λ h. true_false was h.1.1))
      where
        was : contains given (byte_at listing at 2) ≡ true
        was = ap (contains given) second_is ∙ sym (here.says y l) ∙ eq-eqb (get_or marks y 0) base e

    -- with a symbol that does not stand in all of a's cells
    pub pair_unlike : (t : Bool) → t ≡ has_image_test m w n a y → t ≡ false
        → PairRead m w n listing a base at given (Err (ListingFalse at)) marks
    pair_unlike t i e =
        read_false there
        (is_false (right_tested m w n listing a given at)
        (λ h. true_false h.1.0 (ap (has_image_test m w n a) second_is ∙ sym i ∙ e)))

    -- that is right
    pub pair_right : x ≡ a → y < 256 → (get_or marks y 0 ≡ base → ⊥) → (t : Bool) → t ≡ has_image_test m w n a y
        → t ≡ true
        → PairRead m w n listing a base at given (Ok next.at) (set marks y base)
    pair_right e l d t i f =
        rw (whole_next listing at (Pair x y) next reads) (read_right there y second_is l (first_is ∙ e) d (sym i ∙ f))
