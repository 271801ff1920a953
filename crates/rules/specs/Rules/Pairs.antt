-- The pairs of a found window: the walk passes them (`pairs_sound`, `pairs_complete`) exactly where they stand in the
-- listing, rising, each with the window's symbol in all of its symbol's cells, and no two with the same one. Why it
-- holds: each pair is a test of its own, and what was given before is all that one pair has to do with another.
-- Assumes nothing.
use Rattle.std.proofs.Common.{◌≡◌, refl, Bool, false, ℕ, suc, ◌+◌, ◌*◌, ◌<◌, eqb, length, get_or, sym, ap, ◌∙◌, arith}
use Rattle.std.proofs.Common.{eq-eqb, ne_eqb, true, List, [], ◌∷◌, ◌++◌, Ok}
use Rattle.theory.specs.Test.{pick, Tested, holds, fails}
use Rattle.theory.specs.Test.Laws.{true_false, says_true, is_true, eq_tested}
use Rattle.theory.specs.Count.{Rising}
use Rattle.occurrences.specs.Distinct.{contains}
use Rattle.occurrences.specs.Distinct.Sets.{contains_none, contains_cons, contains_tested}
use Rattle.refusals.specs.declared.refusals.Refusal.{Refusal}
use Rattle.listing.specs.Records.{bytes_of}
use Rattle.reading.specs.Reader.Reading.{size_pair}
use Rattle.listing.specs.Entries.{bytes_all, pairs_of}
use Rattle.listing.specs.Entries.Laws.{bytes_none, bytes_cons, pairs_none, pairs_cons, pairs_ext}
use Rattle.listing.specs.declared.records.Record.TheVariants.{Pair}
use Rattle.claims.specs.Claims.{or_stop, byte_at, stands, has_image_test, right_pair, pairs_from}
use Rattle.claims.specs.Claims.{Walk}
use Rattle.rules.specs.Check.{place_reached}
use Rattle.claims.specs.Walks.{goes_not_stops}
use Rattle.pairs.specs.Pairs.{has_image_tested}
use Rattle.pairs.specs.Pairs.Reading.{right_tested}
use Rattle.rules.specs.Rules.Bytes.{Holds, holds_none, holds_both, holds_first, holds_second, holds_byte}
use Rattle.rules.specs.Rules.Bytes.{holds_stands, stands_holds}

-- ---- a step of the walk

-- the walk goes on exactly past a test that passes
pub goes_on : (ok : Bool) (why : Refusal) (after : Walk) (end : ℕ) → or_stop ok why after ≡ Ok end
    → (ok ≡ true) × (after ≡ Ok end)
goes_on true why after end e = (refl, e)
goes_on false why after end e = absurd (goes_not_stops end why (sym e))

pub goes_to : (a b : ℕ) → ◌≡◌ {A = Walk} (Ok a) (Ok b) → a ≡ b
goes_to a b e = ap place_reached e

-- ---- a symbol in a list

-- at the head, or in the tail
pub in_tail : (x : ℕ) (xs : List ℕ) (v : ℕ) → (v ≡ x → ⊥) → contains (x ∷ xs) v ≡ contains xs v
in_tail x xs v n = contains_cons x xs v ∙ rw (ne_eqb v x n)

pub in_head : (x : ℕ) (xs : List ℕ) → contains (x ∷ xs) x ≡ true
in_head x xs = contains_cons x xs x ∙ rw (eq-eqb x x refl)

-- a symbol not in a list is neither its head nor in its tail
pub not_in : (x : ℕ) (xs : List ℕ) (v : ℕ) → contains (x ∷ xs) v ≡ false → (v ≡ x → ⊥) × (contains xs v ≡ false)
not_in x xs v e =
    let differ : v ≡ x → ⊥ = λ d. true_false (ap (contains (x ∷ xs)) d ∙ in_head x xs) e in
    (differ, sym (in_tail x xs v differ) ∙ e)

-- a rising list has its head once, and its tail rises
pub rising_tail : (x : ℕ) (xs : List ℕ) → Rising (x ∷ xs) → Rising xs
rising_tail x xs r i j l m = r (suc i) (suc j) (omega arith) (omega arith)

pub rising_apart : (x : ℕ) (xs : List ℕ) → Rising (x ∷ xs) → (v : ℕ) → contains xs v ≡ true → v ≡ x → ⊥
rising_apart x xs r v t e =
    let s = says_true (contains_tested xs v) t in
    let less = r 0 (suc s.0) (omega arith) (omega (arith, s.1)) in
    omega (arith, s.2)

-- ---- images

-- the image of each symbol, as the pairs from a place on give it
unfoldable pub image_in : List ℕ → List ℕ → ℕ → ℕ → ℕ
image_in listing [] at a = 0
image_in listing (x ∷ xs) at a = pick (eqb a x) (byte_at listing at 2) (image_in listing xs (at + 3) a)

module _ (m w : ℕ → ℕ) (n : ℕ) (listing : List ℕ) where
  image_head : (x : ℕ) (xs : List ℕ) (at : ℕ) → image_in listing (x ∷ xs) at x ≡ byte_at listing at 2
  unfolding image_in
  image_head x xs at = rw (eq-eqb x x refl)

  image_tail : (x : ℕ) (xs : List ℕ) (at a : ℕ) → (a ≡ x → ⊥)
      → image_in listing (x ∷ xs) at a ≡ image_in listing xs (at + 3) a
  unfolding image_in
  image_tail x xs at a d = rw (ne_eqb a x d)

  -- ---- what the pairs say

  -- the pairs of these symbols stand there and are right
  pub record PairsRight (symbols given : List ℕ) (at : ℕ) (image : ℕ → ℕ) : Type 0 where
    pub there : Holds listing at (bytes_all (pairs_of image symbols))
    pub images : (a p : ℕ) → contains symbols a ≡ true → p < n → m p ≡ a → w p ≡ image a
    pub fresh : (a : ℕ) → contains symbols a ≡ true → contains given (image a) ≡ false
    pub apart : (a b : ℕ) → contains symbols a ≡ true → contains symbols b ≡ true → image a ≡ image b → a ≡ b

  none_in : (a : ℕ) → contains [] a ≡ true → ⊥
  none_in a t = true_false t (contains_none a)

  pair_bytes_lem : (image : ℕ → ℕ) (a : ℕ) (s : List ℕ)
      → bytes_all (pairs_of image (a ∷ s)) ≡ bytes_of (Pair a (image a)) ++ bytes_all (pairs_of image s)
  pair_bytes_lem image a s = ap bytes_all (pairs_cons image a s) ∙ bytes_cons (Pair a (image a)) (pairs_of image s)

  -- one more pair in front
  right_more : (a : ℕ) (s given : List ℕ) (at : ℕ) → Rising (a ∷ s) → stands listing 2 at ≡ true
      → right_pair m w n listing a given at ≡ true
      → PairsRight s (byte_at listing at 2 ∷ given) (at + 3) (image_in listing s (at + 3))
      → PairsRight (a ∷ s) given at (image_in listing (a ∷ s) at)
  right_more a s given at rising st rp ih =
      record {
        there = there;
        images = λ x p c l e. images x p c l e (eq_tested x a);
        fresh = λ x c. fresh x c (eq_tested x a);
        apart = λ x y c d e. apart x y c d e (eq_tested x a) (eq_tested y a);
      }
    where
      b : ℕ
      b = byte_at listing at 2

      image : ℕ → ℕ
      image = image_in listing (a ∷ s) at

      t : (byte_at listing at 1 ≡ a) × ((has_image_test m w n a (byte_at listing at 2) ≡ true)
          × (contains given (byte_at listing at 2) ≡ false))
      t = says_true (right_tested m w n listing a given at) rp

      tail_same : pairs_of (image_in listing s (at + 3)) s ≡ pairs_of image s
      tail_same =
          pairs_ext (image_in listing s (at + 3)) image s
          (λ i l. sym (image_tail a s at (get_or s i 0)
          (λ e. rising_apart a s rising (get_or s i 0) (is_true (contains_tested s (get_or s i 0)) (i, l, refl)) e)))

      first : Holds listing at (bytes_of (Pair a (image a)))
      first = rw (image_head a s at, ← t.0) (holds_stands listing at 2 2 size_pair st)

      there : Holds listing at (bytes_all (pairs_of image (a ∷ s)))
      there =
          rw (pair_bytes_lem image a s, ← tail_same)
          (holds_both listing at (bytes_of (Pair a (image a))) (bytes_all (pairs_of (image_in listing s (at + 3)) s))
          first
          ih.there)

      in_s : (x : ℕ) → contains (a ∷ s) x ≡ true → (x ≡ a → ⊥) → contains s x ≡ true
      in_s x c d = sym (in_tail a s x d) ∙ c

      images : (x p : ℕ) → contains (a ∷ s) x ≡ true → p < n → m p ≡ x → {q : Bool} → Tested (x ≡ a) q → w p ≡ image x
      images x p c l e (holds d) =
          says_true (has_image_tested m w n a b) t.1.0 p l (e ∙ d) ∙ sym (image_head a s at) ∙ ap image (sym d)
      images x p c l e (fails d) = ih.images x p (in_s x c d) l e ∙ sym (image_tail a s at x d)

      fresh : (x : ℕ) → contains (a ∷ s) x ≡ true → {q : Bool} → Tested (x ≡ a) q → contains given (image x) ≡ false
      fresh x c (holds d) = ap (contains given) (ap image d ∙ image_head a s at) ∙ t.1.1
      fresh x c (fails d) =
          ap (contains given) (image_tail a s at x d)
          ∙ (not_in b given (image_in listing s (at + 3) x) (ih.fresh x (in_s x c d))).1

      -- an image in the tail is not the head's
      other : (x : ℕ) → contains s x ≡ true → image_in listing s (at + 3) x ≡ b → ⊥
      other x c = (not_in b given (image_in listing s (at + 3) x) (ih.fresh x c)).0

      apart : (x y : ℕ) → contains (a ∷ s) x ≡ true → contains (a ∷ s) y ≡ true → image x ≡ image y → {p q : Bool}
          → Tested (x ≡ a) p → Tested (y ≡ a) q → x ≡ y
      apart x y c d e (holds f) (holds g) = f ∙ sym g
      apart x y c d e (holds f) (fails g) =
          absurd (other y (in_s y d g) (sym (image_tail a s at y g) ∙ sym e ∙ ap image f ∙ image_head a s at))
      apart x y c d e (fails f) (holds g) =
          absurd (other x (in_s x c f) (sym (image_tail a s at x f) ∙ e ∙ ap image g ∙ image_head a s at))
      apart x y c d e (fails f) (fails g) =
          ih.apart x y (in_s x c f) (in_s y d g) (sym (image_tail a s at x f) ∙ e ∙ image_tail a s at y g)

  -- where the walk passes, the pairs are right
  pub pairs_sound : (symbols given : List ℕ) (at end : ℕ) → Rising symbols
      → pairs_from m w n listing symbols given at ≡ Ok end
      → (end ≡ at + 3 * length symbols) × PairsRight symbols given at (image_in listing symbols at)
  unfolding pairs_from
  pairs_sound [] given at end rising e = (
    omega (arith, goes_to at end e),
    record {
      there = rw (pairs_none (image_in listing [] at), bytes_none) (holds_none listing at);
      images = λ a p c l d. absurd (none_in a c);
      fresh = λ a c. absurd (none_in a c);
      apart = λ a b c d f. absurd (none_in a c);
    },
  )
  pairs_sound (a ∷ s) given at end rising e =
      let f = goes_on (stands listing 2 at) _ _ end e in
      let g = goes_on (right_pair m w n listing a given at) _ _ end f.1 in
      let ih = pairs_sound s (byte_at listing at 2 ∷ given) (at + 3) end (rising_tail a s rising) g.1 in
      (omega (arith, ih.0), right_more a s given at rising f.0 g.0 ih.1)

  -- and where they are right, whatever the images, it passes
  pub pairs_complete : (symbols given : List ℕ) (at : ℕ) (image : ℕ → ℕ) → Rising symbols
      → PairsRight symbols given at image
      → pairs_from m w n listing symbols given at ≡ Ok (at + 3 * length symbols)
  unfolding pairs_from
  pairs_complete [] given at image rising r = ap Ok (omega arith)
  pairs_complete (a ∷ s) given at image rising r =
      let e = pair_bytes_lem image a s in
      let bytes : Holds listing at (bytes_of (Pair a (image a)) ++ bytes_all (pairs_of image s)) = rw e at r.there in
      let first = holds_first listing at (bytes_of (Pair a (image a))) (bytes_all (pairs_of image s)) bytes in
      let x : byte_at listing at 1 ≡ a = holds_byte listing at (bytes_of (Pair a (image a))) first 1 (omega arith) in
      let y : byte_at listing at 2 ≡ image a = holds_byte listing at (bytes_of (Pair a (image a))) first 2 (omega arith)
      in
      let st : stands listing 2 at ≡ true = stands_holds listing at 2 (a ∷ image a ∷ []) size_pair first in
      let rp : right_pair m w n listing a given at ≡ true =
      is_true (right_tested m w n listing a given at) (
        x,
        (
          is_true (has_image_tested m w n a (byte_at listing at 2)) (λ p l d. r.images a p (in_head a s) l d ∙ sym y),
          ap (contains given) y ∙ r.fresh a (in_head a s),
        ),
      ) in
      let ih = pairs_complete s (byte_at listing at 2 ∷ given) (at + 3) image (rising_tail a s rising)
      (tail_right y (holds_second listing at (bytes_of (Pair a (image a))) (bytes_all (pairs_of image s)) bytes)) in
      rw (st, rp) (ih ∙ ap Ok (omega arith))
    where
      in_more : (b : ℕ) → contains s b ≡ true → contains (a ∷ s) b ≡ true
      in_more b c = in_tail a s b (λ e. rising_apart a s rising b c e) ∙ c

      tail_right : byte_at listing at 2 ≡ image a → Holds listing (at + 3) (bytes_all (pairs_of image s))
          → PairsRight s (byte_at listing at 2 ∷ given) (at + 3) image
      tail_right y h =
          record {
            there = h;
            images = λ b p c l e. r.images b p (in_more b c) l e;
            fresh =
                λ b c. in_tail (byte_at listing at 2) given (image b)
                (λ e. rising_apart a s rising b c (r.apart b a (in_more b c) (in_head a s) (e ∙ y)))
                ∙ r.fresh b (in_more b c);
            apart = λ b d c e f. r.apart b d (in_more b c) (in_more d e) f;
          }
