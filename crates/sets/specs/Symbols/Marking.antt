-- The marks of a pattern, a cell at a time or by a place of each symbol, and the set of its symbols from the marks, a
-- word of 64 at a time.
-- Assumes nothing.
use Rattle.std.specs.Prelude.{◌≡◌, refl, Bool, true, false, List, [], ◌∷◌, ◌++◌, ℕ, zero, suc, ◌+◌, ◌-◌, ◌*◌, ◌^◌, ◌≤◌, ◌<◌, ltb, length, get_or, set, take, replicate}
use Rattle.std.proofs.Common.{sym, ap, ap₂, ◌∙◌, add-zero, add-one, length-set, take-suc, take_all, eq-eqb, ne_eqb}
use native.Mathlib.Omega.{arith}
use Rattle.std.proofs.Math.Dec.{eqb}
use Rattle.std.proofs.lemmas.List.{length-replicate, get_or-replicate}
use Rattle.std.proofs.Math.Pow.{pow_mono}
use Rattle.theory.specs.Test.{pick, both, Tested}
use Rattle.theory.specs.Test.Laws.{pick_true, pick_false, eq_tested, lt_tested, both_tested}
use Rattle.theory.specs.Test.Laws.{is_true, is_false, tested_same, tested_iff}
use Rattle.theory.specs.Store.Laws.{set_right}
use Rattle.occurrences.specs.Distinct.{contains}
use Rattle.occurrences.specs.Distinct.Sets.{contains_none, contains_end, contains_tested}
use Rattle.sets.specs.declared.symbols.Symbols.{Symbols}
use Rattle.sets.specs.Symbols.{word_of, word_in, set_of, set_of_symbols, Marks, MarksOf, PlacesOf, word_with_mark}
use Rattle.sets.specs.Symbols.Words.{word_ext, word_below}
use Rattle.sets.specs.Symbols.Blocks.{words_set, set_ext}

-- ---- the marks, a cell at a time

-- no cell yet, and no mark
pub marks_none : (xs marks : List ℕ) → marks ≡ replicate 256 0 → MarksOf (take 0 xs) marks
marks_none xs marks e =
    rw e
    (record {
      long = length-replicate {A = ℕ} 256 0;
      each = λ v h. get_or-replicate 256 v 0 0 h ∙ ap (λ (b : Bool). pick b 1 0) (sym (contains_none v));
    })

-- one cell more, and its mark is 1
pub marks_more : (xs marks : List ℕ) (i : ℕ) → i < length xs → get_or xs i 0 < 256 → MarksOf (take i xs) marks
    → MarksOf (take (i + 1) xs) (set marks (get_or xs i 0) 1)
marks_more xs marks i h byte here =
    rw (add-one i, take-suc xs i 0 h)
    (record {
      long = rw length-set here.long;
      each = λ v l. set_right marks x 1 v mark (omega (arith, here.long)) (sym (ap digit hit))
          (λ d. here.each v l ∙ sym (ap digit (miss v d)));
    })
  where
    x : ℕ
    x = get_or xs i 0

    digit : Bool → ℕ
    digit b = pick b 1 0

    mark : ℕ → ℕ
    mark u = digit (contains (take i xs ++ (x ∷ [])) u)

    hit : contains (take i xs ++ (x ∷ [])) x ≡ true
    hit = contains_end (take i xs) x x ∙ pick_true true (contains (take i xs) x) (eq-eqb x x refl)

    miss : (v : ℕ) → (v ≡ x → ⊥) → contains (take i xs ++ (x ∷ [])) v ≡ contains (take i xs) v
    miss v d = contains_end (take i xs) x v ∙ pick_false true (contains (take i xs) v) (ne_eqb v x d)

-- all cells
pub marks_all : (xs marks : List ℕ) (i : ℕ) → length xs ≤ i → MarksOf (take i xs) marks → MarksOf xs marks
marks_all xs marks i h here = rw (take_all i xs h) at here

-- ---- the marks from places

-- the code's look at a place, and the three ways out
module _ (xs : List ℕ) (p v : ℕ) where
  stands_tested : Tested ((p < length xs) × (get_or xs p 0 ≡ v)) (both (ltb p (length xs)) (eqb (get_or xs p 0) v))
  stands_tested = both_tested (lt_tested p (length xs)) (eq_tested (get_or xs p 0) v)

  -- what it answers: 1 where the symbol stands there, else 0
  abbrev mark : ℕ
  mark = pick (both (ltb p (length xs)) (eqb (get_or xs p 0) v)) 1 0

  -- the pattern ends before it
  pub mark_past : length xs ≤ p → mark ≡ 0
  mark_past h = pick_false 1 0 (is_false stands_tested over)
    where
      over : (p < length xs) × (get_or xs p 0 ≡ v) → ⊥
      over e = omega (arith, e.0)

  -- another symbol stands there
  pub mark_other : (get_or xs p 0 ≡ v → ⊥) → mark ≡ 0
  mark_other d = pick_false 1 0 (is_false stands_tested (λ e. d e.1))

  -- the symbol does
  pub mark_here : p < length xs → get_or xs p 0 ≡ v → mark ≡ 1
  mark_here h e = pick_true 1 0 (is_true stands_tested (h, e))

-- a symbol stands where the table says exactly if the pattern has it
place_tells : (xs places : List ℕ) → PlacesOf xs places → (v : ℕ)
    → both (ltb (get_or places v 0) (length xs)) (eqb (get_or xs (get_or places v 0) 0) v) ≡ contains xs v
place_tells xs places t v =
    tested_same
    (tested_iff (λ h. (get_or places v 0, h.0, h.1)) stands
    (stands_tested xs (get_or places v 0) v))
    (contains_tested xs v)
  where
    stands : (i : ℕ) × (i < length xs) × (get_or xs i 0 ≡ v)
        → (get_or places v 0 < length xs) × (get_or xs (get_or places v 0) 0 ≡ v)
    stands e = rw (← e.2) (t.each e.0 e.1)

-- the marks of the symbols below v are there
pub record MarksBelow (xs : List ℕ) (v : ℕ) (marks : List ℕ) : Type 0 where
  pub long : length marks ≡ 256
  pub each : (u : ℕ) → u < v → get_or marks u 0 ≡ pick (contains xs u) 1 0

pub below_none : (xs marks : List ℕ) → length marks ≡ 256 → MarksBelow xs 0 marks
below_none xs marks e = record { long = e; each = λ u h. absurd (none u h) }
  where
    none : (u : ℕ) → u < 0 → ⊥
    none u h = omega arith

-- one more, by the place that the table has for it
pub below_more : (xs places marks : List ℕ) (v m : ℕ) → PlacesOf xs places → v < 256 → MarksBelow xs v marks
    → m ≡ pick (both (ltb (get_or places v 0) (length xs)) (eqb (get_or xs (get_or places v 0) 0) v)) 1 0
    → MarksBelow xs (v + 1) (set marks v m)
below_more xs places marks v m t small here e =
    record {
      long = rw length-set here.long;
      each = λ u h. set_right marks v m u (λ w. pick (contains xs w) 1 0) (omega (arith, here.long))
          (e ∙ ap (λ (b : Bool). pick b 1 0) (place_tells xs places t v)) (λ d. here.each u (omega arith));
    }

pub below_all : (xs marks : List ℕ) (v : ℕ) → 256 ≤ v → MarksBelow xs v marks → MarksOf xs marks
below_all xs marks v h here = record { long = here.long; each = λ u l. here.each u (omega arith) }

-- ---- what marks are

-- a pattern's marks are 0 or 1
pub marks_bits : (xs marks : List ℕ) → MarksOf xs marks → Marks marks
marks_bits xs marks here = record { long = here.long; bits = λ v h. rw (here.each v h) (small (contains xs v)) }
  where
    small : (b : Bool) → pick b 1 0 ≤ 1
    small true = omega arith
    small false = omega arith

-- ---- a word of marks

-- a mark is 1 or 0
mark_digit : (m : ℕ) → m ≤ 1 → pick (eqb m 1) 1 0 ≡ m
mark_digit zero h = refl
mark_digit (suc zero) h = refl
mark_digit (suc (suc m)) h = absurd (omega arith)

-- one mark more in front of n
mark_front : (marks : List ℕ) (at n : ℕ) → get_or marks at 0 ≤ 1
    → 2 * word_with_mark marks (at + 1) n + get_or marks at 0 ≡ word_with_mark marks at (suc n)
unfolding word_with_mark word_of
mark_front marks at n h =
    omega (arith, behind, ap lowest (add-zero at), mark_digit (get_or marks at 0) h)
  where
    lowest : ℕ → ℕ
    lowest p = pick (eqb (get_or marks p 0) 1) 1 0

    behind : word_of (λ k. eqb (get_or marks (at + 1 + k) 0) 1) n ≡ word_of (λ k. eqb (get_or marks (at + suc k) 0) 1) n
    behind = word_ext _ _ n (λ k _. ap (λ (p : ℕ). eqb (get_or marks p 0) 1) (next k))
      where
        next : (k : ℕ) → at + 1 + k ≡ at + suc k
        next k = omega arith

-- the code's loop: k marks of the 64 from there on are left, then one less
pub word_marks_none : (marks : List ℕ) (at : ℕ) → 0 ≡ word_with_mark marks at 0
unfolding word_with_mark word_of
word_marks_none marks at = refl

module _ (marks : List ℕ) (from k w : ℕ) (here : w ≡ word_with_mark marks (from + k) (64 - k)) (some : 0 < k) where
  -- there is room for one more
  pub word_marks_room : w < 2 ^ 63
  unfolding word_with_mark
  word_marks_room =
      omega (
        arith,
        here,
        word_below (λ j. eqb (get_or marks (from + k + j) 0) 1) (64 - k),
        grows,
      )
    where
      grows : 2 ^ (64 - k) ≤ 2 ^ 63
      grows = let few : 64 - k ≤ 63 = omega arith in pow_mono few

  pub word_marks_more : Marks marks → from ≤ 192 → k ≤ 64
      → 2 * w + get_or marks (from + (k - 1)) 0 ≡ word_with_mark marks (from + (k - 1)) (64 - (k - 1))
  word_marks_more bits low few =
      ap (λ (u : ℕ). 2 * u + get_or marks (from + (k - 1)) 0) (here ∙ ap (λ (p : ℕ). word_with_mark marks p (64 - k)) place)
      ∙ mark_front marks (from + (k - 1)) (64 - k) (bits.bits (from + (k - 1)) (omega arith))
      ∙ ap (word_with_mark marks (from + (k - 1))) number
    where
      place : from + k ≡ from + (k - 1) + 1
      place = omega arith

      number : suc (64 - k) ≡ 64 - (k - 1)
      number = omega arith

pub word_marks_all : (marks : List ℕ) (from k w : ℕ) → k ≤ 0 → w ≡ word_with_mark marks (from + k) (64 - k)
    → w ≡ word_with_mark marks from 64
word_marks_all marks from k w h e = e ∙ ap₂ (word_with_mark marks) place number
  where
    place : from + k ≡ from
    place = omega arith

    number : 64 - k ≡ 64
    number = omega arith

-- ---- the set

-- four words of marks are the set of what is marked
pub marked_words : (marks : List ℕ) (a b c d : ℕ) → a ≡ word_with_mark marks 0 64 → b ≡ word_with_mark marks 64 64
    → c ≡ word_with_mark marks 128 64
    → d ≡ word_with_mark marks 192 64
    → ◌≡◌ {A = Symbols} (record { words = a ∷ b ∷ c ∷ d ∷ [] }) (set_of (λ v. eqb (get_or marks v 0) 1))
unfolding word_in word_with_mark
marked_words marks a b c d p q r s = words_set (record { words = a ∷ b ∷ c ∷ d ∷ [] }) _ refl word
  where
    word : (i : ℕ) → i < 4 → get_or (a ∷ b ∷ c ∷ d ∷ []) i 0 ≡ word_of (λ k. eqb (get_or marks (64 * i + k) 0) 1) 64
    word zero h = p
    word (suc zero) h = q
    word (suc (suc zero)) h = r
    word (suc (suc (suc zero))) h = s
    word (suc (suc (suc (suc i)))) h = absurd (omega arith)

-- and where the marks are a pattern's, the set of its symbols
pub marked_set : (xs marks : List ℕ) → MarksOf xs marks → set_of (λ v. eqb (get_or marks v 0) 1) ≡ set_of_symbols xs
marked_set xs marks here =
    set_ext _ _ (λ v h. ap (λ (m : ℕ). eqb m 1) (here.each v h) ∙ one (contains xs v))
  where
    one : (t : Bool) → eqb (pick t 1 0) 1 ≡ t
    one true = refl
    one false = refl
