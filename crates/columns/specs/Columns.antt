-- The columns of a match from the first places: each symbol of the pattern, in rising order, is paired with the
-- window's symbol at its first place. Why one place is enough: in a match all places of a symbol have the same window
-- symbol.
-- Assumes nothing.
use Rattle.std.specs.Prelude.{◌≡◌, refl, Bool, List, ℕ, ◌+◌, ◌≤◌, ◌<◌, length, set}
use Rattle.std.proofs.Math.Path.{sym}
use Rattle.std.proofs.Common.{◌∙◌, ap, arith, length-set, get_or-set_same, get_or-set_other}
use Rattle.std.proofs.Math.ListN.{get_or}
use Rattle.std.proofs.lemmas.List.{length-replicate, get_or-replicate}
use Rattle.theory.specs.Test.{Tested, holds, fails}
use Rattle.theory.specs.Test.Laws.{eq_tested, lt_tested}
use Rattle.theory.specs.First.Laws.{first_spec}
use Rattle.theory.specs.Table.Laws.{table_is}
use Rattle.theory.specs.Match.{ends, first_end, image_of, column}
use Rattle.theory.specs.Match.Even.{Even, even_if, even_swap, even_carries, Image, at, nowhere, image, no_image}
use Rattle.theory.specs.Match.Images.{image_back}
use Rattle.prefixes.specs.State.{FirstPlaces}
use Rattle.matching.specs.Compare.{empty_images}
use Rattle.matching.specs.Compared.{pattern_seen, window_seen, cells_seen}
use Rattle.matching.specs.declared.compared.Compared.{Compared}

-- What the inner functions' contracts cite.

-- the pattern matches the window, and first has the first places of its symbols
pub record MatchAt (c : Compared) (first : List ℕ) : Type 0 where
  pub places : FirstPlaces (pattern_seen c) (length c.pattern.now) first
  pub clear : cells_seen c ≤ first_end (pattern_seen c) (window_seen c) (cells_seen c)

-- l has the images of the symbols whose key is below k, and none else
pub record ColumnTo (m w : ℕ → ℕ) (n k : ℕ) (key : ℕ → ℕ) (l : List ℕ) : Type 0 where
  pub long : length l ≡ 256
  pub has : (i : ℕ) → i < 256 → key i < k → get_or l i 0 ≡ image_of m w n i
  pub none : (i : ℕ) → i < 256 → k ≤ key i → get_or l i 0 ≡ 256

-- the columns have the pairs of the pattern's symbols below k: a preimage is there as soon as it is below k
pub record PairsTo (m w : ℕ → ℕ) (n k : ℕ) (f g : List ℕ) : Type 0 where
  pub forward : ColumnTo m w n k (λ a. a) f
  pub backward : ColumnTo w m n k (image_of w m n) g

-- ---- one column

module _ (m w : ℕ → ℕ) (n : ℕ) (key : ℕ → ℕ) where
  column_empty : (l : List ℕ) → l ≡ empty_images → ColumnTo m w n 0 key l
  column_empty l e =
      rw e (record {
        long = length-replicate {A = ℕ} 256 256;
        has = λ i h b. absurd (below i b);
        none = λ i h _. get_or-replicate 256 i 256 0 h;
      })
    where
      below : (i : ℕ) → key i < 0 → ⊥
      below i b = omega arith

  column_whole : (l : List ℕ) → ColumnTo m w n 256 key l
      → ((i : ℕ) → i < 256 → 256 ≤ key i → image_of m w n i ≡ 256) → l ≡ column m w n
  unfolding column
  column_whole l here rest = table_is (image_of m w n) 256 0 l here.long (λ i h. go i h (lt_tested (key i) 256))
    where
      go : (i : ℕ) {b : Bool} → i < 256 → Tested (key i < 256) b → get_or l i 0 ≡ image_of m w n i
      go i h (holds b) = here.has i h b
      go i h (fails b) = here.none i h (omega arith) ∙ sym (rest i h (omega arith))

  module _ (k : ℕ) (l : List ℕ) (here : ColumnTo m w n k key l) where
    -- no symbol of key k has an image
    column_kept : ((i : ℕ) → i < 256 → key i ≡ k → image_of m w n i ≡ 256) → ColumnTo m w n (k + 1) key l
    column_kept free =
        record {
          long = here.long;
          has = λ i h b. go i h b (eq_tested (key i) k);
          none = λ i h b. here.none i h (omega arith);
        }
      where
        go : (i : ℕ) {b : Bool} → i < 256 → key i < k + 1 → Tested (key i ≡ k) b → get_or l i 0 ≡ image_of m w n i
        go i h b (holds e) = here.none i h (omega arith) ∙ sym (free i h e)
        go i h b (fails e) = here.has i h (omega arith)

    -- x is the one symbol of key k
    column-set : (x v : ℕ) → x < 256 → v ≡ image_of m w n x → key x ≡ k
        → ((i : ℕ) → i < 256 → key i ≡ k → i ≡ x) → ColumnTo m w n (k + 1) key (set l x v)
    column-set x v small ev ek only =
        record {
          long = rw length-set here.long;
          has = λ i h b. go i h b (eq_tested i x);
          none = λ i h b.
              let other : i ≡ x → ⊥ = λ e. over i b e in
              get_or-set_other l x i v 0 other ∙ here.none i h (omega arith);
        }
      where
        over : (i : ℕ) → k + 1 ≤ key i → i ≡ x → ⊥
        over i b e = let d : key i ≡ key x = ap key e in omega arith

        go : (i : ℕ) {b : Bool} → i < 256 → key i < k + 1 → Tested (i ≡ x) b
            → get_or (set l x v) i 0 ≡ image_of m w n i
        go i h b (holds e) = rw e (get_or-set_same l x v 0 (omega (arith, here.long)) ∙ ev)
        go i h b (fails e) =
            let other : key i ≡ k → ⊥ = λ d. e (only i h d) in
            get_or-set_other l x i v 0 e ∙ here.has i h (omega arith)

-- ---- both columns

pub match_pairs_none : (m w : ℕ → ℕ) (n : ℕ) (f g : List ℕ) → f ≡ empty_images → g ≡ empty_images → PairsTo m w n 0 f g
match_pairs_none m w n f g e d =
    record { forward = column_empty m w n (λ a. a) f e; backward = column_empty w m n (image_of w m n) g d }

pub pairs_all : (m w : ℕ → ℕ) (n k : ℕ) (f g : List ℕ) → ((p : ℕ) → m p < 256) → k ≡ 256 → PairsTo m w n k f g
    → (f ≡ column m w n) × (g ≡ column w m n)
pairs_all m w n k f g ms e here =
    let all : PairsTo m w n 256 f g = rw e at here in (
      column_whole m w n (λ a. a) f all.forward (λ i h b. absurd (over i h b)),
      column_whole w m n (image_of w m n) g all.backward (λ i h. past i (image w m n i)),
    )
  where
    over : (i : ℕ) → i < 256 → 256 ≤ i → ⊥
    over i h b = omega arith

    past : (i : ℕ) {u : ℕ} → Image w m n i u → 256 ≤ u → u ≡ 256
    past i (at p h d) b = absurd (over (m p) (ms p) b)
    past i (nowhere d) b = refl

module _ (m w : ℕ → ℕ) (n a : ℕ) (f g : List ℕ) (small : a < 256) (here : PairsTo m w n a f g) where
  -- the pattern has no symbol a
  pub pairs_skip : ((p : ℕ) → p < n → m p ≡ a → ⊥) → PairsTo m w n (a + 1) f g
  pairs_skip none =
      record {
        forward = column_kept m w n (λ i. i) a f here.forward (λ i h e. rw e (no_image m w n a none));
        backward = column_kept w m n (image_of w m n) a g here.backward (λ i h e. absurd (free i e (image w m n i)));
      }
    where
      free : (i : ℕ) {v : ℕ} → v ≡ a → Image w m n i v → ⊥
      free i e (at p h d) = none p h e
      free i e (nowhere d) = omega arith

  -- it has it at p
  pub pairs_more : Even m w n → (p x : ℕ) → p < n → m p ≡ a → x ≡ w p → x < 256
      → PairsTo m w n (a + 1) (set f a x) (set g x a)
  pairs_more ev p x h ea ex byte =
      record {
        forward = column-set m w n (λ i. i) a f here.forward a x small (sym there) refl (λ i _ e. e);
        backward = column-set w m n (image_of w m n) a g here.backward x a byte (sym back) back
            (λ i hi e. sym (image_back w m n i a (even_swap m w n ev) small e) ∙ there);
      }
    where
      there : image_of m w n a ≡ x
      there = rw (← ea, ex) (even_carries m w n ev p h)

      back : image_of w m n x ≡ a
      back = rw (← ea, ex) (even_carries w m n (even_swap m w n ev) p h)

-- ---- what the code asks of a symbol

module _ (c : Compared) (first : List ℕ) (asked : MatchAt c first) where
  pub match_even : Even (pattern_seen c) (window_seen c) (cells_seen c)
  unfolding first_end
  match_even =
      let f = first_spec (ends (pattern_seen c) (window_seen c)) (cells_seen c) in
      even_if _ _ (cells_seen c) (λ k h. f.before k (omega (arith, asked.clear)))

  -- a symbol whose first place lies past the pattern, or has another symbol, is not in the pattern
  module _ (a : ℕ) where
    stands : (p : ℕ) → p < cells_seen c → pattern_seen c p ≡ a
        → (get_or first a 0 < length c.pattern.now) × (pattern_seen c (get_or first a 0) ≡ a)
    stands p h e =
        let e₁ = asked.places.each p (omega (arith, c.fitting)) in
        let d : (get_or first a 0 ≤ p) × (pattern_seen c (get_or first a 0) ≡ a) = rw e at e₁ in
        (omega (arith, d.0, c.fitting), d.1)

    pub place_past : length c.pattern.now ≤ get_or first a 0 → (p : ℕ) → p < cells_seen c → pattern_seen c p ≡ a → ⊥
    place_past h p hp e = omega (arith, (stands p hp e).0)

    pub place_other : (pattern_seen c (get_or first a 0) ≡ a → ⊥) → (p : ℕ) → p < cells_seen c
        → pattern_seen c p ≡ a → ⊥
    place_other h p hp e = h (stands p hp e).1
