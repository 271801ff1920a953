-- A set of symbols as four words: which bit says that a symbol is in the set, when two sets are equal, and what the
-- code does to the words. A law for one word is stated once, over the number i of the word.
-- Assumes nothing.
use Rattle.std.specs.Prelude.{◌≡◌, refl, Bool, true, false, eqb, length, get_or, set}
use Rattle.std.proofs.Math.Path.{sym}
use Rattle.std.proofs.Common.{ap, ap₂, ◌∙◌, subst, ne_eqb, length-set, get_or-set_same, get_or-set_other}
use Prim.Native.Nat.{ℕ, ◌+◌, ◌*◌, ◌/◌, ◌%◌, ◌^◌, ◌≤◌, ◌<◌}
use Rattle.std.proofs.Math.Decide.{dec_lt}
use native.Mathlib.Omega.{arith}
use Rattle.std.specs.Int.Count.{ones, count_trailing_zeros}
use Rattle.theory.specs.Test.{pick, Tested, holds, fails}
use Rattle.theory.specs.Test.Laws.{pick_false, eq_tested, tested_same, tested_iff}
use Rattle.theory.specs.First.{first}
use Rattle.theory.specs.First.Laws.{first_spec, first_is}
use Rattle.theory.specs.Table.Laws.{get_or-table, table_ext, table_is}
use Rattle.theory.specs.Count.{count}
use Rattle.theory.specs.Count.Laws.{count_ext, count_add, count_le}
use Rattle.sets.specs.declared.symbols.Symbols.{Symbols}
use Rattle.sets.specs.Symbols.{bit_of, word_of, word_in, has, set_of, lowest_of, with_words}
use Rattle.sets.specs.Symbols.Words.{bit_word, word_is, word_ext, word_none, bit_zero, ones-count, trailing_first}

-- the words of a set that code holds
pub record SmallWords (s : Symbols) : Type 0 where
  pub four : length s.words ≡ 4
  pub small : (i : ℕ) → get_or s.words i 0 < 2 ^ 64

word_small : (s : Symbols) → SmallWords s → (i : ℕ) → word_in s i < 2 ^ 64
unfolding word_in
word_small s f i = f.small i

-- symbol 64 i + k is bit k of word i
has_bit : (s : Symbols) (i k : ℕ) → k < 64 → has s (64 * i + k) ≡ bit_of (word_in s i) k
unfolding has
has_bit s i k h = ap₂ (λ (a b : ℕ). bit_of (word_in s a) b) quotient rest
  where
    quotient : (64 * i + k) / 64 ≡ i
    quotient = omega arith

    rest : (64 * i + k) % 64 ≡ k
    rest = omega arith

word_set : (P : ℕ → Bool) (i : ℕ) → i < 4 → word_in (set_of P) i ≡ word_of (λ k. P (64 * i + k)) 64
unfolding word_in set_of
word_set P i h = get_or-table (λ i. word_of (λ k. P (64 * i + k)) 64) 4 i 0 h

-- a symbol is in the set of P exactly if it has P
pub has_set : (P : ℕ → Bool) (v : ℕ) → v < 256 → has (set_of P) v ≡ P v
unfolding has
has_set P v h =
    ap (λ (w : ℕ). bit_of w (v % 64)) (word_set P (v / 64) (omega arith))
    ∙ bit_word (λ k. P (64 * (v / 64) + k)) 64 (v % 64) (omega arith) ∙ ap P back
  where
    back : 64 * (v / 64) + v % 64 ≡ v
    back = omega arith

-- a set whose words are those of P
pub words_set : (s : Symbols) (P : ℕ → Bool) → length s.words ≡ 4
    → ((i : ℕ) → i < 4 → word_in s i ≡ word_of (λ k. P (64 * i + k)) 64) → s ≡ set_of P
unfolding word_in set_of
words_set s P e h = ap with_words (table_is (λ i. word_of (λ k. P (64 * i + k)) 64) 4 0 s.words e h)

pub set_ext : (P Q : ℕ → Bool) → ((v : ℕ) → v < 256 → P v ≡ Q v) → set_of P ≡ set_of Q
unfolding set_of
set_ext P Q h =
    ap with_words
    (table_ext _ _ 4 (λ i l. word_ext (λ k. P (64 * i + k)) (λ k. Q (64 * i + k)) 64 (λ k m. h (64 * i + k) (omega arith))))

-- bit k of word i is symbol v
same_place : (v i k : ℕ) → i ≡ v / 64 → k < 64 → eqb k (v % 64) ≡ eqb (64 * i + k) v
same_place v i k e h =
    tested_same (eq_tested k (v % 64)) (tested_iff bit_of_lem symbol_of (eq_tested (64 * i + k) v))
  where
    bit_of_lem : 64 * i + k ≡ v → k ≡ v % 64
    bit_of_lem z = omega arith

    symbol_of : k ≡ v % 64 → 64 * i + k ≡ v
    symbol_of z = omega arith

-- where the word of v has v's bit made b, the set has v made b
module _ (s : Symbols) (v : ℕ) (b : Bool) (small : SmallWords s) where
  changed_word : (i x : ℕ) → i ≡ v / 64 → x ≡ word_of (λ k. pick (eqb k (v % 64)) b (bit_of (word_in s i) k)) 64 →
      x ≡ word_of (λ k. pick (eqb (64 * i + k) v) b (has s (64 * i + k))) 64
  changed_word i x e h =
      h ∙ word_ext _ _ 64 (λ k l. ap₂ (λ (t c : Bool). pick t b c) (same_place v i k e l) (sym (has_bit s i k l)))

  unchanged_word : (i : ℕ) → (i ≡ v / 64 → ⊥)
      → word_in s i ≡ word_of (λ k. pick (eqb (64 * i + k) v) b (has s (64 * i + k))) 64
  unchanged_word i d =
      word_is _ 64 (word_in s i) (word_small s small i)
      (λ k l. sym (has_bit s i k l) ∙ sym
      (pick_false b (has s (64 * i + k)) (ne_eqb (64 * i + k) v (λ z. d (omega arith)))))

  pub changed : (i x : ℕ) → v < 256 → i ≡ v / 64
      → x ≡ word_of (λ k. pick (eqb k (v % 64)) b (bit_of (get_or s.words i 0) k)) 64
      → with_words (set s.words i x) ≡ set_of (λ u. pick (eqb u v) b (has s u))
  unfolding word_in
  changed i x byte e h =
      words_set (with_words (set s.words i x)) _ (length-set s.words i x ∙ small.four) (λ j l. go j (eqb j i) (eq_tested j i))
    where
      go : (j : ℕ) (t : Bool) → Tested (j ≡ i) t
          → get_or (set s.words i x) j 0 ≡ word_of (λ k. pick (eqb (64 * j + k) v) b (has s (64 * j + k))) 64
      go j true (holds z) =
          subst (λ (n : ℕ). get_or (set s.words i x) n 0 ≡ word_of (λ k. pick (eqb (64 * n + k) v) b (has s (64 * n + k))) 64)
          (sym z)
          (get_or-set_same s.words i x 0 (omega (arith, small.four)) ∙ changed_word i x e h)
      go j false (fails d) = get_or-set_other s.words i j x 0 d ∙ unchanged_word j (λ z. d (z ∙ sym e))

-- the ones of word i are the symbols 64 i to 64 i + 63 of the set
ones_block : (s : Symbols) (i : ℕ) → word_in s i < 2 ^ 64 → ones (word_in s i) ≡ count (λ k. has s (64 * i + k)) 64
ones_block s i f = ones-count 64 (word_in s i) f ∙ count_ext _ _ 64 (λ k l. sym (has_bit s i k l))

count-zero : (P : ℕ → Bool) → count P 0 ≡ 0
unfolding count
count-zero P = refl

-- the ones of the words before word i are the symbols below 64 i
pub ones_none : (s : Symbols) → 0 ≡ count (has s) (64 * 0)
ones_none s = sym (ap (count (has s)) (omega arith) ∙ count-zero (has s))

pub ones_more : (s : Symbols) (i n : ℕ) → get_or s.words i 0 < 2 ^ 64 → n ≡ count (has s) (64 * i)
    → n + ones (get_or s.words i 0) ≡ count (has s) (64 * (i + 1))
unfolding word_in
ones_more s i n f e =
    let next : count (has s) (64 * (i + 1)) ≡ count (has s) (64 * i + 64) = ap (count (has s)) (omega arith) in
    omega (arith, e, next, count_add (has s) (64 * i) 64, ones_block s i f)

-- they are at most as many
pub ones_few : (s : Symbols) (i n : ℕ) → n ≡ count (has s) (64 * i) → n ≤ 64 * i
ones_few s i n e = rw e (count_le (has s) (64 * i))

-- a word that is not 0 has a bit
first_bit : (w : ℕ) → w < 2 ^ 64 → (w ≡ 0 → ⊥) → first (bit_of w) 64 < 64
first_bit w l d = go (dec_lt (first (bit_of w) 64) 64)
  where
    go : Dec (first (bit_of w) 64 < 64) → first (bit_of w) 64 < 64
    go (yes h) = h
    go (no n) =
        absurd (d (word_is (λ _. false) 64 w l (λ k m. (first_spec (bit_of w) 64).before k (omega arith)) ∙ word_none 64))

has_at : (s : Symbols) (v : ℕ) → has s v ≡ bit_of (word_in s (v / 64)) (v % 64)
unfolding has
has_at s v = refl

-- where the words before word i are 0, and word i is not, the lowest symbol is word i's lowest bit
module _ (s : Symbols) (i : ℕ) (z : (j : ℕ) → j < i → get_or s.words j 0 ≡ 0) where
  none_before : (n k : ℕ) → n ≤ 64 → ((q : ℕ) → q < n → bit_of (word_in s i) q ≡ false) → k < 64 * i + n
      → has s k ≡ false
  unfolding word_in
  none_before n k few b m = has_at s k ∙ go (dec_lt (k / 64) i)
    where
      go : Dec (k / 64 < i) → bit_of (word_in s (k / 64)) (k % 64) ≡ false
      go (yes h) = ap (λ (w : ℕ). bit_of w (k % 64)) (z (k / 64) h) ∙ bit_zero (k % 64)
      go (no n) =
          let e : k / 64 ≡ i = omega arith in
          ap (λ (j : ℕ). bit_of (word_in s j) (k % 64)) e ∙ b (k % 64) (omega arith)

  module _ (f : get_or s.words i 0 < 2 ^ 64) (d : get_or s.words i 0 ≡ 0 → ⊥) (l : i < 4) where
    bit_below : first (bit_of (word_in s i)) 64 < 64
    unfolding word_in
    bit_below = first_bit (get_or s.words i 0) f d

    pub lowest_in_word : 64 * i + count_trailing_zeros 64 (get_or s.words i 0) ≡ lowest_of s
    unfolding word_in
    lowest_in_word =
        let spec = first_spec (bit_of (word_in s i)) 64 in
        ap (λ (t : ℕ). 64 * i + t) (trailing_first 64 (get_or s.words i 0))
        ∙ sym (first_is (record {
          within = omega (arith, bit_below);
          before = λ k m. none_before _ k spec.within spec.before m;
          hit = λ m. has_bit s i _ bit_below ∙ spec.hit bit_below;
        }))

    -- it is a symbol
    pub lowest_byte : 64 * i + count_trailing_zeros 64 (get_or s.words i 0) < 256
    unfolding word_in
    lowest_byte = omega (arith, trailing_first 64 (get_or s.words i 0), bit_below)

-- where all words are 0, there is none
pub lowest_nowhere : (s : Symbols) → ((j : ℕ) → j < 4 → get_or s.words j 0 ≡ 0) → 256 ≡ lowest_of s
lowest_nowhere s z =
    sym (first_is (record {
      within = omega arith;
      before = λ k m. none_before s 4 z 0 k (omega arith) (λ q h. absurd (none q h)) m;
      hit = λ m. absurd (omega arith);
    }))
  where
    none : (q : ℕ) → q < 0 → ⊥
    none q h = omega arith
