-- How often a window stands in the records of a listing: the records of window k name that window and no other, so that
-- in all records it is named just as often as in its own.
-- Assumes nothing.
use Rattle.std.specs.Prelude.{◌≡◌, refl, Bool, eqb}
use Rattle.std.proofs.Math.Path.{sym, ap}
use Rattle.std.proofs.Common.{◌∙◌, add_assoc}
use Rattle.std.proofs.Math.Bool.{true, false}
use mathlib.Core.List.{List, [], ◌∷◌, ◌++◌}
use Prim.Native.Nat.{ℕ, zero, suc, ◌+◌, ◌<◌}
use native.Mathlib.Omega.{arith}
use Rattle.theory.specs.Test.{pick, both, Tested, holds, fails}
use Rattle.theory.specs.Test.Laws.{is_true, is_false, lt_tested, eq_tested, both_tested}
use Rattle.theory.specs.Join.{joined}
use Rattle.theory.specs.Join.Laws.{joined-zero, joined-suc}
use Rattle.theory.specs.Match.{Answer, matched, mismatched, is_match}
use Rattle.listing.specs.Entries.{pairs_of, entry_of}
use Rattle.listing.specs.Entries.Laws.{pairs_none, pairs_cons, entry_found, entry_refused}
use Rattle.listing.specs.declared.records.Record.{Record}
use Rattle.guarantee.specs.Demand3.{names_found, names_refused, how_many}

-- ---- counting records

module _ (P : Record → Bool) where
  pub many_append : (xs ys : List Record) → how_many P (xs ++ ys) ≡ how_many P xs + how_many P ys
  unfolding how_many
  many_append [] ys = omega arith
  many_append (x ∷ xs) ys =
      ap (λ (k : ℕ). pick (P x) 1 0 + k) (many_append xs ys)
      ∙ sym (add_assoc (pick (P x) 1 0) (how_many P xs) (how_many P ys))

  many_joined_none : (f : ℕ → List Record) (n : ℕ) → ((k : ℕ) → k < n → how_many P (f k) ≡ 0)
      → how_many P (joined f n) ≡ 0
  unfolding how_many
  many_joined_none f zero h = ap (how_many P) (joined-zero f)
  many_joined_none f (suc n) h =
      ap (how_many P) (joined-suc f n) ∙ many_append (joined f n) (f n)
      ∙ omega (arith, many_joined_none f n (λ k l. h k (omega arith)), h n (omega arith))

  -- where only the list at i has such records, all lists together have as many
  pub many_joined : (f : ℕ → List Record) (i n : ℕ) → i < n → ((k : ℕ) → k < n → (k ≡ i → ⊥) → how_many P (f k) ≡ 0)
      → how_many P (joined f n) ≡ how_many P (f i)
  many_joined f i zero l h = absurd (omega arith)
  many_joined f i (suc n) l h =
      ap (how_many P) (joined-suc f n) ∙ many_append (joined f n) (f n)
      ∙ go (λ b. many_joined f i n b (λ k m d. h k (omega arith) d)) (lt_tested i n)
    where
      go : (i < n → how_many P (joined f n) ≡ how_many P (f i)) → {t : Bool} → Tested (i < n) t
          → how_many P (joined f n) + how_many P (f n) ≡ how_many P (f i)
      go ih (holds b) = omega (arith, ih b, h n (omega arith) (λ e. omega arith))
      go ih (fails b) =
          let e : i ≡ n = omega arith in
          let before = many_joined_none f n (λ k m. h k (omega arith) (λ d. omega arith)) in
          let last : how_many P (f n) ≡ how_many P (f i) = ap (λ (k : ℕ). how_many P (f k)) (sym e) in
          omega arith

-- ---- the records of one window

-- pairs name no window
pairs_found : (r c : ℕ) (image : ℕ → ℕ) (symbols : List ℕ) → how_many (names_found r c) (pairs_of image symbols) ≡ 0
unfolding how_many
pairs_found r c image [] = ap (how_many (names_found r c)) (pairs_none image)
pairs_found r c image (a ∷ s) =
    ap (how_many (names_found r c)) (pairs_cons image a s) ∙ omega (arith, pairs_found r c image s)

pairs_refused : (r c : ℕ) (image : ℕ → ℕ) (symbols : List ℕ) → how_many (names_refused r c) (pairs_of image symbols) ≡ 0
unfolding how_many
pairs_refused r c image [] = ap (how_many (names_refused r c)) (pairs_none image)
pairs_refused r c image (a ∷ s) =
    ap (how_many (names_refused r c)) (pairs_cons image a s) ∙ omega (arith, pairs_refused r c image s)

module _ (r c row column width : ℕ) (symbols : List ℕ) (image : ℕ → ℕ) where
  abbrev pub named : Bool
  named = both (eqb row r) (eqb column c)

  -- a window's records name it as found, or as refused, and no other window
  pub entry_times_found : (answer : Answer)
      → how_many (names_found r c) (entry_of row column width symbols image answer)
      ≡ pick (is_match answer) (pick named 1 0) 0
  unfolding how_many
  entry_times_found matched =
      ap (how_many (names_found r c)) (entry_found row column width symbols image)
      ∙ omega (arith, pairs_found r c image symbols)
  entry_times_found (mismatched true q p) =
      ap (how_many (names_found r c)) (entry_refused row column width symbols image true q p)
  entry_times_found (mismatched false q p) =
      ap (how_many (names_found r c)) (entry_refused row column width symbols image false q p)

  pub entry_times_refused : (answer : Answer)
      → how_many (names_refused r c) (entry_of row column width symbols image answer)
      ≡ pick (is_match answer) 0 (pick named 1 0)
  unfolding how_many
  entry_times_refused matched =
      ap (how_many (names_refused r c)) (entry_found row column width symbols image)
      ∙ omega (arith, pairs_refused r c image symbols)
  entry_times_refused (mismatched true q p) =
      ap (how_many (names_refused r c)) (entry_refused row column width symbols image true q p) ∙ omega arith
  entry_times_refused (mismatched false q p) =
      ap (how_many (names_refused r c)) (entry_refused row column width symbols image false q p) ∙ omega arith

-- the window itself, and another one
pub named_same : (row column : ℕ) → both (eqb row row) (eqb column column) ≡ true
named_same row column = is_true (both_tested (eq_tested row row) (eq_tested column column)) (refl, refl)

pub named_other : (r c row column : ℕ) → ((row ≡ r) × (column ≡ c) → ⊥) → both (eqb row r) (eqb column c) ≡ false
named_other r c row column n = is_false (both_tested (eq_tested row r) (eq_tested column c)) n
