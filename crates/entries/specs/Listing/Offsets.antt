-- The first place of each of the pattern's symbols, and how far it lies from a window's corner in the text: the same
-- for every window, so that a found window's pairs are read without a division.
-- Assumes nothing.
use Rattle.std.specs.Prelude.{◌≡◌, refl, Bool, true, List, [], ◌∷◌, ◌++◌, ℕ, ◌+◌, ◌*◌, ◌/◌, ◌%◌, ◌≤◌, ◌<◌, eqb, length}
use Rattle.std.specs.Prelude.{get_or, set, take, map}
use Rattle.std.proofs.Common.{sym, ◌∙◌, ap, add-mul, add-one, arith, take-suc, take_all}
use Rattle.std.proofs.lemmas.List.{get_or-map, length-map, map-append, take_more_set}
use Rattle.theory.specs.Test.{Tested, holds, fails}
use Rattle.theory.specs.Test.Laws.{eq_tested, lt_tested, says_true, is_true, true_false}
use Rattle.theory.specs.First.{first}
use Rattle.theory.specs.First.Laws.{first_spec}
use Rattle.occurrences.specs.Distinct.{contains}
use Rattle.occurrences.specs.Distinct.Sets.{contains_tested}
use Rattle.sets.specs.Symbols.{symbols_of}
use Rattle.sets.specs.Symbols.Patterns.{listed_symbol}
use Rattle.cells.specs.Windows.{offset_of}
use Rattle.cells.specs.Windows.Laws.{window_at_lem}
use Rattle.cells.specs.declared.windows.WindowPlace.{WindowPlace}
use Rattle.prefixes.specs.State.{FirstPlaces}
use Rattle.entries.specs.declared.offsets.PairPlace.{PairPlace}
use Rattle.matching.specs.Compare.{cell_of_pattern}
use Rattle.view.specs.Places.{window_of, cell_count, Placed}
use Rattle.view.specs.Places.Laws.{position_inside}

-- the first place of a symbol in the pattern: the least position that has it
unfoldable pub first_place : List ℕ → ℕ → ℕ
first_place pattern a = first (λ p. eqb (cell_of_pattern pattern p) a) (length pattern)

-- where position p of the window at corner (row, column) lies in a text of that many columns
abbrev pub cell_place : ℕ → ℕ → ℕ → ℕ → ℕ → ℕ
cell_place columns width row column p = (row + p / width) * columns + column + p % width

-- what a pair of a found window is read by, in a text of that many columns and windows of that width: the symbol, and
-- the offset of its first place
abbrev pub pair_place : List ℕ → ℕ → ℕ → ℕ → PairPlace
pair_place pattern columns width a = record { symbol = a; offset = offset_of columns width (first_place pattern a) }

-- one for each of the pattern's symbols, rising
unfoldable pub pair_places : List ℕ → ℕ → ℕ → List PairPlace
pair_places pattern columns width = map (pair_place pattern columns width) (symbols_of pattern)

-- an entry of the table before anything stands in it
abbrev pub no_pair : PairPlace
no_pair = record { symbol = 0; offset = 0 }

-- ---- first places

-- no position before it has the symbol
place_least : (pattern : List ℕ) (a k : ℕ) → get_or pattern k 0 ≡ a → first_place pattern a ≤ k
unfolding first_place
place_least pattern a k e = go (lt_tested k (first (λ p. eqb (cell_of_pattern pattern p) a) (length pattern)))
  where
    go : {b : Bool} → Tested (k < first (λ p. eqb (cell_of_pattern pattern p) a) (length pattern)) b
        → first (λ p. eqb (cell_of_pattern pattern p) a) (length pattern) ≤ k
    go (holds l) =
        absurd (true_false (is_true (eq_tested (get_or pattern k 0) a) e)
        ((first_spec (λ p. eqb (cell_of_pattern pattern p) a) (length pattern)).before k l))
    go (fails l) = omega arith

-- a symbol of the pattern stands at its first place
pub place_stands : (pattern : List ℕ) (a : ℕ) → contains pattern a ≡ true
    → (first_place pattern a < length pattern) × (get_or pattern (first_place pattern a) 0 ≡ a)
unfolding first_place
place_stands pattern a t =
    let found = says_true (contains_tested pattern a) t in
    let inside : first_place pattern a < length pattern = omega (
      arith,
      found.1,
      place_least pattern a found.0 found.2,
    ) in (
      inside,
      says_true (eq_tested (get_or pattern (first_place pattern a) 0) a)
          ((first_spec (λ p. eqb (cell_of_pattern pattern p) a) (length pattern)).hit inside),
    )

-- and a table of first places has it
pub place_listed : (pattern l : List ℕ) → FirstPlaces (cell_of_pattern pattern) (length pattern) l → (a : ℕ)
    → contains pattern a ≡ true → get_or l a 0 ≡ first_place pattern a
place_listed pattern l f a t =
    let s = place_stands pattern a t in
    let e = f.each (first_place pattern a) s.0 in
    let le : get_or l a 0 ≤ first_place pattern a = rw s.1 at e.0 in
    let same : cell_of_pattern pattern (get_or l a 0) ≡ a = rw s.1 at e.1 in
    omega (arith, le, place_least pattern a (get_or l a 0) same)

-- ---- the table of pairs

module _ (pattern : List ℕ) (columns width : ℕ) (listed : List ℕ) where
  -- the first k of the pairs are there
  abbrev pub PairsTo : ℕ → List PairPlace → Type 0
  PairsTo k pairs = take k pairs ≡ map (pair_place pattern columns width) (take k listed)

  -- one more: p is the symbol's first place
  pub pairs_more : (pairs : List PairPlace) (k p x : ℕ) → k < length listed → k < length pairs → PairsTo k pairs
      → p ≡ first_place pattern (get_or listed k 0) → x ≡ offset_of columns width p
      → PairsTo (k + 1) (set pairs k (record { symbol = get_or listed k 0; offset = x }))
  pairs_more pairs k p x h l o e d =
      let a = get_or listed k 0 in
      rw (take_more_set pairs k _ l, add-one k, take-suc listed k 0 h, map-append, d, e)
      (ap (λ (ps : List PairPlace). ps ++ (pair_place pattern columns width a ∷ [])) o)

  pub pairs_all : (pairs : List PairPlace) (k : ℕ) → listed ≡ symbols_of pattern → k ≡ length listed
      → PairsTo k pairs → take (length listed) pairs ≡ pair_places pattern columns width
  unfolding pair_places
  pairs_all pairs k e h o =
      rw (← h)
      (o ∙ ap (map (pair_place pattern columns width)) (take_all k listed (omega (arith, h)) ∙ e))

-- as many as the pattern has symbols
pub pairs_many : (pattern : List ℕ) (columns width : ℕ) (pairs : List PairPlace)
    → pairs ≡ pair_places pattern columns width → length pairs ≡ length (symbols_of pattern)
unfolding pair_places
pairs_many pattern columns width pairs t = rw (t, length-map) refl

-- ---- a pair that is read by the table

module _ (text : List ℕ) (v : WindowPlace) (pattern : List ℕ) (pairs : List PairPlace)
    (t : pairs ≡ pair_places pattern v.columns v.width) (k : ℕ) (h : k < length pairs) where
  abbrev symbol : ℕ
  symbol = get_or (symbols_of pattern) k 0

  pub pair_at : get_or pairs k no_pair ≡ pair_place pattern v.columns v.width symbol
  unfolding pair_places
  pair_at =
      rw t
      (get_or-map (pair_place pattern v.columns v.width) (symbols_of pattern) k 0 no_pair
      (omega (arith, pairs_many _ _ _ _ t)))

  -- the offset leads from the window's corner to its cell at the symbol's first place
  leads : v.row * v.columns + v.column + (get_or pairs k no_pair).offset
      ≡ cell_place v.columns v.width v.row v.column (first_place pattern symbol)
  leads =
      rw pair_at
      (omega (arith, add-mul v.row (first_place pattern symbol / v.width) v.columns))

  -- which lies in the text
  pub pair_inside : Placed text v → length pattern ≡ cell_count v
      → v.row * v.columns + v.column + (get_or pairs k no_pair).offset < length text
  pair_inside placed size =
      let here : k < length (symbols_of pattern) = omega (arith, pairs_many _ _ _ _ t) in
      let s = place_stands pattern symbol (listed_symbol pattern (symbols_of pattern) refl k here).1 in
      omega (
        arith,
        leads,
        position_inside text v placed (first_place pattern symbol) (omega (arith, s.0, size)),
      )

  -- and has the window's symbol at the first place
  pub pair_reads : get_or text (v.row * v.columns + v.column + (get_or pairs k no_pair).offset) 0
      ≡ window_of text v (first_place pattern symbol)
  pair_reads =
      ap (λ (i : ℕ). get_or text i 0) leads
      ∙ sym (window_at_lem text v.columns v.row v.column v.width (first_place pattern symbol))
