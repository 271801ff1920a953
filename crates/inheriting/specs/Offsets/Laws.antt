-- Laws of offsets: a table filled symbol by symbol has them all; they are small, and lead from a window's corner to
-- cells of the text.
-- Assumes nothing.
use Rattle.std.proofs.Common.{◌≡◌, refl, Bool, true, List, ℕ, ◌+◌, ◌*◌, ◌/◌, ◌≤◌, ◌<◌, eqb, length, get_or, set, Option}
use Rattle.std.proofs.Common.{Some, None, sym, ◌∙◌, ap, add-mul, mul-le-mul, arith, length-set, get_or-set_same}
use Rattle.std.proofs.Common.{get_or-set_other}
use Rattle.theory.specs.Bytes.{Bytes}
use Rattle.theory.specs.Test.{Tested, holds, fails}
use Rattle.theory.specs.Test.Laws.{eq_tested, is_true, says_true, true_false}
use Rattle.theory.specs.First.{first}
use Rattle.theory.specs.First.Laws.{first_spec}
use Rattle.theory.specs.Count.Laws.{members_all}
use Rattle.occurrences.specs.Distinct.{contains}
use Rattle.occurrences.specs.Distinct.Sets.{contains_tested}
use Rattle.sets.specs.Symbols.{symbols_of}
use Rattle.sets.specs.Symbols.Patterns.{listed_symbol}
use Rattle.cells.specs.Windows.{offset_of}
use Rattle.cells.specs.declared.windows.WindowPlace.{WindowPlace}
use Rattle.matching.specs.Compare.{cell_of_pattern}
use Rattle.view.specs.Places.{cell_count, corner_of, Placed}
use Rattle.view.specs.Places.Laws.{position_inside}
use Rattle.prefixes.specs.State.{FirstPlaces}
use Rattle.inheriting.specs.Offsets.{first_place, Offsets, Prepared, Made, OffsetsUpTo, ImagesInside}

-- the first place of a symbol that the pattern has lies in the pattern
place_inside : (pattern first : List ℕ) (a : ℕ) → FirstPlaces (cell_of_pattern pattern) (length pattern) first
    → contains pattern a ≡ true → get_or first a 0 < length pattern
place_inside pattern first a places has =
    let cell = says_true (contains_tested pattern a) has in
    let f : get_or first (get_or pattern cell.0 0) 0 ≤ cell.0 = (places.each cell.0 cell.1).0 in
    let g : get_or first a 0 ≤ cell.0 = rw cell.2 at f in
    omega (arith, cell.1)

-- the first place of a symbol that the pattern has
pub first_place_spec : (pattern : List ℕ) (p : ℕ) → p < length pattern
    → (first_place pattern (get_or pattern p 0) ≤ p)
    × (get_or pattern (first_place pattern (get_or pattern p 0)) 0 ≡ get_or pattern p 0)
unfolding first_place
first_place_spec pattern p h =
    let f = first_spec (λ k. eqb (get_or pattern k 0) (get_or pattern p 0)) (length pattern) in
    let r = first (λ k. eqb (get_or pattern k 0) (get_or pattern p 0)) (length pattern) in
    let over : p < r → ⊥ = λ l. true_false (is_true (eq_tested (get_or pattern p 0) (get_or pattern p 0)) refl)
    (f.before p l) in
    (omega (arith, over), says_true (eq_tested (get_or pattern r 0) (get_or pattern p 0)) (f.hit (omega (arith, over))))

-- a table of first places has it
pub first_place_is : (pattern first : List ℕ) (p : ℕ) → FirstPlaces (cell_of_pattern pattern) (length pattern) first
    → p < length pattern → get_or first (get_or pattern p 0) 0 ≡ first_place pattern (get_or pattern p 0)
first_place_is pattern first p places h =
    let r = first_place pattern (get_or pattern p 0) in
    let t = get_or first (get_or pattern p 0) 0 in
    let s = first_place_spec pattern p h in
    let c = places.each p h in
    let up : t ≤ r = rw s.1 at (places.each r (omega (arith, s.0))).0 in
    let down : r ≤ t = rw c.1 at (first_place_spec pattern t (omega (arith, c.0))).0 in
    omega (arith, up, down)

-- ---- the table is made

-- before that there is none
pub prepared_none : (pattern : List ℕ) (columns width : ℕ) → Prepared pattern columns width None
prepared_none pattern columns width = record { made = λ table e. absurd (cc) }

-- and afterwards it stays as it is
pub prepared_made : (pattern : List ℕ) (columns width : ℕ) (offsets : Option (List ℕ))
    → Made pattern columns width offsets → Prepared pattern columns width offsets
prepared_made pattern columns width offsets here =
    record { made = λ table e. let same : table ≡ here.table = cc (e, here.table_is) in rw same here.leads }

-- where it is asked for, it is there
pub made_some : (pattern : List ℕ) (columns width : ℕ) (offsets : Option (List ℕ))
    → Prepared pattern columns width offsets
    → (offsets ≡ None → ⊥) → Made pattern columns width offsets
made_some pattern columns width None here some = absurd (some refl)
made_some pattern columns width (Some table) here some =
    record { table = table; table_is = refl; leads = here.made table refl }

-- the first place of a listed symbol is a small number
pub place_small : (pattern symbols first : List ℕ) (height width i : ℕ)
    → FirstPlaces (cell_of_pattern pattern) (length pattern) first → symbols ≡ symbols_of pattern → i < length symbols
    → length pattern ≡ height * width → height ≤ 255 → width ≤ 255 → get_or first (get_or symbols i 0) 0 ≤ 65025
place_small pattern symbols first height width i places e h cells tall broad =
    let inside = place_inside pattern first (get_or symbols i 0) places (listed_symbol pattern symbols e i h).1 in
    omega (arith, inside, cells, mul-le-mul tall broad)

module _ (columns width : ℕ) (symbols first : List ℕ) where
  pub offsets_to_none : (offsets : List ℕ) → length offsets ≡ 256 → OffsetsUpTo columns width symbols first 0 offsets
  offsets_to_none offsets l = record { long = l; each = λ j h. absurd (none j h) }
    where
      none : (j : ℕ) → j < 0 → ⊥
      none j h = omega arith

  -- one symbol more
  pub offsets_to_more : (i a x : ℕ) (offsets : List ℕ) → OffsetsUpTo columns width symbols first i offsets
      → a ≡ get_or symbols i 0 → a < 256 → x ≡ offset_of columns width (get_or first a 0)
      → OffsetsUpTo columns width symbols first (i + 1) (set offsets a x)
  offsets_to_more i a x offsets here is small e =
      record { long = rw length-set here.long; each = λ j h. go j h (eq_tested (get_or symbols j 0) a) }
    where
      go : (j : ℕ) {t : Bool} → j < i + 1 → Tested (get_or symbols j 0 ≡ a) t
          → get_or (set offsets a x) (get_or symbols j 0) 0
          ≡ offset_of columns width (get_or first (get_or symbols j 0) 0)
      go j h (holds d) = rw d (get_or-set_same offsets a x 0 (omega (arith, here.long)) ∙ e)
      go j h (fails d) =
          let other : j ≡ i → ⊥ = λ z. d (ap (λ (y : ℕ). get_or symbols y 0) z ∙ sym is) in
          get_or-set_other offsets a (get_or symbols j 0) x 0 d ∙ here.each j (omega (arith, other))

  -- all of the pattern's
  pub offsets_to_all : (pattern : List ℕ) (i : ℕ) (offsets : List ℕ) → Bytes pattern → symbols ≡ symbols_of pattern
      → FirstPlaces (cell_of_pattern pattern) (length pattern) first → length symbols ≤ i
      → OffsetsUpTo columns width symbols first i offsets → Offsets pattern columns width offsets
  offsets_to_all pattern i offsets bytes e places all here =
      record {
        long = here.long;
        lead = λ p h. go p h ∙ ap (offset_of columns width) (first_place_is pattern first p places h);
      }
    where
      go : (p : ℕ) → p < length pattern
          → get_or offsets (get_or pattern p 0) 0 ≡ offset_of columns width (get_or first (get_or pattern p 0) 0)
      go p h =
          let has = is_true (contains_tested pattern (get_or pattern p 0)) (p, h, refl) in
          let entry = members_all (contains pattern) 256 (get_or pattern p 0) (bytes p) has in
          let at : get_or symbols entry.0 0 ≡ get_or pattern p 0 =
          ap (λ (l : List ℕ). get_or l entry.0 0) e ∙ entry.2 in
          let inside : entry.0 < length symbols = rw e entry.1 in
          rw at at (here.each entry.0 (omega arith))

-- ---- the table is read

module _ (text : List ℕ) (v : WindowPlace) (pattern offsets : List ℕ) (placed : Placed text v)
    (size : length pattern ≡ cell_count v) (leads : Offsets pattern v.columns v.width offsets) where
  -- the offset of a symbol that the pattern has leads to a cell of the text
  pub offset_inside : (a : ℕ) → contains pattern a ≡ true → corner_of v + get_or offsets a 0 < length text
  offset_inside a has =
      let cell = says_true (contains_tested pattern a) has in
      let e : get_or offsets a 0 ≡ offset_of v.columns v.width (first_place pattern a) =
      rw cell.2 at (leads.lead cell.0 cell.1) in
      let p : first_place pattern a ≤ cell.0 = rw cell.2 at (first_place_spec pattern cell.0 cell.1).0 in
      let inside = position_inside text v placed (first_place pattern a) (omega (arith, p, cell.1, size)) in
      omega (arith, e, inside, add-mul v.row (first_place pattern a / v.width) v.columns)

  -- so do those of the listed symbols
  pub inside_listed : (symbols : List ℕ) → symbols ≡ symbols_of pattern
      → ImagesInside text (corner_of v) offsets symbols
  inside_listed symbols e =
      record {
        long = leads.long;
        each = λ i h. offset_inside (get_or symbols i 0) (listed_symbol pattern symbols e i
            h).1;
      }

  -- and those of cells of the pattern
  pub inside_cells : (cells : List ℕ) (from n : ℕ) → length cells ≡ n → from + n ≤ length pattern
      → ((j : ℕ) → j < n → get_or cells j 0 ≡ get_or pattern (from + j) 0)
      → ImagesInside text (corner_of v) offsets cells
  inside_cells cells from n many fit are = record { long = leads.long; each = go }
    where
      go : (j : ℕ) → j < length cells → corner_of v + get_or offsets (get_or cells j 0) 0 < length text
      go j h =
          let j_in : j < n = omega arith in
          let has = is_true (contains_tested pattern (get_or pattern (from + j) 0)) (from + j, omega arith, refl) in
          rw (are j j_in) (offset_inside (get_or pattern (from + j) 0) has)
