-- Plain pairs: those of a window that follows the pattern, as they are where nothing is wrong. A plain pair stands in
-- the listing and is right, so the walk goes on behind it, and its symbol is marked.
-- Assumes nothing.
use Rattle.std.proofs.Common.{◌≡◌, refl, Bool, true, List, [], ℕ, ◌+◌, ◌-◌, ◌*◌, ◌/◌, ◌≤◌, ◌<◌, length, get_or, set}
use Rattle.std.proofs.Common.{sym, ◌∙◌, arith, length-set, eq-eqb, Ok}
use Rattle.theory.specs.Older.{Older}
use Rattle.theory.specs.Test.Laws.{is_true}
use Rattle.occurrences.specs.Distinct.{contains}
use Rattle.sets.specs.Symbols.{symbols_of}
use Rattle.cells.specs.declared.windows.WindowPlace.{WindowPlace}
use Rattle.view.specs.Places.{window_of, cell_count}
use Rattle.matching.specs.Compare.{cell_of_pattern}
use Rattle.matching.specs.Compared.{pattern_seen, window_seen, cells_seen}
use Rattle.matching.specs.declared.compared.Compared.{Compared}
use Rattle.listing.specs.Records.{kind_size}
use Rattle.claims.specs.Claims.{stands, pairs_from}
use Rattle.claims.specs.Claims.Standing.{stands_tested}
use Rattle.pairs.specs.Pairs.{FoundAt, Marked, PairRead, image_carried}
use Rattle.pairs.specs.Pairs.Reading.{read_right}
use Rattle.inheriting.specs.Offsets.{image_from_behind}
use Rattle.sets.specs.Symbols.Patterns.{listed_symbol}
use Rattle.pairs.specs.Pairs.Rising.{PairsLeft, symbols_left_all, left_passed}

-- a pair of the symbol a and its image, which was not marked and is now
pub record PlainPair (text : List ℕ) (corner : ℕ) (offsets : List ℕ) (base : ℕ) (old : List ℕ) (a : ℕ)
    (listing : List ℕ) (at : ℕ) (new : List ℕ) : Type 0 where
  pub kind : get_or listing at 0 ≡ 2
  pub symbol : get_or listing (at + 1) 0 ≡ a
  pub byte : get_or listing (at + 2) 0 < 256
  pub image : image_from_behind text corner offsets a ≡ get_or listing (at + 2) 0
  pub fresh : get_or old (get_or listing (at + 2) 0) 0 ≡ base → ⊥
  pub marked : new ≡ set old (get_or listing (at + 2) 0) base

-- the pairs that are left of a window's, after i of them
abbrev pub PairsLeftOf : Compared → List ℕ → List ℕ → ℕ → ℕ → ℕ → ℕ → List ℕ → Type 0
PairsLeftOf c symbols listing base at i end marks =
    PairsLeft (pattern_seen c) (window_seen c) (cells_seen c) listing symbols base
    (pairs_from (pattern_seen c) (window_seen c) (cells_seen c) listing (symbols_of c.pattern.now) [] at) i end marks

-- the first i pairs are right, whichever window it is that stands there: what is left of the walk goes on from end
pub record PlainTo (text : List ℕ) (carried : Bool) (corner : ℕ) (offsets : List ℕ) (base : ℕ)
    (symbols listing : List ℕ) (at : ℕ) (old : List ℕ) (i end : ℕ) (marks : List ℕ) : Type 0 where
  pub long : length marks ≡ 256
  pub each : (v : WindowPlace) (pattern : List ℕ) → FoundAt text v pattern carried corner offsets
      → symbols ≡ symbols_of pattern → Older base old
      → PairsLeft (cell_of_pattern pattern) (window_of text v) (cell_count v) listing symbols base
      (pairs_from (cell_of_pattern pattern) (window_of text v) (cell_count v) listing (symbols_of pattern) [] at) i
      end marks

-- a pair stands where its kind does and there is room for it
pair_stands : (listing : List ℕ) (at : ℕ) → get_or listing at 0 ≡ 2 → at + 3 ≤ length listing
    → stands listing 2 at ≡ true
unfolding kind_size
pair_stands listing at e h =
    let size : kind_size (get_or listing at 0) ≡ 3 = rw e refl in
    is_true (stands_tested listing at 2) (e, record { known = omega arith; within = omega arith })

-- two bytes in one number say both
pub head_says : (kind symbol a : ℕ) → kind < 256 → symbol < 256 → kind + symbol * 256 ≡ 2 + a * 256
    → (kind ≡ 2) × (symbol ≡ a)
head_says kind symbol a h k e = (omega arith, omega arith)

-- a plain pair is read as one that is right
plain_read : (text : List ℕ) (v : WindowPlace) (pattern : List ℕ) (carried : Bool) (corner : ℕ) (offsets : List ℕ)
    (base a : ℕ) (listing : List ℕ) (at : ℕ) (given old new : List ℕ)
    → FoundAt text v pattern carried corner offsets → carried ≡ true → contains pattern a ≡ true
    → at + 3 ≤ length listing
    → PlainPair text corner offsets base old a listing at new → Marked base given old
    → PairRead (cell_of_pattern pattern) (window_of text v) (cell_count v) listing a base at given (Ok (at + 3)) new
plain_read text v pattern carried corner offsets base a listing at given old new found says has room p here =
    rw p.marked (read_right (cell_of_pattern pattern) (window_of text v) (cell_count v) listing a base at given old here
    (pair_stands listing at p.kind room) y refl p.byte p.symbol p.fresh
    (sym (image_carried text v pattern carried corner offsets a y (image_from_behind text corner offsets a) found says
    has refl)
    ∙ eq-eqb (image_from_behind text corner offsets a) y p.image))
  where
    y : ℕ
    y = get_or listing (at + 2) 0

module _ (text : List ℕ) (carried : Bool) (corner : ℕ) (offsets : List ℕ) (base : ℕ) (symbols listing : List ℕ) (at : ℕ)
    (old : List ℕ) where
  pub plain_none : (end : ℕ) → end ≡ at → length old ≡ 256
      → PlainTo text carried corner offsets base symbols listing at old 0 end old
  plain_none end e l =
      rw e (record {
        long = l;
        each = λ v pattern found listed older.
            symbols_left_all (cell_of_pattern pattern) (window_of text v) (cell_count v) listing symbols base pattern at
            old listed older;
      })

  pub plain_more : (i end : ℕ) (marks new : List ℕ) → carried ≡ true
      → PlainTo text carried corner offsets base symbols listing at old i end marks
      → i < length symbols → end + 3 ≤ length listing
      → PlainPair text corner offsets base marks (get_or symbols i 0) listing end new
      → PlainTo text carried corner offsets base symbols listing at old (i + 1) (end + 3) new
  plain_more i end marks new says here inside room p =
      record {
        long = rw (p.marked, length-set) here.long;
        each = λ v pattern found listed older. more v pattern found listed (here.each v pattern found listed older);
      }
    where
      more : (v : WindowPlace) (pattern : List ℕ) → FoundAt text v pattern carried corner offsets
          → symbols ≡ symbols_of pattern
          → PairsLeft (cell_of_pattern pattern) (window_of text v) (cell_count v) listing symbols base
          (pairs_from (cell_of_pattern pattern) (window_of text v) (cell_count v) listing (symbols_of pattern) [] at) i
          end marks
          → PairsLeft (cell_of_pattern pattern) (window_of text v) (cell_count v) listing symbols base
          (pairs_from (cell_of_pattern pattern) (window_of text v) (cell_count v) listing (symbols_of pattern) [] at)
          (i + 1) (end + 3) new
      more v pattern found listed left =
          left_passed (cell_of_pattern pattern) (window_of text v) (cell_count v) listing symbols base
          (pairs_from (cell_of_pattern pattern) (window_of text v) (cell_count v) listing (symbols_of pattern) [] at) i
          end marks left (get_or symbols i 0) refl inside (Ok (end + 3)) new
          (plain_read text v pattern carried corner offsets base (get_or symbols i 0) listing end left.before marks new
          found says (listed_symbol pattern symbols listed i inside).1 room p left.marked)
          (end + 3) refl

  -- the place is said by the number of pairs, and whether the window is carried in another word for it
  pub plain_told : (was : Bool) (i end : ℕ) (marks : List ℕ) → carried ≡ was → end ≡ at + 3 * i
      → PlainTo text was corner offsets base symbols listing at old i end marks
      → PlainTo text carried corner offsets base symbols listing at old i (at + 3 * i) marks
  plain_told was i end marks c e here = rw (c, sym e) here

-- there is room for all pairs, so for the next one
pub pairs_room : (size at n i : ℕ) → at ≤ size → n ≤ (size - at) / 3 → i < n → at + 3 * i + 3 ≤ size
pairs_room size at n i h few l = omega arith
