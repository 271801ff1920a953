-- What the reading of pairs needs and keeps: the window that stands as found, and the marks of the symbols given so
-- far.
-- Assumes nothing.
pub mod Plain
pub mod Reading
pub mod Rising
use Rattle.std.proofs.Common.{◌≡◌, Bool, true, false, List, ◌∷◌, ℕ, ◌+◌, ◌≤◌, ◌<◌, eqb, length, get_or, sym, ◌∙◌, ap}
use Rattle.std.proofs.Common.{arith, Ok, Err}
use Rattle.theory.specs.Older.{Older}
use Rattle.occurrences.specs.Distinct.{contains}
use Rattle.occurrences.specs.Distinct.Sets.{contains_tested}
use Rattle.sets.specs.Symbols.{symbols_of}
use Rattle.refusals.specs.declared.refusals.Refusal.TheVariants.{ListingForm, ListingFalse}
use Rattle.sets.specs.Symbols.Patterns.{listed_symbol}
use Rattle.view.specs.Places.{window_of, cell_count, corner_of, Placed}
use Rattle.cells.specs.declared.windows.WindowPlace.{WindowPlace}
use Rattle.matching.specs.Compare.{cell_of_pattern}
use Rattle.theory.specs.Test.{pick, both, Tested, holds, fails}
use Rattle.theory.specs.Test.Laws.{eq_tested, lt_tested, tested_iff, tested_same, is_true, is_false, says_true}
use Rattle.theory.specs.First.Laws.{every_tested}
use Rattle.inheriting.specs.Carries.{Carried}
use Rattle.inheriting.specs.Inheritance.{Follows}
use Rattle.inheriting.specs.Inheritance.Laws.{follows_carried}
use Rattle.inheriting.specs.Offsets.{image_from_behind, Offsets}
use Rattle.inheriting.specs.Offsets.Laws.{offset_inside}
use Rattle.inheriting.specs.Images.{ImagesIn}
use Rattle.inheriting.specs.declared.images.Imaged.{Imaged}
use Rattle.pairs.specs.declared.window.FoundWindow.{FoundWindow}
use Rattle.claims.specs.Claims.{or_stop, byte_at, stands, has_image_test, right_pair}
use Rattle.claims.specs.Claims.{Walk}

-- what is known of a window that a found record names, wherever the facts come from: its corner, the offsets that lead
-- from there to its symbols' images, and whether it is known to follow the pattern
pub record FoundAt (text : List ℕ) (v : WindowPlace) (pattern : List ℕ) (carried : Bool) (corner : ℕ)
    (offsets : List ℕ) : Type 0 where
  pub placed : Placed text v
  pub size : length pattern ≡ cell_count v
  pub corner_is : corner ≡ corner_of v
  pub leads : Offsets pattern v.columns v.width offsets
  pub follows : carried ≡ true → Follows (cell_of_pattern pattern) (window_of text v) (cell_count v)

-- the window of the struct is one
pub found_at : (f : FoundWindow) → let c = f.images.compared in
    FoundAt c.window.text.now c.window.place c.pattern.now f.carried f.images.corner f.images.offsets.now
found_at f =
    record {
      placed = f.images.compared.window.placed;
      size = f.images.compared.fitting;
      corner_is = f.images.corner_is;
      leads = f.images.leads;
      follows = f.follows;
    }

-- just the symbols given are marked with base
pub record Marked (base : ℕ) (given marks : List ℕ) : Type 0 where
  pub older : Older (base + 1) marks
  pub says : (b : ℕ) → b < 256 → eqb (get_or marks b 0) base ≡ contains given b

-- one pair, after those that gave these symbols
pub record PairRead (m w : ℕ → ℕ) (n : ℕ) (listing : List ℕ) (a base at : ℕ) (given : List ℕ) (r : Walk)
    (marks : List ℕ) : Type 0 where
  pub walk_is : r ≡ or_stop (stands listing 2 at) (ListingForm at)
      (or_stop (right_pair m w n listing a given at) (ListingFalse at) (Ok (at + 3)))
  pub marked : both (stands listing 2 at) (right_pair m w n listing a given at) ≡ true
      → Marked base (byte_at listing at 2 ∷ given) marks
  pub older : Older (base + 1) marks

-- ---- whether the window has b in every cell where the pattern has a

-- one test implies another
imply_tested : {P Q : Type 0} {s t : Bool} → Tested P s → Tested Q t → Tested (P → Q) (pick s t true)
imply_tested (holds p) (holds q) = holds (λ _. q)
imply_tested (holds p) (fails n) = fails (λ f. n (f p))
imply_tested (fails n) t = holds (λ p. absurd (n p))

pub has_image_tested : (m w : ℕ → ℕ) (n a b : ℕ) → Tested ((p : ℕ) → p < n → m p ≡ a
    → w p ≡ b) (has_image_test m w n a b)
unfolding has_image_test
has_image_tested m w n a b =
    every_tested (λ p. pick (eqb (m p) a) (eqb (w p) b) true) n
    (λ p. imply_tested (eq_tested (m p) a) (eq_tested (w p) b))

-- cell by cell: among the first p cells, those where the pattern has a have b in the window
pub record ImageTo (m w : ℕ → ℕ) (a b p : ℕ) : Type 0 where
  pub each : (k : ℕ) → k < p → m k ≡ a → w k ≡ b

module _ (m w : ℕ → ℕ) (a b : ℕ) where
  pub image_none : ImageTo m w a b 0
  image_none = record { each = λ k h. absurd (none k h) }
    where
      none : (k : ℕ) → k < 0 → ⊥
      none k h = omega arith

  pub image_more : (p : ℕ) → ImageTo m w a b p → (m p ≡ a → w p ≡ b) → ImageTo m w a b (p + 1)
  image_more p here e = record { each = λ k h. go k h (lt_tested k p) }
    where
      go : (k : ℕ) {t : Bool} → k < p + 1 → Tested (k < p) t → m k ≡ a → w k ≡ b
      go k h (holds l) = here.each k l
      go k h (fails n) = let last : k ≡ p = omega arith in rw last e

  pub image_all : (p n : ℕ) → n ≤ p → ImageTo m w a b p → has_image_test m w n a b ≡ true
  image_all p n h here = is_true (has_image_tested m w n a b) (λ k l. here.each k (omega arith))

  pub image_other : (p n : ℕ) → p < n → m p ≡ a → (w p ≡ b → ⊥) → has_image_test m w n a b ≡ false
  image_other p n h e d = is_false (has_image_tested m w n a b) (λ all. d (all p h e))

-- where the window follows the pattern, the image of a symbol that the pattern has says it: one cell has the symbol, so
-- the image is that cell's, and every other one's
pub image_carried : (text : List ℕ) (v : WindowPlace) (pattern : List ℕ) (carried : Bool) (corner : ℕ)
    (offsets : List ℕ) (a b x : ℕ) → FoundAt text v pattern carried corner offsets → carried ≡ true
    → contains pattern a ≡ true → x ≡ image_from_behind text corner offsets a
    → eqb x b ≡ has_image_test (cell_of_pattern pattern) (window_of text v) (cell_count v) a b
image_carried text v pattern carried corner offsets a b x found says has x_is =
    tested_same (tested_iff there back (eq_tested x b))
    (has_image_tested (cell_of_pattern pattern) (window_of text v) (cell_count v) a b)
  where
    cells : Carried text (corner_of v) offsets (cell_of_pattern pattern) (window_of text v) (cell_count v)
    cells =
        follows_carried text v pattern offsets (cell_count v) found.leads (omega (arith, found.size))
        (found.follows says)

    image : (p : ℕ) → p < cell_count v → get_or pattern p 0 ≡ a → x ≡ window_of text v p
    image p h e =
        x_is ∙ ap (λ (k : ℕ). image_from_behind text k offsets a) found.corner_is
        ∙ ap (image_from_behind text (corner_of v) offsets) (sym e) ∙ cells.carries p h

    there : x ≡ b → (p : ℕ) → p < cell_count v → get_or pattern p 0 ≡ a → window_of text v p ≡ b
    there e p h d = sym (image p h d) ∙ e

    back : ((p : ℕ) → p < cell_count v → get_or pattern p 0 ≡ a → window_of text v p ≡ b) → x ≡ b
    back all =
        let cell = says_true (contains_tested pattern a) has in
        let inside : cell.0 < cell_count v = omega (arith, cell.1, found.size) in
        image cell.0 inside cell.2 ∙ all cell.0 inside cell.2

-- the image lies in the text
module _ (m : Imaged) where
  pub image_inside : (a : ℕ) → contains m.compared.pattern.now a ≡ true
      → m.corner + get_or m.offsets.now a 0 < length m.compared.window.text.now
  image_inside a has =
      let c = m.compared in
      let inside = offset_inside c.window.text.now c.window.place c.pattern.now m.offsets.now c.window.placed c.fitting
      m.leads a has in
      omega (arith, inside, m.corner_is)

  -- and so do those of the listed symbols
  pub symbols_inside : (symbols : List ℕ) → symbols ≡ symbols_of m.compared.pattern.now → ImagesIn m symbols
  symbols_inside symbols e =
      record {
        long = m.leads.long;
        each = λ i h. image_inside (get_or symbols i 0) (listed_symbol m.compared.pattern.now symbols e i h).1;
      }
