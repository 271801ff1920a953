-- The pairs of a found window, one after another for the pattern's symbols, rising: what is read and what is left give
-- the whole walk.
-- Assumes nothing.
use Rattle.std.proofs.Common.{◌≡◌, refl, Bool, true, false, ℕ, ◌+◌, ◌≤◌, ◌<◌, length, get_or, drop, sym, ap, ◌∙◌}
use Rattle.std.proofs.Common.{add-one, arith, drop_of_length-le, drop-cons, List, [], ◌∷◌, Ok, Err}
use Rattle.theory.specs.Older.{Older}
use Rattle.theory.specs.Test.{both}
use Rattle.theory.specs.Test.Laws.{true_false}
use Rattle.sets.specs.Symbols.{symbols_of}
use Rattle.refusals.specs.declared.refusals.Refusal.{Refusal}
use Rattle.refusals.specs.declared.refusals.Refusal.TheVariants.{ListingForm, ListingFalse}
use Rattle.claims.specs.Claims.{or_stop, byte_at, stands, right_pair, pairs_from}
use Rattle.claims.specs.Claims.{Walk}
use Rattle.pairs.specs.Pairs.{Marked, PairRead}
use Rattle.pairs.specs.Pairs.Reading.{marked_none}
use Rattle.claims.specs.Walks.{goes_not_stops}

-- marks of this window are older than the next one's
pub marks_next : (base : ℕ) (marks : List ℕ) → Older (base + 1) marks → Older (base + 256) marks
marks_next base marks u = record { long = u.long; below = λ b. omega (arith, u.below b) }

-- ---- two tests, one after the other

-- where the walk stops, it does not matter what would come after
stops_same : (s r : Bool) (one two why : Refusal) (at : ℕ) (after : Walk)
    → Err why ≡ or_stop s one (or_stop r two (Ok at)) → Err why ≡ or_stop s one (or_stop r two after)
stops_same true true one two why at after e = absurd (goes_not_stops at why (sym e))
stops_same true false one two why at after e = e
stops_same false r one two why at after e = e

-- where it goes on, both have passed
goes_same : (s r : Bool) (one two : Refusal) (next at : ℕ) → Ok next ≡ or_stop s one (or_stop r two (Ok at))
    → (both s r ≡ true) × (next ≡ at)
goes_same true true one two next at e = (refl, cc)
goes_same true false one two next at e = absurd (goes_not_stops next two e)
goes_same false r one two next at e = absurd (goes_not_stops next one e)

after_same : (s r : Bool) (one two : Refusal) (after : Walk) → both s r ≡ true
    → or_stop s one (or_stop r two after) ≡ after
after_same true true one two after e = refl
after_same true false one two after e = absurd (true_false e refl)
after_same false r one two after e = absurd (true_false e refl)

-- ---- the pairs that are left

-- the first i pairs are right and gave the symbols that are marked; what is left goes on from end
pub record PairsLeft (m w : ℕ → ℕ) (n : ℕ) (listing symbols : List ℕ) (base : ℕ) (whole : Walk) (i end : ℕ)
    (marks : List ℕ) : Type 0 where
  pub before : List ℕ
  pub marked : Marked base before marks
  pub walk_is : whole ≡ pairs_from m w n listing (drop i symbols) before end

module _ (m w : ℕ → ℕ) (n : ℕ) (listing symbols : List ℕ) (base : ℕ) where
  -- all of the pattern's
  pub symbols_left_all : (pattern : List ℕ) (at : ℕ) (marks : List ℕ) → symbols ≡ symbols_of pattern → Older base marks
      → PairsLeft m w n listing symbols base (pairs_from m w n listing (symbols_of pattern) [] at) 0 at marks
  symbols_left_all pattern at marks e u =
      record {
        before = [];
        marked = marked_none base marks u;
        walk_is = ap (λ (xs : List ℕ). pairs_from m w n listing xs [] at) (sym e);
      }

  module _ (whole : Walk) (i end : ℕ) (marks : List ℕ) (here : PairsLeft m w n listing symbols base whole i end marks)
    where
      -- none is left
      pub symbols_left_none : length symbols ≤ i → Ok end ≡ whole
      unfolding pairs_from
      symbols_left_none h =
          sym (here.walk_is ∙ ap (λ (xs : List ℕ). pairs_from m w n listing xs here.before end)
          (drop_of_length-le symbols h))

      -- the next one is a
      module _ (a : ℕ) (next_is : a ≡ get_or symbols i 0) (inside : i < length symbols) where
        next_walk : whole ≡ or_stop (stands listing 2 end) (ListingForm end)
            (or_stop (right_pair m w n listing a here.before end) (ListingFalse end)
            (pairs_from m w n listing (drop (i + 1) symbols) (byte_at listing end 2 ∷ here.before) (end + 3)))
        unfolding pairs_from
        next_walk =
            rw (next_is, add-one) (here.walk_is
            ∙ ap (λ (xs : List ℕ). pairs_from m w n listing xs here.before end) (drop-cons symbols i 0 inside))

        -- it is read, and the walk stops there
        module _ (r : Walk) (new : List ℕ) (read : PairRead m w n listing a base end here.before r new) where
          walk : (c : Walk) → r ≡ c
              → c ≡ or_stop (stands listing 2 end) (ListingForm end)
              (or_stop (right_pair m w n listing a here.before end) (ListingFalse end) (Ok (end + 3)))
          walk c e = sym e ∙ read.walk_is

          pub left_stopped : (why : Refusal) → r ≡ Err why → r ≡ whole
          left_stopped why e =
              e
              ∙ stops_same (stands listing 2 end) (right_pair m w n listing a here.before end) (ListingForm end)
              (ListingFalse end) why (end + 3)
              (pairs_from m w n listing (drop (i + 1) symbols) (byte_at listing end 2 ∷ here.before) (end + 3))
              (walk (Err why) (e))
              ∙ sym next_walk

          -- or goes on with one symbol less
          pub left_passed : (next : ℕ) → r ≡ Ok next → PairsLeft m w n listing symbols base whole (i + 1) next new
          left_passed next e =
              let right =
              goes_same (stands listing 2 end) (right_pair m w n listing a here.before end) (ListingForm end)
              (ListingFalse end) next (end + 3)
              (walk (Ok next) (e)) in
              record {
                before = byte_at listing end 2 ∷ here.before;
                marked = read.marked right.0;
                walk_is =
                    next_walk
                    ∙ after_same (stands listing 2 end) (right_pair m w n listing a here.before end) (ListingForm end)
                    (ListingFalse end) _ right.0
                    ∙ rw right.1;
              }
