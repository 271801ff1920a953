-- What the search knows of its pattern: the set of symbols from their first places, number and list from the set.
-- Assumes nothing.
use Rattle.std.specs.Prelude.{◌≡◌, List, ℕ, ◌≤◌, ◌<◌, length, get_or, take, drop}
use Rattle.std.proofs.Common.{ap, ◌∙◌, arith, length-append, length-drop}
use Rattle.std.proofs.Math.Seq.{take-append_seam}
use Rattle.theory.specs.Count.{members}
use Rattle.theory.specs.Count.Laws.{length-members, count_le}
use Rattle.refusals.specs.Said.{over_front}
use Rattle.occurrences.specs.Distinct.{distinct}
use Rattle.sets.specs.declared.symbols.Symbols.{Symbols}
use Rattle.sets.specs.Symbols.{has, set_of_symbols, symbols_of, PlacesOf}
use Rattle.sets.specs.Symbols.Patterns.{members-set_of_symbols}
use Rattle.prefixes.specs.State.{FirstPlaces}
use Rattle.entries.specs.Listing.Length.{length_symbols}

-- what is known of a pattern with those cells: how many symbols it has, the symbols at the front of a list, rising, and
-- the first place of each
pub record KnownOf (cells : List ℕ) (count : ℕ) (list first : List ℕ) : Type 0 where
  pub bytes : (k : ℕ) → get_or cells k 0 < 256
  pub count_is : count ≡ distinct cells
  pub inside : count ≤ length list
  pub symbols_are : take count list ≡ symbols_of cells
  pub first_are : FirstPlaces (λ k. get_or cells k 0) (length cells) first

-- a symbol's first place is a place of it
pub places_from_first : (cells first : List ℕ) → FirstPlaces (λ k. get_or cells k 0) (length cells) first
    → PlacesOf cells first
places_from_first cells first f =
    record { long = f.long; each = λ k h. (omega (arith, (f.each k h).0), (f.each k h).1) }

-- a set has at most 256 members
pub members_few : (set : Symbols) → length (members (has set) 256) ≤ 256
members_few set = omega (arith, length-members (has set) 256, count_le (has set) 256)

-- what is known, from the first places and the set that is made from them
pub known_of : (cells : List ℕ) → ((k : ℕ) → get_or cells k 0 < 256) → (set : Symbols) → set ≡ set_of_symbols cells
    → (count : ℕ) → count ≡ length (members (has set) 256) → (old list : List ℕ) → length old ≡ 256
    → list ≡ over_front (members (has set) 256) old → (first : List ℕ)
    → FirstPlaces (λ k. get_or cells k 0) (length cells) first → KnownOf cells count list first
known_of cells bytes set is count many old list long front first places =
    record {
      bytes = bytes;
      count_is = many ∙ ap length symbols ∙ length_symbols cells bytes;
      inside = omega (
        arith,
        many,
        members_few set,
        ap length front,
        length-append (members (has set) 256) (drop (length (members (has set) 256)) old),
        length-drop (length (members (has set) 256)) old,
      );
      symbols_are = rw (many, front) (take-append_seam (members (has set) 256) _ ∙ symbols);
      first_are = places;
    }
  where
    symbols : members (has set) 256 ≡ symbols_of cells
    symbols = members-set_of_symbols cells set is
