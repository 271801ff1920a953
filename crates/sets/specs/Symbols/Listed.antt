-- The symbols of a set written into a list, lowest first: what is written and what is left in the set give all of its
-- symbols.
-- Assumes nothing.
use Rattle.std.specs.Prelude.{◌≡◌, refl, List, ◌∷◌, ◌++◌, ℕ, ◌+◌, ◌≤◌, ◌<◌, length, set, take, drop}
use Rattle.std.proofs.Common.{sym, ap, ap₂, ◌∙◌, append-nil, add-one, arith, length-set, take-append-drop, length-append, length-drop, take-suc-set, drop-set-lt, drop-drop, length-take-le}
use Rattle.std.proofs.Math.Seq.{append_snoc, take-append_seam}
use Rattle.theory.specs.Count.{members}
use Rattle.theory.specs.Count.Laws.{length-members, count_le}
use Rattle.refusals.specs.Said.{over_front}
use Rattle.sets.specs.declared.symbols.Symbols.{Symbols}
use Rattle.sets.specs.Symbols.{has, lowest_of, without_symbol}
use Rattle.sets.specs.Symbols.Taken.{members_lowest, members_over}

-- the first k entries are the symbols of the set that are not in rest, and there is room for those of rest; the others
-- are as they were
pub record Listed (symbols rest : Symbols) (old : List ℕ) (k : ℕ) (listed : List ℕ) : Type 0 where
  pub long : length listed ≡ 256
  pub behind : drop k listed ≡ drop k old
  pub parts : take k listed ++ members (has rest) 256 ≡ members (has symbols) 256
  pub room : k + length (members (has rest) 256) ≤ 256

-- nothing is written yet
pub listed_none : (symbols : Symbols) (listed : List ℕ) → length listed ≡ 256 → Listed symbols symbols listed 0 listed
listed_none symbols listed e =
    record {
      long = e;
      behind = refl;
      parts = refl;
      room = omega (arith, length-members (has symbols) 256, count_le (has symbols) 256);
    }

module _ (symbols rest : Symbols) (old : List ℕ) (k : ℕ) (listed : List ℕ) (here : Listed symbols rest old k listed)
    (a : ℕ)
    (low : a ≡ lowest_of rest) where
  -- none is left: the first k entries are all of them
  listed_front : 256 ≤ a → take k listed ≡ members (has symbols) 256
  listed_front h =
      sym (append-nil (take k listed)) ∙ ap (λ (xs : List ℕ). take k listed ++ xs)
      (sym (members_over rest (omega arith)))
      ∙ here.parts

  pub listed-number : 256 ≤ a → k ≡ length (members (has symbols) 256)
  listed-number h =
      sym (length-take-le k listed (omega (arith, here.room, here.long))) ∙ ap length (listed_front h)

  pub listed-all : 256 ≤ a → listed ≡ over_front (members (has symbols) 256) old
  listed-all h =
      sym (take-append-drop k listed)
      ∙ ap₂ (λ (xs ys : List ℕ). xs ++ ys) (listed_front h)
      (here.behind ∙ ap (λ (n : ℕ). drop n old) (listed-number h))

  -- the next one is a
  module _ (small : a < 256) where
    next : members (has rest) 256 ≡ a ∷ members (has (without_symbol rest a)) 256
    next = rw low (members_lowest rest (omega arith))

    -- there is room for it
    pub listed_room : k < 256
    listed_room = omega (arith, ap length next, here.room)

    -- and it is written
    pub listed_more : (less : Symbols) → less ≡ without_symbol rest a → Listed symbols less old (k + 1) (set listed k a)
    listed_more less e =
        rw e
        (record {
          long = rw length-set here.long;
          behind =
              drop-set-lt (k + 1) listed k a (omega arith) ∙ sym (drop-drop 1 k listed)
              ∙ ap (drop 1) here.behind ∙ drop-drop 1 k old;
          parts =
              ap (λ (xs : List ℕ). xs ++ members (has (without_symbol rest a)) 256)
              (ap (λ (n : ℕ). take n (set listed k a)) (add-one k)
              ∙ take-suc-set listed k a (omega (arith, here.long, listed_room)))
              ∙ append_snoc (take k listed) a (members (has (without_symbol rest a)) 256)
              ∙ ap (λ (xs : List ℕ). take k listed ++ xs) (sym next)
              ∙ here.parts;
          room = omega (arith, ap length next, here.room);
        })

-- ---- for a caller, whose list has 256 entries

module _ (symbols : Symbols) (r : ℕ) (old new : List ℕ) (number : r ≡ length (members (has symbols) 256))
    (all : new ≡ over_front (members (has symbols) 256) old) where
  -- the symbols are its first entries
  pub listed-take : take r new ≡ members (has symbols) 256
  listed-take = rw (number, all) (take-append_seam (members (has symbols) 256) _)

  -- and all of them are inside
  pub listed_inside : length old ≡ 256 → r ≤ length new
  listed_inside e =
      omega (
        arith,
        number,
        length-members (has symbols) 256,
        count_le (has symbols) 256,
        ap length all,
        length-append (members (has symbols) 256) (drop (length (members (has symbols) 256)) old),
        length-drop (length (members (has symbols) 256)) old,
      )
