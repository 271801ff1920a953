-- A buffer while pieces of bytes are written into it one after another: what is written and what is left to write give
-- the whole.
-- Assumes nothing.
use Rattle.std.specs.Prelude.{◌≡◌, refl, List, [], ◌++◌, ℕ, ◌+◌, ◌≤◌, length, take}
use Rattle.std.proofs.Common.{sym, ◌∙◌, ap, append-nil, add-zero, arith, length-append, take-append-drop}
use Rattle.theory.specs.Written.{written, length-written, written-append}

-- the bytes left go to the place `at`, and then the buffer is whole and the place is `stop`
pub record Left (whole : List ℕ) (stop : ℕ) (l : List ℕ) (at : ℕ) (bytes : List ℕ) : Type 0 where
  pub whole_is : whole ≡ written l at bytes
  pub stop_is : stop ≡ at + length bytes
  pub room : stop ≤ length l

-- nothing written
pub written_none : (l : List ℕ) (at : ℕ) → written l at [] ≡ l
unfolding written
written_none l at = rw (add-zero at, append-nil (take at l)) (take-append-drop at l)

pub left_all : (l : List ℕ) (at : ℕ) (bytes : List ℕ) → at + length bytes ≤ length l
    → Left (written l at bytes) (at + length bytes) l at bytes
left_all l at bytes h = record { whole_is = refl; stop_is = refl; room = h }

module _ {whole : List ℕ} {stop : ℕ} (l : List ℕ) (at : ℕ) (bytes : List ℕ) (h : Left whole stop l at bytes) where
  -- the buffer is as long as the whole one
  pub left_long : length l ≡ length whole
  left_long = sym (ap length h.whole_is ∙ length-written l at bytes (omega (arith, h.stop_is, h.room)))

  module _ (xs ys : List ℕ) (e : bytes ≡ xs ++ ys) where
    longer : length bytes ≡ length xs + length ys
    longer = ap length e ∙ length-append xs ys

    -- there is room for the next piece
    pub left_room : at + length xs ≤ length l
    left_room = omega (arith, longer, h.stop_is, h.room)

    -- and when it is written, less is left
    pub left_less : (new : List ℕ) (next : ℕ) → new ≡ written l at xs → next ≡ at + length xs
        → Left whole stop new next ys
    left_less new next n k =
        record {
          whole_is =
              h.whole_is ∙ ap (written l at) e ∙ sym (written-append l at xs ys (omega (arith, left_room)))
              ∙ rw (n, k);
          stop_is = omega (arith, longer, h.stop_is);
          room = omega (arith, ap length n, length-written l at xs left_room, h.room);
        }

  -- nothing is left
  pub left_none : bytes ≡ [] → (l ≡ whole) × (at ≡ stop)
  left_none e = (sym (h.whole_is ∙ ap (written l at) e ∙ written_none l at), omega (arith, h.stop_is, ap length e))

-- ---- two pieces

module _ (l : List ℕ) (at : ℕ) (xs ys both : List ℕ) (e : both ≡ xs ++ ys) (room : at + length both ≤ length l) where
  pub first_room : at + length xs ≤ length l
  first_room = left_room l at both (left_all l at both room) xs ys e

  module _ (new : List ℕ) (next : ℕ) (n : new ≡ written l at xs) (k : next ≡ at + length xs) where
    second : Left (written l at both) (at + length both) new next ys
    second = left_less l at both (left_all l at both room) xs ys e new next n k

    pub second_room : next + length ys ≤ length new
    second_room = omega (arith, second.stop_is, second.room)

    pub both-written : (last : List ℕ) (stop : ℕ) → last ≡ written new next ys → stop ≡ next + length ys
        → (stop ≡ at + length both) × (last ≡ written l at both)
    both-written last stop a b = (b ∙ sym second.stop_is, a ∙ sym second.whole_is)
