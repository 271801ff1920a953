-- The whole listing: the records of all windows, and behind them the closing.
-- Assumes nothing.
use Rattle.std.specs.Prelude.{◌≡◌, refl, List, ◌++◌, ℕ, ◌+◌, ◌*◌, ◌≤◌, length}
use Rattle.std.proofs.Common.{sym, ap, ap₂, ◌∙◌, zero-add, arith}
use Rattle.theory.specs.Join.{joined}
use Rattle.shapes.specs.Questions.{asked}
use Rattle.shapes.specs.Shapes.{across, down}
use Rattle.shapes.specs.Shapes.Laws.{product_le}
use Rattle.refusals.specs.Said.{over_front}
use Rattle.shapes.specs.declared.shapes.Shape.{Shape}
use Rattle.theory.specs.Written.{written}
use Rattle.listing.specs.Records.{bytes_of}
use Rattle.theory.specs.Pieces.{first_room, second_room, both-written}
use Rattle.listing.specs.Entries.Laws.{bytes_append, bytes_one}
use Rattle.listing.specs.declared.records.Record.TheVariants.{Closing}
use Rattle.entries.specs.Listing.{entry_of_window, found_in, refused_in, search_records, search_listing}
use Rattle.passes.specs.Windows.{window_bytes, Flagged}

-- bytes written at a buffer's start
written_front : (l xs : List ℕ) → written l 0 xs ≡ over_front xs l
unfolding written
written_front l xs = rw (zero-add (length xs))

-- a pattern is small
pub pattern_fits : (text pattern : List ℕ) (s : Shape) (flags : List ℕ) → Flagged text pattern s flags
    → length pattern ≤ 65025
pattern_fits text pattern s flags f =
    let v = f.shape in
    omega (arith, f.size, product_le s.height s.width 255 255 (omega arith) (omega arith))

module _ (text pattern : List ℕ) (s : Shape) (found refused : ℕ) (f : found ≡ found_in (asked text pattern s))
    (r : refused ≡ refused_in (asked text pattern s)) where
  abbrev last_bytes : List ℕ
  last_bytes = bytes_of (Closing found refused)

  closing : search_listing (asked text pattern s) ≡ window_bytes text pattern s ++ last_bytes
  unfolding search_listing search_records window_bytes
  closing =
      bytes_append (joined (entry_of_window (asked text pattern s)) (down s * across s)) _
      ∙ ap (λ (xs : List ℕ). window_bytes text pattern s ++ xs)
      (bytes_one (Closing (found_in (asked text pattern s)) (refused_in (asked text pattern s)))
      ∙ ap₂ (λ (a b : ℕ). bytes_of (Closing a b)) (sym f) (sym r))

  module _ (old : List ℕ) (room : length (search_listing (asked text pattern s)) ≤ length old) where
    room_front : 0 + length (search_listing (asked text pattern s)) ≤ length old
    room_front = omega (arith, room)

    -- the windows find room
    pub windows_room : length (window_bytes text pattern s) ≤ length old
    windows_room =
        omega (
          arith,
          first_room old 0 (window_bytes text pattern s) (last_bytes) _ closing
              room_front,
        )

    module _ (new : List ℕ) (at : ℕ) (a : at ≡ length (window_bytes text pattern s))
        (n : new ≡ written old 0 (window_bytes text pattern s)) where
      at_front : at ≡ 0 + length (window_bytes text pattern s)
      at_front = omega (arith, a)

      -- so does the closing
      pub closing_room : at + 5 ≤ length new
      closing_room =
          second_room old 0 (window_bytes text pattern s) (last_bytes) _ closing room_front new at n
          at_front

      -- and then the listing is whole
      pub listing_whole : (last : List ℕ) → last ≡ written new at (last_bytes)
          → last ≡ over_front (search_listing (asked text pattern s)) old
      listing_whole last e =
          (both-written old 0 (window_bytes text pattern s) (last_bytes) _ closing room_front new at
          n at_front last (at + 5) e refl).1
          ∙ written_front old (search_listing (asked text pattern s))
