-- Where the program itself refuses nothing, the search's own refusals decide: its buffers are long enough for every
-- input, so that of those 11 alone can occur.
-- Assumes nothing.
use Rattle.std.specs.Prelude.{◌≡◌, List, [], ◌∷◌, ℕ, ◌+◌, ◌-◌, ◌≤◌, ◌<◌}
use Rattle.std.proofs.Common.{arith}
use Rattle.refusals.specs.Said.{accepts, refuses}
use Rattle.refusals.specs.Said.Laws.{then_both}
use Rattle.shapes.specs.Shapes.{corners, windows}
use Rattle.shapes.specs.Shapes.Laws.{product_le}
use Rattle.flags.specs.Flags.{rooms, RoomFor}
use Rattle.entries.specs.Listing.{found_in, refused_in, needed_length}
use Rattle.searched.specs.Search.{search_said}
use Rattle.searched.specs.Search.Accepted.{search_accepted, search_short, search_passed}
use Rattle.input.specs.Input.Accepted.{text_length, pattern_length, input_passes, input_passed}
use Rattle.input.specs.Input.{rows_in, columns_in, height_in, width_in, question_in, input_said, RightInput}
use Rattle.program.specs.Program.{own_said, program_said}

module _ (input : List ℕ) (r : RightInput input) where
  -- links, counts and flags of 16,384 entries are long enough, so that 9 and 10 are never given
  pub buffers_long : RoomFor (question_in input) (rooms 16384 16384 16384)
  buffers_long =
      let s = r.sized in
      let down : rows_in input + 1 - height_in input ≤ rows_in input = omega (arith, s.sides.height_good.positive) in
      let across : columns_in input + 1 - width_in input ≤ columns_in input = omega (arith, s.sides.width_good.positive)
      in
      let few : windows (rows_in input) (columns_in input) (height_in input) (width_in input) ≤ 16384 =
      omega (
        arith,
        r.text_few,
        product_le (corners (rows_in input) (height_in input))
            (corners (columns_in input) (width_in input)) (rows_in input) (columns_in input) down across,
      ) in
      record {
        shape = record { sized = s; cells_is = text_length input r };
        size = pattern_length input r;
        links_room =
            omega (
              arith,
              r.text_few,
              product_le (rows_in input) (width_in input) (rows_in input) (columns_in input)
                  (omega arith) s.fitting.width_le,
            );
        counts_room = few;
        flags_room = few;
      }

  -- the length of the listing
  abbrev pub needed : ℕ
  needed = needed_length (question_in input)

  pub own_accepted : needed ≤ 65536 → own_said input
      ≡ accepts (found_in (question_in input) ∷ refused_in (question_in input) ∷ needed ∷ [])
  unfolding own_said
  own_accepted h = search_accepted (question_in input) (rooms 16384 16384 16384) 65536 buffers_long h

  pub own_short : 65536 < needed → own_said input ≡ refuses 11 (needed ∷ [])
  unfolding own_said
  own_short h = search_short (question_in input) (rooms 16384 16384 16384) 65536 buffers_long h

  -- then the search's own decides
  pub program_own : program_said input ≡ own_said input
  unfolding program_said
  program_own = rw (input_passes input r)

-- an input that is accepted is right, and its listing has room
pub program_passed : (input : List ℕ) (values : List ℕ) → program_said input ≡ accepts values
    → RightInput input × (needed_length (question_in input) ≤ 65536)
unfolding program_said own_said
program_passed input values e =
    let a = then_both (input_said input) (search_said (question_in input) (rooms 16384 16384 16384) 65536) values e in (
      input_passed input a.0.0 a.0.1,
      (search_passed (question_in input) (rooms 16384 16384 16384) 65536 values
          a.1).1,
    )
