-- Document 01's first draft through the program: the fourteen bytes of its input give the five lines that document 01
-- prints (`first_printed`). Why it holds: the draft's listing is computed in guarantee (`starred_drafts`), it holds the
-- bytes of one list of records only, and the lines of records that are written out compute.
-- Assumes nothing.
use Rattle.std.specs.Prelude.{◌≡◌, refl, List, [], ◌∷◌, ◌++◌, ℕ, ◌≤◌}
use Rattle.std.proofs.Common.{sym, ◌∙◌, ap, arith}
use Rattle.shapes.specs.Shapes.{Side}
use Rattle.listing.specs.Entries.{bytes_all}
use Rattle.listing.specs.declared.records.Record.{Record}
use Rattle.listing.specs.declared.records.Record.TheVariants.{Found, Pair, Mismatch, Closing}
use Rattle.listing.specs.declared.records.Side.TheVariants.{Pattern}
use Rattle.refusals.specs.Said.{accepts}
use Rattle.entries.specs.Listing.{found_in, refused_in, needed_length}
use Rattle.guarantee.specs.Drafts.{starred_drafts}
use Rattle.printing.specs.Decimal.{decimal}
use Rattle.printing.specs.Lines.{line_of, lines_of}
use Rattle.printing.specs.Lines.Unique.{records_injective}
use Rattle.program.specs.Program.{program_said, records_for, output_of}
use Rattle.input.specs.Input.{text_in, pattern_in, question_in, RightInput}
use Rattle.program.specs.Program.Accepted.{program_own, own_accepted}
use Rattle.program.specs.Theorems.{output_listed, records_bytes}

-- 2 3 2 2, sheet 7 7 3 / 3 7 7, motif 1 1 / 2 1
abbrev pub first_input : List ℕ
first_input = 2 ∷ 3 ∷ 2 ∷ 2 ∷ 7 ∷ 7 ∷ 3 ∷ 3 ∷ 7 ∷ 7 ∷ 1 ∷ 1 ∷ 2 ∷ 1 ∷ []

side : (n : ℕ) → 1 ≤ n → n ≤ 255 → Side n
side n h k = record { positive = h; small = k }

first_right : RightInput first_input
first_right =
    record {
      sized = record {
        sides = record {
          rows_good = side 2 (omega arith) (omega arith);
          columns_good = side 3 (omega arith) (omega arith);
          height_good = side 2 (omega arith) (omega arith);
          width_good = side 2 (omega arith) (omega arith);
        };
        fitting = record { height_le = omega arith; width_le = omega arith };
      };
      text_few = omega arith;
      pattern_few = omega arith;
      length_is = refl;
    }

first_accepted : program_said first_input ≡ accepts
    (found_in (question_in first_input) ∷ refused_in (question_in first_input) ∷ needed_length (question_in first_input) ∷ [])
unfolding text_in pattern_in
first_accepted =
    program_own first_input first_right ∙ own_accepted first_input first_right (omega (arith, starred_drafts.needs_21))

-- its records
first_records : List Record
first_records =
    Found 0 0 ∷ Pair 1 7 ∷ Pair 2 3
    ∷ Mismatch Pattern (record {
      window = record { row = 0; column = 1 };
      earlier = record { row = 0; column = 0 };
      later = record { row = 0; column = 1 };
    })
    ∷ Closing 1 1 ∷ []

first_records_lem : records_for first_input ≡ first_records
unfolding text_in pattern_in first_records bytes_all
first_records_lem =
    records_injective (records_for first_input) first_records
    (sym (records_bytes first_input) ∙ starred_drafts.two_windows.listing_is)

-- 'Output in full: `1 0 0`, `2 1 7`, `2 2 3`, `3 0 1 0 0 0 1`, `5 0 1 0 1`', each with its line feed: 48 is the digit
-- 0, 32 the space, 10 the line feed
pub first_printed : output_of first_input
    ≡ (49 ∷ 32 ∷ 48 ∷ 32 ∷ 48 ∷ 10 ∷ []) ++ (50 ∷ 32 ∷ 49 ∷ 32 ∷ 55 ∷ 10 ∷ []) ++ (50 ∷ 32 ∷ 50 ∷ 32 ∷ 51 ∷ 10 ∷ [])
    ++ (51 ∷ 32 ∷ 48 ∷ 32 ∷ 49 ∷ 32 ∷ 48 ∷ 32 ∷ 48 ∷ 32 ∷ 48 ∷ 32 ∷ 49 ∷ 10 ∷ [])
    ++ (53 ∷ 32 ∷ 48 ∷ 32 ∷ 49 ∷ 32 ∷ 48 ∷ 32 ∷ 49 ∷ 10 ∷ [])
unfolding first_records lines_of line_of decimal
first_printed = output_listed first_input _ first_accepted ∙ ap lines_of first_records_lem
