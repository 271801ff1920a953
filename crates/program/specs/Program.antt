-- Document 01's program: by what number an input is refused, and what is printed.
-- 'Output: a record a line, its bytes in decimal with one space between, line feed. A refusal prints the word refused,
-- one space and the number, alone on a line. Its listing buffer has 65,536 bytes.'
-- Assumes nothing.
pub mod Accepted
pub mod Searched
use Rattle.std.specs.Prelude.{List, ℕ}
use Rattle.listing.specs.declared.records.Record.{Record}
use Rattle.entries.specs.Listing.{search_records}
use Rattle.refusals.specs.Said.{Said, accepts, refuses, ◌then◌}
use Rattle.flags.specs.Flags.{rooms}
use Rattle.searched.specs.Search.{search_said}
use Rattle.printing.specs.Lines.{lines_of, refusal_line}
use Rattle.input.specs.Input.{question_in, input_said}

-- ---- what is said of an input

-- the search's own, with the program's buffers: 16,384 links, counts and flags, and 65,536 bytes of listing
unfoldable pub own_said : List ℕ → Said
own_said input = search_said (question_in input) (rooms 16384 16384 16384) 65536

-- 'program 1, 2, 8, 3, 4, then the search's own'
unfoldable pub program_said : List ℕ → Said
program_said input = input_said input then own_said input

-- ---- the output

-- the records of the search
unfoldable pub records_for : List ℕ → List Record
records_for input = search_records (question_in input)

-- a record a line where it is accepted, and else the refusal
abbrev pub output_by : Said → List Record → List ℕ
output_by (accepts values) records = lines_of records
output_by (refuses number values) records = refusal_line number

-- what the program prints for an input
unfoldable pub output_of : List ℕ → List ℕ
output_of input = output_by (program_said input) (records_for input)
