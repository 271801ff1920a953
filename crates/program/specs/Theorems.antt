-- What the program's number and output say, for a reader of document 01: which numbers there are (`numbers`), that of
-- the search's own only 11 can be met (`own_numbers`), that reading 32,773 bytes is enough (`enough_read`), and how
-- long the output can be (`output_length`). Why it holds: links, counts and flags have an entry for each cell of the
-- largest text, so that the search has nothing to refuse but a long listing. The longest input that can be right has 4
-- + 2 × 16,384 bytes; a longer one has too many cells whatever else stands in it, so that its sizes alone decide. A
-- byte of a listing takes at most four bytes of output.
-- Assumes nothing.
use Rattle.std.specs.Prelude.{◌≡◌, refl, Bool, true, false, List, [], ◌∷◌, ◌⊎◌, ℕ, ◌+◌, ◌*◌, ◌≤◌, ◌<◌, leb, length, get_or, take}
use Rattle.std.proofs.Common.{sym, ◌∙◌, ap, subst, inl, inr, arith, length-take-le, take_all, get_or-take, get_or-drop, le-leb}
use Rattle.theory.specs.Test.{Tested, holds, fails}
use Rattle.theory.specs.Test.Laws.{le_tested}
use Rattle.theory.specs.Count.{Entry}
use Rattle.shapes.specs.Questions.Laws.{sides_numbered, cells_numbered, size_numbered}
use Rattle.refusals.specs.Said.Laws.{Numbered, passing, refusing, check_numbered}
use Rattle.refusals.specs.Said.{Said, accepts, refuses, ◌then◌, check, said_number}
use Rattle.shapes.specs.Questions.{sides_of, sides_said, cells_said, size_said}
use Rattle.shapes.specs.declared.shapes.Shape.{Shape}
use Rattle.listing.specs.declared.records.Record.{Record}
use Rattle.listing.specs.Entries.{bytes_all}
use Rattle.entries.specs.Listing.{search_listing, needed_length}
use Rattle.entries.specs.Listing.Length.{length_listing}
use Rattle.printing.specs.Lines.{lines_of, refusal_line}
use Rattle.printing.specs.Lines.Writing.{lines_length, refusal_length}
use Rattle.input.specs.Input.{question_in, rows_in, columns_in, height_in, width_in, pattern_in, few_cells_test, input_said}
use Rattle.input.specs.Input.{RightInput}
use Rattle.program.specs.Program.{own_said, program_said, records_for, output_by, output_of}
use Rattle.program.specs.Program.Accepted.{needed, own_accepted, own_short, program_passed}
use Rattle.input.specs.Input.Accepted.{few_tested, cells_wrong, input_passed}

-- ---- which numbers there are

-- where the program itself refuses nothing, the search has only 11 to give
pub own_numbers : (input : List ℕ) → RightInput input
    → (said_number (own_said input) ≡ 0) ⊎ (said_number (own_said input) ≡ 11)
own_numbers input r = go (le_tested (needed input r) 65536)
  where
    go : {b : Bool} → Tested (needed input r ≤ 65536) b
        → (said_number (own_said input) ≡ 0) ⊎ (said_number (own_said input) ≡ 11)
    go (holds h) = inl (ap said_number (own_accepted input r h))
    go (fails h) = inr (ap said_number (own_short input r (omega arith)))

-- the numbers that document 01's order names, and no other
abbrev pub program_numbers : List ℕ
program_numbers = 0 ∷ 1 ∷ 2 ∷ 8 ∷ 3 ∷ 4 ∷ 11 ∷ []

-- a chain of checks gives the number of one of them, or accepts
input_numbers : {a b c d e : Said} → Numbered 1 a → Numbered 2 b → Numbered 8 c → Numbered 3 d → Numbered 4 e
    → Entry program_numbers (said_number (a then b then c then d then e))
input_numbers passing passing passing passing passing = (0, omega arith, refl)
input_numbers passing passing passing passing refusing = (5, omega arith, refl)
input_numbers passing passing passing refusing e = (4, omega arith, refl)
input_numbers passing passing refusing d e = (3, omega arith, refl)
input_numbers passing refusing c d e = (2, omega arith, refl)
input_numbers refusing b c d e = (1, omega arith, refl)

before_search : (input : List ℕ) → Entry program_numbers (said_number (input_said input))
unfolding input_said
before_search input =
    input_numbers (check_numbered (leb 4 (length input)) 1) (sides_numbered (sides_of (question_in input)))
    (check_numbered (few_cells_test (rows_in input * columns_in input) (height_in input * width_in input)) 8)
    (cells_numbered (question_in input)) (size_numbered (sides_of (question_in input)))

pub numbers : (input : List ℕ) → Entry program_numbers (said_number (program_said input))
unfolding program_said
numbers input = go (input_said input) refl
  where
    own : (said_number (own_said input) ≡ 0) ⊎ (said_number (own_said input) ≡ 11)
        → Entry program_numbers (said_number (own_said input))
    own (inl e) = (0, omega arith, sym e)
    own (inr e) = (6, omega arith, sym e)

    go : (a : Said) → input_said input ≡ a → Entry program_numbers (said_number (a then own_said input))
    go (accepts values) d = own (own_numbers input (input_passed input values d))
    go (refuses number values) d = subst (λ (a : Said). Entry program_numbers (said_number a)) d (before_search input)

-- ---- the output

-- a refused input prints its number
pub output_refused : (input : List ℕ) (number : ℕ) (values : List ℕ) → program_said input ≡ refuses number values
    → output_of input ≡ refusal_line number
unfolding output_of
output_refused input number values e = rw e

-- an accepted one a record a line
pub output_listed : (input : List ℕ) (values : List ℕ) → program_said input ≡ accepts values
    → output_of input ≡ lines_of (records_for input)
unfolding output_of
output_listed input values e = rw e

-- ---- how much is read

-- an input longer than any that can be right: its sizes decide
abbrev long_said : Shape → Said
long_said s = sides_said s then check (few_cells_test (s.rows * s.columns) (s.height * s.width)) 8 then refuses 3 []

long_said_lem : (input : List ℕ) → 32773 ≤ length input → program_said input ≡ long_said (sides_of (question_in input))
unfolding program_said input_said
long_said_lem input h = rw (le-leb 4 (length input) long) (go (sides_said (sides_of (question_in input))) (few_tested input))
  where
    long : 4 ≤ length input
    long = omega arith

    go : (a : Said) {b : Bool} → Tested ((rows_in input * columns_in input ≤ 16384)
        × (height_in input * width_in input ≤ 16384)) b
        → (a then check b 8 then cells_said (question_in input) then size_said (sides_of (question_in input))) then own_said
        input ≡ a then check b 8 then refuses 3 []
    go (accepts values) (holds k) =
        let over : length input ≡ 4 + rows_in input * columns_in input + height_in input * width_in input
        → ⊥ = λ e. omega (arith, k.0, k.1, e) in
        rw (cells_wrong input long over)
    go (accepts values) (fails n) = refl
    go (refuses number values) t = refl

-- its output by its sizes alone
long_refused : (a : Said) (b : Bool) (records : List Record)
    → output_by (a then check b 8 then refuses 3 []) records ≡ output_by (a then check b 8 then refuses 3 []) []
long_refused (accepts values) true records = refl
long_refused (accepts values) false records = refl
long_refused (refuses number values) b records = refl

long_output : (input : List ℕ) → 32773 ≤ length input
    → output_of input ≡ output_by (long_said (sides_of (question_in input))) []
unfolding output_of
long_output input h =
    ap (λ (a : Said). output_by a (records_for input)) (long_said_lem input h)
    ∙ long_refused (sides_said (sides_of (question_in input)))
    (few_cells_test (rows_in input * columns_in input) (height_in input * width_in input)) (records_for input)

-- what stands behind n bytes does not change what is printed, where n is no less than 32,773
read_enough : (n : ℕ) → 32773 ≤ n → (input : List ℕ) → output_of (take n input) ≡ output_of input
read_enough n h input = go (le_tested n (length input))
  where
    go : {b : Bool} → Tested (n ≤ length input) b → output_of (take n input) ≡ output_of input
    go (holds k) =
        long_output (take n input) (omega (arith, length-take-le n input k))
        ∙ rw (
          get_or-take n input 0 0 (omega arith),
          get_or-take n input 1 0 (omega arith),
          get_or-take n input 2 0
              (omega arith),
          get_or-take n input 3 0 (omega arith),
        )
        (sym (long_output input (omega arith)))
    go (fails k) = ap output_of (take_all n input (omega arith))

-- so a buffer of 32,773 bytes is long enough
pub long_enough : (buffer : List ℕ) → 32773 ≡ length buffer
    → (32773 ≡ length buffer) × ((input : List ℕ) → output_of (take (length buffer) input) ≡ output_of input)
long_enough buffer e = (e, read_enough (length buffer) (omega arith))

-- and reading 32,773 bytes is enough
pub enough_read : (input : List ℕ) → output_of (take 32773 input) ≡ output_of input
enough_read input = read_enough 32773 (omega arith) input

-- ---- how much is written

-- the pattern of an input of bytes is bytes
pub pattern_bytes : (input : List ℕ) → ((k : ℕ) → get_or input k 0 < 256) → (k : ℕ) → get_or (pattern_in input) k 0 < 256
unfolding pattern_in
pattern_bytes input bytes k =
    rw (get_or-drop (4 + rows_in input * columns_in input) input k 0) (bytes (4 + rows_in input * columns_in input + k))

-- the bytes of the records are the search's listing, as long as document 01 says
pub records_bytes : (input : List ℕ) → search_listing (question_in input) ≡ bytes_all (records_for input)
unfolding search_listing records_for
records_bytes input = refl

-- four bytes of output for each of 65,536 bytes of listing
pub output_length : (input : List ℕ) → ((k : ℕ) → get_or input k 0 < 256) → length (output_of input) ≤ 262144
output_length input bytes = go (program_said input) refl
  where
    go : (a : Said) → program_said input ≡ a → length (output_of input) ≤ 262144
    go (accepts values) z =
        let fits : needed_length (question_in input) ≤ 65536 = (program_passed input values z).1 in
        let long = length_listing (question_in input) (pattern_bytes input bytes) in
        omega (
          arith,
          fits,
          long,
          ap length (records_bytes input),
          lines_length (records_for input),
          ap length
              (output_listed input values z),
        )
    go (refuses number values) z =
        omega (arith, refusal_length number, ap length (output_refused input number values z))
