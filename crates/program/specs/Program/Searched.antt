-- The program's output after its search (`Ran`): where the search answers a listing, its records' lines are the output
-- (`listed_output`); where it refuses, its refusal is the program's (`refused_output`). Why it holds: an input that is
-- right passes the program's own refusals, so that the search's answer decides.
-- Assumes nothing.
use Rattle.std.specs.Prelude.{Result, Err, ⊤, ◌≡◌, refl, List, [], ◌∷◌, ℕ, ◌+◌, ◌-◌, ◌*◌, ◌≤◌, ◌<◌, length, get_or, take, drop}
use Rattle.std.proofs.Math.Path.{sym, ap, ap₂}
use Rattle.std.proofs.Common.{◌∙◌, arith, length-take, length-drop, take_all, length-take-le}
use Rattle.std.proofs.Math.Nat.{add-sub_cancel_left}
use Rattle.io.specs.Counts.{IsPrefixLen}
use Rattle.refusals.specs.Refusals.{number_of, values_of}
use Rattle.refusals.specs.declared.refusals.Refusal.{Refusal}
use Rattle.listing.specs.Entries.{bytes_all}
use Rattle.refusals.specs.Said.{accepts, outcome_said}
use Rattle.shapes.specs.Questions.{ask}
use Rattle.flags.specs.Flags.{Rooms, rooms, rooms_of}
use Rattle.searched.specs.Search.{totalling, Searched, Lent, Done, done, searched_said, search_said, search_of}
use Rattle.searched.specs.Search.Accepted.{said_is}
use Rattle.searched.specs.Search.Outcome.{listed_fits, listed_bytes, listed_inside}
use Rattle.printing.specs.Lines.{refusal_line, Recorded}
use Rattle.printing.specs.Lines.Front.{Begins, BeginsWithLines}
use Rattle.input.specs.Input.{rows_in, columns_in, height_in, width_in, text_in, pattern_in, question_in, input_said}
use Rattle.input.specs.Input.{RightInput}
use Rattle.program.specs.Program.{own_said, program_said, records_for, output_of}
use Rattle.program.specs.Program.Accepted.{program_own}
use Rattle.program.specs.Theorems.{output_refused, output_listed, pattern_bytes}

-- the output's bytes are counted
pub counted : (n : ℕ) (bytes xs : List ℕ) → Begins n bytes xs → IsPrefixLen n bytes × (take n bytes ≡ xs)
counted n bytes xs b = ((b.inside, sym (length-take-le n bytes b.inside)), b.first)

-- refused before it is searched
pub refused_before : (input : List ℕ) (o : Result ⊤ Refusal) (why : Refusal) → o ≡ Err why
    → outcome_said o ≡ input_said input
    → (n : ℕ) (bytes : List ℕ) → Begins n bytes (refusal_line (number_of why)) → Begins n bytes (output_of input)
unfolding program_said
refused_before input o why o_is e n bytes b = rw (output_refused input (number_of why) (values_of why) (rw (← e, o_is))) b

-- the search has run on an input, with the program's buffers: what it answered, and the listing buffer afterwards
pub record Ran (input : List ℕ) (a : Searched) (after : List ℕ) : Type 0 where
  right : RightInput input
  bytes : (k : ℕ) → get_or input k 0 < 256
  before : Lent
  left : Lent
  rooms_are : rooms_of before.work ≡ rooms 16384 16384 16384
  listing_long : 65536 ≡ length before.listing
  answered : done a left ≡ search_of (question_in input) before
  after_is : after ≡ left.listing

-- text and pattern are parts of the input
text_part_lem : (input : List ℕ) → take (4 + rows_in input * columns_in input - 4) (drop 4 input) ≡ text_in input
unfolding text_in
text_part_lem input = rw (add-sub_cancel_left 4 (rows_in input * columns_in input))

pattern_part_lem : (input : List ℕ) → take (length input - (4 + rows_in input * columns_in input))
    (drop (4 + rows_in input * columns_in input) input) ≡ pattern_in input
unfolding pattern_in
pattern_part_lem input =
    take_all (length input - (4 + rows_in input * columns_in input)) (drop (4 + rows_in input * columns_in input) input)
    (omega (arith, length-drop (4 + rows_in input * columns_in input) input))

-- what the code hands to the search and gets from it
module _ (input : List ℕ) where
  abbrev text_part : List ℕ
  text_part = take (4 + rows_in input * columns_in input - 4) (drop 4 input)

  abbrev pattern_part : List ℕ
  pattern_part =
      take (length input - (4 + rows_in input * columns_in input)) (drop (4 + rows_in input * columns_in input) input)

  pub ran : (before left : Lent) (a : Searched) → RightInput input → ((k : ℕ) → get_or input k 0 < 256)
      → 16384 ≡ length before.work.links → 16384 ≡ length before.work.counts
      → 16384 ≡ length before.work.flags → 65536 ≡ length before.listing
      → done a left ≡ search_of (ask text_part (rows_in input) (columns_in input) pattern_part (height_in input)
      (width_in input)) before
      → Ran input a left.listing
  ran before left a right bytes l c f long answered =
      record {
        right = right;
        bytes = bytes;
        before = before;
        left = left;
        rooms_are = rw (← l, ← c, ← f);
        listing_long = long;
        answered = rw (text_part_lem input, pattern_part_lem input) at answered;
        after_is = refl;
      }

module _ {input : List ℕ} {a : Searched} {after : List ℕ} (r : Ran input a after) where
  -- an input that is right has the search's answer
  said_own : program_said input ≡ searched_said a
  unfolding own_said
  said_own =
      let same : search_said (question_in input) (rooms 16384 16384 16384) 65536 ≡ searched_said a =
      ap₂ (λ (x : Rooms) (n : ℕ). search_said (question_in input) x n) (sym r.rooms_are) r.listing_long
      ∙ sym (said_is (question_in input) r.before) ∙ ap (λ (d : Done). d.said) (sym r.answered) in
      program_own input r.right ∙ same

  -- refused
  pub refused_output : (why : Refusal) → a ≡ Err why → (n : ℕ) (bytes : List ℕ)
      → Begins n bytes (refusal_line (number_of why)) → Begins n bytes (output_of input)
  refused_output why q_is n bytes b =
      rw (output_refused input (number_of why) (values_of why) (said_own ∙ ap searched_said q_is)) b

  -- listed
  module _ (found refused size : ℕ) (q_is : a ≡ totalling found refused size) where
    accepted : program_said input ≡ accepts (found ∷ refused ∷ size ∷ [])
    accepted = said_own ∙ ap searched_said q_is

    listing_is_records : take size after ≡ bytes_all (records_for input)
    unfolding records_for
    listing_is_records =
        rw r.after_is (listed_bytes (question_in input) r.before r.left a found refused size q_is r.answered
        (pattern_bytes input r.bytes))

    -- the listing lies in the buffer
    pub size_inside : size ≤ length after
    size_inside =
        rw r.after_is (listed_inside (question_in input) r.before r.left a found refused size q_is r.answered
        (pattern_bytes input r.bytes))

    -- its bytes are those of records, and few enough to be printed
    pub printable : Recorded (take size after) × (length (take size after) ≤ 65536)
    printable = (
      record { records = records_for input; bytes_are = listing_is_records },
      omega (
        arith,
        length-take size after,
        r.listing_long,
        listed_fits (question_in input) r.before r.left a found refused size q_is r.answered,
      ),
    )

    -- and their lines are the output
    pub listed_output : (n : ℕ) (bytes : List ℕ) → BeginsWithLines (take size after) n bytes
        → Begins n bytes (output_of input)
    listed_output n bytes b =
        record {
          inside = b.inside;
          first = b.lines_are (records_for input) listing_is_records
              ∙ sym (output_listed input (found ∷ refused ∷ size ∷ []) accepted);
        }
