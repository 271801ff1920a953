-- Lines written at the start of a buffer: its first bytes are the lines.
-- Assumes nothing.
use Rattle.std.specs.Prelude.{◌≡◌, List, ℕ, ◌+◌, ◌*◌, ◌≤◌, length, take}
use Rattle.std.proofs.Common.{ap, arith}
use Rattle.std.proofs.Math.Seq.{take-append_seam}
use Rattle.theory.specs.Written.{written, length-written}
use Rattle.listing.specs.Entries.{bytes_all}
use Rattle.listing.specs.declared.records.Record.{Record}
use Rattle.printing.specs.Lines.{lines_of, refusal_line, Recorded, Printed}
use Rattle.printing.specs.Lines.Writing.{lines_length, refusal_length}

-- the first n bytes of a buffer are these
pub record Begins (n : ℕ) (bytes xs : List ℕ) : Type 0 where
  pub inside : n ≤ length bytes
  pub first : take n bytes ≡ xs

-- the first n bytes of a buffer are the lines of a listing's records
pub record BeginsWithLines (listing : List ℕ) (n : ℕ) (bytes : List ℕ) : Type 0 where
  pub inside : n ≤ length bytes
  pub lines_are : (records : List Record) → listing ≡ bytes_all records → take n bytes ≡ lines_of records

front : (old xs : List ℕ) → take (length xs) (written old 0 xs) ≡ xs
unfolding written
front old xs = take-append_seam xs _

-- what is written at the start is what the buffer begins with
written_front : (old new xs : List ℕ) (n : ℕ) → length xs ≤ length old → n ≡ 0 + length xs → new ≡ written old 0 xs
    → Begins n new xs
written_front old new xs n room n_is new_is =
    let e : n ≡ length xs = omega arith in
    record {
      inside = omega (arith, room, ap length new_is, length-written old 0 xs (omega arith));
      first = rw (e, new_is) (front old xs);
    }

-- a refusal's line, where the number written is the refusal's
pub refusal_front : (old new : List ℕ) (number why n : ℕ) → 12 ≤ length old → number ≡ why
    → n ≡ 0 + length (refusal_line number) → new ≡ written old 0 (refusal_line number)
    → Begins n new (refusal_line why)
refusal_front old new number why n room e n_is new_is =
    rw (← e) (written_front old new (refusal_line number) n (omega (arith, refusal_length number)) n_is new_is)

-- a listing's lines
pub lines_front : (listing old new : List ℕ) (n : ℕ) → Recorded listing → 4 * length listing ≤ length old
    → Printed listing old 0 new n → BeginsWithLines listing n new
lines_front listing old new n some room p =
    record {
      inside = (begins some.records some.bytes_are).inside;
      lines_are = λ records e. (begins records e).first;
    }
  where
    begins : (records : List Record) → listing ≡ bytes_all records → Begins n new (lines_of records)
    begins records e =
        written_front old new (lines_of records) n (omega (arith, room, lines_length records, ap length e))
        (p.end_is records e) (p.output_is records e)
