-- Document 01's records: the bytes of each, and the record that bytes are. Reader and writer share the first, and what
-- the check accepts is said with it.
-- Assumes nothing.
pub mod Kinds
pub mod Lengths
use Rattle.std.specs.Prelude.{◌≡◌, List, [], ◌∷◌, ℕ, ◌+◌, ◌*◌, ◌/◌, ◌%◌, eqb, get_or, Result, MatchResult}
use Rattle.theory.specs.Test.{pick}
use Rattle.listing.specs.declared.records.MismatchBody.{MismatchBody}
use Rattle.listing.specs.declared.records.Side.TheVariants.{Pattern, Window}
use Rattle.listing.specs.declared.records.Kind.{Kind}
use Rattle.listing.specs.declared.records.Kind.TheVariants.{Found as FoundKind, Pair as PairKind}
use Rattle.listing.specs.declared.records.Kind.TheVariants.{Mismatch as MismatchKind, Closing as ClosingKind}
use Rattle.listing.specs.declared.records.UnknownKind.{UnknownKind}
use Rattle.listing.specs.declared.records.Record.{Record}
use Rattle.listing.specs.declared.records.Record.TheVariants.{Found, Pair, Mismatch, Closing}

-- the body of a mismatch, on either side: the window, the earlier cell, the later cell
abbrev pub mismatch_bytes : MismatchBody → List ℕ
mismatch_bytes b =
    b.window.row ∷ b.window.column ∷ b.earlier.row ∷ b.earlier.column ∷ b.later.row ∷ b.later.column ∷ []

-- one byte of kind, and the body; found and refused are two bytes each, high byte first
abbrev pub bytes_of : Record → List ℕ
bytes_of (Found row column) = 1 ∷ row ∷ column ∷ []
bytes_of (Pair pattern text) = 2 ∷ pattern ∷ text ∷ []
bytes_of (Mismatch Pattern body) = 3 ∷ mismatch_bytes body
bytes_of (Mismatch Window body) = 4 ∷ mismatch_bytes body
bytes_of (Closing found refused) = 5 ∷ (found / 256) ∷ (found % 256) ∷ (refused / 256) ∷ (refused % 256) ∷ []

-- the byte of a kind
abbrev pub kind_byte : Kind → ℕ
kind_byte FoundKind = 1
kind_byte PairKind = 2
kind_byte (MismatchKind Pattern) = 3
kind_byte (MismatchKind Window) = 4
kind_byte ClosingKind = 5

-- the kind of a record
abbrev pub kind_of : Record → Kind
kind_of (Found row column) = FoundKind
kind_of (Pair pattern text) = PairKind
kind_of (Mismatch alike body) = MismatchKind alike
kind_of (Closing found refused) = ClosingKind

-- how many bytes a record of a kind has
abbrev pub size_of_kind : Kind → ℕ
size_of_kind FoundKind = 3
size_of_kind PairKind = 3
size_of_kind (MismatchKind alike) = 7
size_of_kind ClosingKind = 5

-- how long a record of that kind is, 0 where no kind has the number
unfoldable pub kind_size : ℕ → ℕ
kind_size kind =
    pick (eqb kind 1) 3 (pick (eqb kind 2) 3 (pick (eqb kind 3) 7 (pick (eqb kind 4) 7 (pick (eqb kind 5) 5 0))))

-- the kind whose byte it is, or the byte where no kind has it
abbrev pub Decodes : ℕ → Result Kind UnknownKind → Type 0
Decodes byte r = MatchResult r (λ kind. byte ≡ kind_byte kind) (λ e. (e.0 ≡ byte) × (kind_size byte ≡ 0))

-- the other way, by a record's bytes: the body of a mismatch
abbrev pub mismatch_body_of : List ℕ → MismatchBody
mismatch_body_of b =
    record {
      window = record { row = get_or b 1 0; column = get_or b 2 0 };
      earlier = record { row = get_or b 3 0; column = get_or b 4 0 };
      later = record { row = get_or b 5 0; column = get_or b 6 0 };
    }

-- and the record: where the bytes are those of a record, it is that one (`record_of`)
unfoldable pub record_from_bytes : List ℕ → Record
record_from_bytes b =
    pick (eqb (get_or b 0 0) 1) (Found (get_or b 1 0) (get_or b 2 0))
    (pick (eqb (get_or b 0 0) 2) (Pair (get_or b 1 0) (get_or b 2 0))
    (pick (eqb (get_or b 0 0) 3) (Mismatch Pattern (mismatch_body_of b))
    (pick (eqb (get_or b 0 0) 4) (Mismatch Window (mismatch_body_of b))
    (Closing (get_or b 1 0 * 256 + get_or b 2 0) (get_or b 3 0 * 256 + get_or b 4 0)))))
