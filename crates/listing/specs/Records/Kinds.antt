-- Kinds and their sizes: of each kind's byte, and of a byte that no kind has.
-- Assumes nothing.
use Rattle.std.specs.Prelude.{◌≡◌, refl, ℕ, length, get_or}
use Rattle.std.proofs.Common.{ne_eqb}
use Rattle.listing.specs.Records.{bytes_of, kind_byte, kind_of, kind_size, size_of_kind}
use Rattle.listing.specs.declared.records.Side.TheVariants.{Pattern, Window}
use Rattle.listing.specs.declared.records.Kind.{Kind}
use Rattle.listing.specs.declared.records.Kind.TheVariants.{Found as FoundKind, Pair as PairKind}
use Rattle.listing.specs.declared.records.Kind.TheVariants.{Mismatch as MismatchKind, Closing as ClosingKind}
use Rattle.listing.specs.declared.records.Record.{Record}
use Rattle.listing.specs.declared.records.Record.TheVariants.{Found, Pair, Mismatch, Closing}

-- a kind's byte has the kind's size
pub size_known : (kind : Kind) → kind_size (kind_byte kind) ≡ size_of_kind kind
unfolding kind_size
size_known FoundKind = refl
size_known PairKind = refl
size_known (MismatchKind Pattern) = refl
size_known (MismatchKind Window) = refl
size_known ClosingKind = refl

-- a byte of no kind has none
pub size_unknown : (byte : ℕ) → (byte ≡ 1 → ⊥) → (byte ≡ 2 → ⊥) → (byte ≡ 3 → ⊥) → (byte ≡ 4 → ⊥) → (byte ≡ 5 → ⊥)
    → kind_size byte ≡ 0
unfolding kind_size
size_unknown byte a b c d e = rw (ne_eqb byte 1 a, ne_eqb byte 2 b, ne_eqb byte 3 c, ne_eqb byte 4 d, ne_eqb byte 5 e)

-- a record begins with its kind's byte, and is as long as the kind says
pub first_is : (r : Record) → get_or (bytes_of r) 0 0 ≡ kind_byte (kind_of r)
first_is (Found row column) = refl
first_is (Pair pattern text) = refl
first_is (Mismatch Pattern body) = refl
first_is (Mismatch Window body) = refl
first_is (Closing found refused) = refl

pub length_is : (r : Record) → length (bytes_of r) ≡ size_of_kind (kind_of r)
length_is (Found row column) = refl
length_is (Pair pattern text) = refl
length_is (Mismatch Pattern body) = refl
length_is (Mismatch Window body) = refl
length_is (Closing found refused) = refl
