-- `window::check_pair` meets its contract: each way out is a law of the pair (`pair_refused`, `pair_other_kind`,
-- `pair_other`, `pair_given`, `pair_unlike`, `pair_right`), whatever symbols were given before.
-- Assumes nothing.
use Rattle.std.proofs.Common.{◌≡◌, ℕ, get_or, refl, arith}
use Rattle.listing.specs.Records.{bytes_of}
use Rattle.listing.specs.declared.records.Side.TheVariants.{Pattern, Window}
use Rattle.listing.specs.declared.records.Record.{Record}
use Rattle.listing.specs.declared.records.Record.TheVariants.{Found, Pair, Mismatch, Closing}
use Rattle.pairs.specs.Pairs.Reading.{pair_refused, pair_other_kind, pair_other, pair_given, pair_unlike, pair_right}
use Rattle.found.proofs.window.check_pair.Goals as goal

-- a record that is no pair is of another kind
other_kind : (r : Record) → ((x y : ℕ) → r ≡ Pair x y → ⊥) → get_or (bytes_of r) 0 0 ≡ 2 → ⊥
other_kind (Found row column) k e = omega arith
other_kind (Pair x y) k e = k x y refl
other_kind (Mismatch Pattern body) k e = omega arith
other_kind (Mismatch Window body) k e = omega arith
other_kind (Closing found refused) k e = omega arith

pub returns-in_default : goal.returns-in_default
returns-in_default c = λ before h. pair_refused _ _ _ _ _ _ _ _ _ h _ _ c.read_first.ensures c.in_default.is

pub returns-in_default-item : goal.returns-in_default-item
returns-in_default-item c =
    λ before h. pair_other_kind _ _ _ _ _ _ _ _ _ h _ _ _ c.read_first.ensures c.in-Ok.is
    (other_kind c.in-Ok.item c.in_default-item.not-Pair)

pub returns-then-x-a : goal.returns-then-x-a
returns-then-x-a c =
    λ before h. pair_other _ _ _ _ _ _ _ _ _ h _ _ _ _ _ c.read_first.ensures c.in-Ok.is c.in-Pair.is c.if-x-a.true

pub returns-then-given-place : goal.returns-then-given-place
returns-then-given-place c =
    λ before h. pair_given _ _ _ _ _ _ _ _ _ h _ _ _ _ _ c.read_first.ensures c.in-Ok.is c.in-Pair.is (omega arith)
    (rw c.from-place.ensures at c.if-given-place.true)

pub returns-then-not-has_image : goal.returns-then-not-has_image
returns-then-not-has_image c =
    λ before h. pair_unlike _ _ _ _ _ _ _ _ _ h _ _ _ _ _ c.read_first.ensures c.in-Ok.is c.in-Pair.is _
    c.has_image.ensures c.if-not-has_image.true

pub returns : goal.returns
returns c =
    λ before h. rw c.from-place.ensures (pair_right _ _ _ _ _ _ _ _ _ h _ _ _ _ _ c.read_first.ensures c.in-Ok.is
    c.in-Pair.is c.if-x-a.false (omega arith) (rw c.from-place.ensures at c.if-given-place.false) _
    c.has_image.ensures c.if-not-has_image.false)
