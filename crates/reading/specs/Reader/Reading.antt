-- Laws of the reader: what reading at a place says, and what each of the reader's answers shows. A record is a byte of
-- kind and the bytes behind it, as many as the kind says; so a function that takes these bytes one by one has read the
-- record.
-- Assumes nothing.
use Rattle.std.proofs.Common.{◌≡◌, refl, List, [], ◌∷◌, ℕ, zero, suc, ◌+◌, ◌-◌, ◌*◌, ◌/◌, ◌%◌, ◌≤◌, ◌<◌, get_or, take}
use Rattle.std.proofs.Common.{drop, Err, sym, ◌∙◌, ap, drop-cons, arith, length}
use Rattle.theory.specs.Test.{Tested}
use Rattle.theory.specs.Test.Laws.{tested_iff, lt_tested, le_tested, both_tested, is_true, is_false}
use Rattle.refusals.specs.Said.{accepts, refuses}
use Rattle.refusals.specs.declared.refusals.Refusal.TheVariants.{ListingForm, CursorSpent}
use Rattle.listing.specs.Records.{kind_byte, kind_size, size_of_kind}
use Rattle.listing.specs.Records.Kinds.{size_known}
use Rattle.listing.specs.declared.records.Kind.{Kind}
use Rattle.listing.specs.declared.records.Kind.TheVariants.{Found, Pair, Mismatch, Closing}
use Rattle.reading.specs.Reader.{read_said, size_at, whole_at, whole_values, cursor_said, KindAt, bytes_from}

-- ---- what a place says

-- a whole record stands at a place: a byte of a known kind, and all its bytes are in the listing
pub record HasRecord (listing : List ℕ) (at : ℕ) : Type 0 where
  pub known : 0 < size_at listing at
  pub within : at + size_at listing at ≤ length listing

pub whole_tested : (listing : List ℕ) (at : ℕ) → Tested (HasRecord listing at) (whole_at listing at)
whole_tested listing at =
    tested_iff (λ h. record { known = h.0; within = h.1 }) (λ r. (r.known, r.within))
    (both_tested (lt_tested 0 (size_at listing at)) (le_tested (at + size_at listing at) (length listing)))

module _ (listing : List ℕ) (at : ℕ) where
  -- at or past the end: 15
  said_spent : length listing ≤ at → cursor_said listing at ≡ refuses 15 (at ∷ [])
  unfolding cursor_said
  said_spent h = let over : at < length listing → ⊥ = λ k. omega arith in
      rw (is_false (lt_tested at (length listing)) over)

  -- inside, where no whole record stands: 6
  said_form : at < length listing → (HasRecord listing at → ⊥) → cursor_said listing at ≡ refuses 6 (at ∷ [])
  unfolding cursor_said
  said_form h n = rw (is_true (lt_tested at (length listing)) h, is_false (whole_tested listing at) n)

  -- where one stands, which is inside: the record
  pub has_inside : HasRecord listing at → at < length listing
  has_inside r = omega (arith, r.known, r.within)

  pub said_whole : HasRecord listing at → cursor_said listing at ≡ accepts (whole_values listing at)
  unfolding cursor_said
  said_whole r = rw (is_true (lt_tested at (length listing)) (has_inside r), is_true (whole_tested listing at) r)

  -- ---- the two refusals

  pub reads_spent : length listing ≤ at → read_said (Err (CursorSpent at)) ≡ cursor_said listing at
  reads_spent h = sym (said_spent h)

  pub reads_form : at < length listing → (HasRecord listing at → ⊥)
      → read_said (Err (ListingForm at)) ≡ cursor_said listing at
  reads_form h n = sym (said_form h n)

  -- a byte of no kind
  pub reads_unknown : (kind : ℕ) → KindAt listing at kind → kind_size kind ≡ 0
      → read_said (Err (ListingForm at)) ≡ cursor_said listing at
  reads_unknown kind k e =
      let none : size_at listing at ≡ 0 = ap kind_size k.kind_is ∙ e in
      reads_form k.inside (λ r. omega (arith, r.known))

  -- a record cut by the listing's end
  pub reads_cut : (kind size : ℕ) → KindAt listing at kind → kind_size kind ≡ size → length listing - at < size
      → read_said (Err (ListingForm at)) ≡ cursor_said listing at
  reads_cut kind size k e h =
      let long : size_at listing at ≡ size = ap kind_size k.kind_is ∙ e in
      let inside : at < length listing = k.inside in
      reads_form inside (λ r. omega (arith, r.within))

  -- a whole record, by its bytes
  reads_bytes : (kind size : ℕ) (bytes : List ℕ) → KindAt listing at kind → kind_size kind ≡ suc size
      → at + suc size ≤ length listing
      → bytes ≡ take (suc size) (drop at listing) → accepts ((at + suc size) ∷ bytes) ≡ cursor_said listing at
  reads_bytes kind size bytes k e h b =
      let long : size_at listing at ≡ suc size = ap kind_size k.kind_is ∙ e in
      let has : HasRecord listing at = record { known = omega arith; within = omega arith } in
      rw (said_whole has, long, b)

-- ---- the bytes of a record, one by one

take-cons : (l : List ℕ) (j n : ℕ) → j < length l → take (suc n) (drop j l) ≡ get_or l j 0 ∷ take n (drop (suc j) l)
take-cons l j n h = rw (drop-cons l j 0 h)

bytes_part : (l : List ℕ) (at k n : ℕ) → at + k + n ≤ length l → take n (drop (at + k) l) ≡ bytes_from l at k n
bytes_part l at k zero h = refl
bytes_part l at k (suc n) h =
    let next : suc (at + k) ≡ at + suc k = omega arith in
    take-cons l (at + k) n (omega arith)
    ∙ ap (λ (j : ℕ). get_or l (at + k) 0 ∷ take n (drop j l)) next
    ∙ ap (λ (r : List ℕ). get_or l (at + k) 0 ∷ r) (bytes_part l at (suc k) n (omega arith))

-- the kind, and the bytes behind it
bytes_at : (l : List ℕ) (at kind n : ℕ) → KindAt l at kind → at + suc n ≤ length l
    → take (suc n) (drop at l) ≡ kind ∷ bytes_from l at 1 n
bytes_at l at kind n k h =
    let next : suc at ≡ at + 1 = omega arith in
    take-cons l at n k.inside
    ∙ ap (λ (j : ℕ). get_or l at 0 ∷ take n (drop j l)) next
    ∙ ap (λ (r : List ℕ). get_or l at 0 ∷ r) (bytes_part l at 1 n (omega arith))
    ∙ ap (λ (b : ℕ). b ∷ bytes_from l at 1 n) k.kind_is

pub reads_whole : (l : List ℕ) (at kind size : ℕ) (bytes : List ℕ) → KindAt l at kind → kind_size kind ≡ suc size
    → suc size ≤ length l - at
    → bytes ≡ kind ∷ bytes_from l at 1 size → accepts ((at + suc size) ∷ bytes) ≡ cursor_said l at
reads_whole l at kind size bytes k e h b =
    let inside : at < length l = k.inside in
    let fits : at + suc size ≤ length l = omega arith in
    reads_bytes l at kind size bytes k e fits (b ∙ sym (bytes_at l at kind size k fits))

-- ---- the kinds

-- where a kind's byte stands: cut by the listing's end
pub kind_cut : (l : List ℕ) (at : ℕ) (kind : Kind) → KindAt l at (kind_byte kind) → length l - at < size_of_kind kind
    → read_said (Err (ListingForm at)) ≡ cursor_said l at
kind_cut l at kind k h = reads_cut l at (kind_byte kind) (size_of_kind kind) k (size_known kind) h

-- or whole, by its bytes
pub kind_whole : (l : List ℕ) (at : ℕ) (kind : Kind) (bytes : List ℕ) → KindAt l at (kind_byte kind)
    → size_of_kind kind ≤ length l - at → bytes ≡ kind_byte kind ∷ bytes_from l at 1 (size_of_kind kind - 1)
    → accepts ((at + size_of_kind kind) ∷ bytes) ≡ cursor_said l at
kind_whole l at Found bytes k h e = reads_whole l at 1 2 bytes k (size_known Found) h e
kind_whole l at Pair bytes k h e = reads_whole l at 2 2 bytes k (size_known Pair) h e
kind_whole l at (Mismatch side) bytes k h e =
    reads_whole l at (kind_byte (Mismatch side)) 6 bytes k (size_known (Mismatch side)) h e
kind_whole l at Closing bytes k h e = reads_whole l at 5 4 bytes k (size_known Closing) h e

pub size_found : kind_size 1 ≡ 3
unfolding kind_size
size_found = refl

pub size_pair : kind_size 2 ≡ 3
unfolding kind_size
size_pair = refl

pub size_alike_in_pattern : kind_size 3 ≡ 7
unfolding kind_size
size_alike_in_pattern = refl

pub size_alike_in_window : kind_size 4 ≡ 7
unfolding kind_size
size_alike_in_window = refl

pub size_closing : kind_size 5 ≡ 5
unfolding kind_size
size_closing = refl

-- ---- two bytes of a number

-- the number of two bytes has them as its high and its low byte
high_byte : (high low : ℕ) → low < 256 → (high * 256 + low) / 256 ≡ high
high_byte high low h = omega arith

low_byte : (high low : ℕ) → low < 256 → (high * 256 + low) % 256 ≡ low
low_byte high low h = omega arith

-- two numbers, each of two bytes
pub two_numbers : (a b c d found refused : ℕ) → b < 256 → d < 256 → found ≡ a * 256 + b → refused ≡ c * 256 + d
    → (found / 256) ∷ (found % 256) ∷ (refused / 256) ∷ (refused % 256) ∷ [] ≡ a ∷ b ∷ c ∷ d ∷ []
two_numbers a b c d found refused h k e f = rw (e, f, high_byte a b h, low_byte a b h, high_byte c d k, low_byte c d k)
