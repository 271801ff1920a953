-- What the reader's answer says of the record at a place. A whole record stands there as its kind, and its bytes are
-- those of the listing; where the reader refuses, no record of any kind stands.
-- Assumes nothing.
use Rattle.std.proofs.Common.{◌≡◌, true, false, List, ℕ, ◌+◌, ◌≤◌, ◌<◌, length, get_or, drop, sym, ◌∙◌, ap, add-zero}
use Rattle.std.proofs.Common.{arith, get_or-take, get_or-drop, Ok, Err}
use Rattle.theory.specs.Test.{Tested}
use Rattle.theory.specs.Test.Laws.{eq_tested, both_tested, is_true, is_false, says_true}
use Rattle.refusals.specs.declared.refusals.Refusal.{Refusal}
use Rattle.listing.specs.Records.{bytes_of, kind_size}
use Rattle.reading.specs.Reader.{read_said, cursor_said}
use Rattle.reading.specs.Reader.Reading.{HasRecord, whole_tested}
use Rattle.reading.specs.Reader.Answers.{WholeAt, read_whole, refused_none}
use Rattle.reading.specs.Reader.RoundTrip.{bytes_some, size_is}
use Rattle.listing.specs.declared.records.Record.{Record}
use Rattle.reading.specs.declared.reader.Cursor.{Cursor}
use Rattle.claims.specs.Claims.{byte_at, stands}

module _ (listing : List ℕ) (at : ℕ) where
  pub stands_tested : (kind : ℕ) → Tested ((get_or listing at 0 ≡ kind) × HasRecord listing at) (stands listing kind at)
  unfolding stands
  stands_tested kind = both_tested (eq_tested (get_or listing at 0) kind) (whole_tested listing at)

  -- as many bytes as the kind says are in the listing
  pub stands_within : (kind : ℕ) → stands listing kind at ≡ true → at + kind_size kind ≤ length listing
  stands_within kind s = let t = says_true (stands_tested kind) s in omega (arith, t.1.within, ap kind_size t.0)

  -- the reader refuses: no record of any kind stands there
  pub refused_stands : (why : Refusal) → read_said (Err why) ≡ cursor_said listing at → (kind : ℕ)
      → stands listing kind at ≡ false
  refused_stands why r kind = is_false (stands_tested kind) (λ h. refused_none listing at why r h.1)

  module _ (r : Record) (next : Cursor) (reads : read_said (Ok (r, next)) ≡ cursor_said listing at) where
    whole : WholeAt listing at r next
    whole = read_whole listing at r next reads

    -- the record's bytes stand there
    pub whole_byte : (i : ℕ) → i < length (bytes_of r) → byte_at listing at i ≡ get_or (bytes_of r) i 0
    whole_byte i h =
        sym (get_or-drop at listing i 0) ∙ sym (get_or-take (length (bytes_of r)) (drop at listing) i 0 h)
        ∙ ap (λ (b : List ℕ). get_or b i 0) whole.bytes_are

    kind_there : get_or listing at 0 ≡ get_or (bytes_of r) 0 0
    kind_there = ap (λ (k : ℕ). get_or listing k 0) (sym (add-zero at)) ∙ whole_byte 0 (bytes_some r)

    -- as its kind
    pub whole_stands : (kind : ℕ) → get_or (bytes_of r) 0 0 ≡ kind → stands listing kind at ≡ true
    whole_stands kind e =
        let w = whole in
        let size = ap kind_size kind_there ∙ size_is r in
        let has_some = bytes_some r in
        is_true (stands_tested kind) (kind_there ∙ e, record { known = omega arith; within = omega arith })

    -- and as no other
    pub whole_other : (kind : ℕ) → (get_or (bytes_of r) 0 0 ≡ kind → ⊥) → stands listing kind at ≡ false
    whole_other kind n = is_false (stands_tested kind) (λ h. n (sym kind_there ∙ h.0))

    -- the next one begins behind it
    pub whole_next : next.at ≡ at + length (bytes_of r)
    whole_next = whole.next_is
