-- `closing::check_closing` meets its contract: where the reader answers with a closing, its counts and its end decide;
-- with anything else, none stands there.
-- Assumes nothing.
use Rattle.std.proofs.Common.{◌≡◌, ℕ, ⊎_elim, Ok, get_or, refl, sym, ◌∙◌, ap, subst, arith}
use Rattle.listing.specs.Records.{bytes_of}
use Rattle.reading.specs.Reader.{read_said, cursor_said}
use Rattle.listing.specs.declared.records.Side.TheVariants.{Pattern, Window}
use Rattle.listing.specs.declared.records.Record.{Record}
use Rattle.listing.specs.declared.records.Record.TheVariants.{Found, Pair, Mismatch, Closing}
use Rattle.rules.specs.Entries.{closing_none, closing_other, other_found, other_refused, closing_not_last, closing_last}
use Rattle.rules.proofs.closing.check_closing.Goals as goal
use Rattle.rules.proofs.closing.check_closing.Goals.{In-Closing, In-Ok}

-- a record that is no closing is of another kind
not_closing : (r : Record) → ((a b : ℕ) → r ≡ Closing a b → ⊥) → get_or (bytes_of r) 0 0 ≡ 5 → ⊥
not_closing (Found a b) k e = omega arith
not_closing (Pair a b) k e = omega arith
not_closing (Mismatch Pattern body) k e = omega arith
not_closing (Mismatch Window body) k e = omega arith
not_closing (Closing a b) k e = k a b refl

-- the reader answers with a whole record
whole : (c : In-Ok) → read_said (Ok (c.in-Ok.item, c.in-Ok.next)) ≡ cursor_said c.args.listing.now c.args.at
whole c = sym (ap read_said c.in-Ok.is) ∙ c.read.ensures

-- which is a closing
closing : (c : In-Closing)
    → read_said (Ok (Closing c.in-Closing.a c.in-Closing.b, c.in-Ok.next)) ≡ cursor_said c.args.listing.now c.args.at
closing c =
    subst (λ (r : Record). read_said (Ok (r, c.in-Ok.next)) ≡ cursor_said c.args.listing.now c.args.at) c.in-Closing.is
    (whole (goal.at.In-Closing c).In-Ok)

pub returns-in_default : goal.returns-in_default
returns-in_default c =
    closing_none c.args.listing.now c.args.found c.args.refused c.args.at c.in_default.field-0
    (sym (ap read_said c.in_default.is) ∙ c.read.ensures)

pub returns-in_default-item : goal.returns-in_default-item
returns-in_default-item c =
    closing_other c.args.listing.now c.args.found c.args.refused c.args.at c.in-Ok.item c.in-Ok.next
    (whole (goal.at.returns-in_default-item c).In-Ok) (not_closing c.in-Ok.item c.in_default-item.not-Closing)

pub returns-then-a-found : goal.returns-then-a-found
returns-then-a-found c =
    let r = closing (goal.at.returns-then-a-found c).In-Closing in
    ⊎_elim (λ n. other_found c.args.listing.now c.args.found c.args.refused c.args.at _ _ _ r n)
    (λ h. other_refused c.args.listing.now c.args.found c.args.refused c.args.at _ _ _ r h.0 h.1) c.then-a-found.either

pub returns-then-end-listing : goal.returns-then-end-listing
returns-then-end-listing c =
    closing_not_last c.args.listing.now c.args.found c.args.refused c.args.at _ _ _
    (closing (goal.at.returns-then-end-listing c).In-Closing) c.if-a-found.false c.if-b-refused.false
    c.if-end-listing.true

pub returns : goal.returns
returns c =
    closing_last c.args.listing.now c.args.found c.args.refused c.args.at _ _ _ (closing (goal.at.returns c).In-Closing)
    c.if-a-found.false c.if-b-refused.false c.if-end-listing.false
