-- `entries::check_entry` meets its contract: the record that stands first decides which way the walk goes
-- (`Entries.antt` of rules).
-- Assumes nothing.
use Rattle.std.proofs.Common.{◌≡◌, ⊎_elim, Ok, sym, ◌∙◌, ap, subst}
use Rattle.reading.specs.Reader.{read_said, cursor_said}
use Rattle.listing.specs.declared.records.Record.{Record}
use Rattle.rules.specs.Entries.{mismatch_read, entry_none, entry_pair, entry_closing, entry_mismatch, entry_not_due}
use Rattle.rules.specs.Entries.{found_entry_passes}
use Rattle.judging.proofs.entries.check_entry.Goals as goal
use Rattle.judging.proofs.entries.check_entry.Goals.{In-Ok}

-- the reader answers with a whole record, and with the place after it
whole : (c : In-Ok) (r : Record) → c.in-Ok.item ≡ r
    → read_said (Ok (r, c.in-Ok.next)) ≡ cursor_said c.args.listing.now c.args.at
whole c r e =
    subst (λ (s : Record). read_said (Ok (s, c.in-Ok.next)) ≡ cursor_said c.args.listing.now c.args.at) e
    (sym (ap read_said c.in-Ok.is) ∙ c.read_first.ensures)

pub returns-in_default-clause-answer : goal.returns-in_default-clause-answer
returns-in_default-clause-answer c =
    entry_none c.args.c.window.text.now c.args.c.pattern.now c.args.c.window.place c.args.listing.now c.args.at
    c.in_default.field-0
    (sym (ap read_said c.in_default.is) ∙ c.read_first.ensures)

pub returns-then-not-is_due-clause-answer : goal.returns-then-not-is_due-clause-answer
returns-then-not-is_due-clause-answer c =
    entry_not_due c.args.c.window.text.now c.args.c.pattern.now c.args.c.window.place c.args.listing.now c.args.at _ _ _
    (whole (goal.at.returns-then-not-is_due-clause-answer c).In-Ok _ c.in-Found.is) (sym c.is_due.ensures
    ∙ c.if-not-is_due.true)

pub refused_window-requires : goal.refused_window-requires
refused_window-requires c =
    mismatch_read c.in-Mismatch.alike c.in-Mismatch.body c.args.listing.now c.args.at _
    (whole (goal.at.refused_window-requires c).In-Ok _ c.in-Mismatch.is)

pub returns-else-not-is_due-clause-answer : goal.returns-else-not-is_due-clause-answer
returns-else-not-is_due-clause-answer c =
    found_entry_passes c.args.c.window.text.now c.args.c.pattern.now c.args.c.window.place c.args.listing.now
    c.args.at _ _ _
    (whole (goal.at.returns-else-not-is_due-clause-answer c).In-Ok _ c.in-Found.is) (sym c.is_due.ensures
    ∙ c.if-not-is_due.false) _
    c.found_pairs.ensures.answer

pub returns-in-Mismatch-clause-answer : goal.returns-in-Mismatch-clause-answer
returns-in-Mismatch-clause-answer c =
    entry_mismatch c.args.c.window.text.now c.args.c.pattern.now c.args.c.window.place c.args.listing.now c.args.at
    c.in-Mismatch.alike
    c.in-Mismatch.body _ (whole (goal.at.returns-in-Mismatch-clause-answer c).In-Ok _ c.in-Mismatch.is) _
    c.refused_window.ensures

pub returns-in-Pair-clause-answer : goal.returns-in-Pair-clause-answer
returns-in-Pair-clause-answer c =
    ⊎_elim (λ h. entry_pair c.args.c.window.text.now c.args.c.pattern.now c.args.c.window.place c.args.listing.now
    c.args.at h.0 h.1 _
    (whole (goal.at.returns-in-Pair-clause-answer c).In-Ok _ h.2)) (λ h. entry_closing c.args.c.window.text.now
    c.args.c.pattern.now c.args.c.window.place c.args.listing.now c.args.at h.0 h.1 _
    (whole (goal.at.returns-in-Pair-clause-answer c).In-Ok _ h.2)) c.in-Pair.is
