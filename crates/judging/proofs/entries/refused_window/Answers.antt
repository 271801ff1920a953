-- `entries::refused_window` meets its contract: the body is the record's, and its two tests are those of a right
-- mismatch, in the same order.
-- Assumes nothing.
use Rattle.std.proofs.Common.{sym, ◌∙◌}
use Rattle.listing.specs.Entries.{in_pattern}
use Rattle.rules.specs.Entries.{other_window, mismatch_fails, mismatch_holds}
use Rattle.judging.proofs.entries.refused_window.Goals as goal

pub returns-then-not-is_due : goal.returns-then-not-is_due
returns-then-not-is_due c =
    other_window c.args.c.window.place c.args.body c.args.listing.now c.args.at c.requires c.args.c.window.text.now
    c.args.c.pattern.now
    (in_pattern c.args.alike) c.args.next (sym c.is_due.ensures ∙ c.if-not-is_due.true)

pub returns-then-not-true_mismatch : goal.returns-then-not-true_mismatch
returns-then-not-true_mismatch c =
    mismatch_fails c.args.c.window.place c.args.body c.args.listing.now c.args.at c.requires c.args.c.window.text.now
    c.args.c.pattern.now
    (in_pattern c.args.alike) c.args.next (sym c.is_due.ensures ∙ c.if-not-is_due.false)
    (sym c.true_mismatch.ensures ∙ c.if-not-true_mismatch.true)

pub returns : goal.returns
returns c =
    mismatch_holds c.args.c.window.place c.args.body c.args.listing.now c.args.at c.requires c.args.c.window.text.now
    c.args.c.pattern.now
    (in_pattern c.args.alike) c.args.next (sym c.is_due.ensures ∙ c.if-not-is_due.false)
    (sym c.true_mismatch.ensures ∙ c.if-not-true_mismatch.false)
