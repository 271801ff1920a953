-- `entries::write_if_found` meets its contract: the flag says whether the pattern matches; where it does, the
-- records of that answer are written, else their seven bytes are passed over.
-- Assumes nothing.
use Rattle.std.proofs.Common.{◌≡◌, ◌+◌, List, ℕ, length, sym, ap, ◌∙◌, eq-eqb, ne_eqb, arith}
use Rattle.theory.specs.Test.Laws.{pick_true, pick_false}
use Rattle.theory.specs.Written.{written}
use Rattle.listing.specs.Entries.{bytes_all}
use Rattle.listing.specs.declared.records.Record.{Record}
use Rattle.entries.specs.Listing.{entry_at}
use Rattle.entries.specs.Listing.Entries.{found_records, found_records_lem, flag_matched, flag_unmatched}
use Rattle.entries.specs.Listing.Entries.{refused_length}
use Rattle.entries.proofs.entries.write_if_found.Goals as goal
use Rattle.entries.proofs.entries.write_if_found.Goals.{Then-flag-eq1}

-- the records that are written are the window's
records : (g : _) (c : Then-flag-eq1 g) →
    let a = c.args in
    let cells = g.P.Pattern.cells a.pattern in
    found_records a.w.text.now a.w.place cells ≡ entry_at a.w.text.now cells a.w.place
records g c =
    let w = c.requires.0 in
    found_records_lem _ _ _ w.size (flag_matched _ _ _ _ w.flag_is c.if-flag-eq1.true)

pub write_found-requires : goal.write_found-requires
write_found-requires g c =
    let w = c.requires.0 in
    let e = records g (goal.at.write_found-requires g c).Then-flag-eq1 in (
      w.small,
      w.size,
      w.pairs_are,
      omega (arith, ap (λ (r : List Record). length (bytes_all r)) e, c.requires.1),
    )

pub returns-then-flag-eq1 : goal.returns-then-flag-eq1
returns-then-flag-eq1 g c =
    let e = ap bytes_all (records g (goal.at.returns-then-flag-eq1 g c).Then-flag-eq1) in
    let found = c.write_found.ensures in record {
      end = found.end ∙ ap (λ (xs : List ℕ). c.args.at + length xs) e;
      listing_after = found.listing_after ∙ ap (written _ _) e
          ∙ sym (pick_true _ _ (eq-eqb _ _ c.if-flag-eq1.true));
    }

-- a window that is not found has 7 bytes
pub returns : goal.returns
returns g c =
    let a = c.args in
    let none = flag_unmatched _ _ _ _ c.requires.0.flag_is c.if-flag-eq1.false in record {
      end = ap (λ (n : ℕ). a.at + n) (refused_length a.w.text.now a.w.place (g.P.Pattern.cells a.pattern) none);
      listing_after = sym (pick_false _ _ (ne_eqb _ _ c.if-flag-eq1.false));
    }
