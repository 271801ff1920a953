-- `window::check_pairs` meets its contract. The invariant: the pairs of the first i symbols, with those of the symbols
-- left, give the whole course. It holds at first because of the plain pairs.
-- Assumes nothing.
use Rattle.std.proofs.Common.{◌≡◌, ◌∙◌, [], refl, arith, rules}
use Rattle.sets.specs.Symbols.{symbols_of}
use Rattle.sets.specs.Symbols.Patterns.{listed_symbol}
use Rattle.matching.specs.Compared.{pattern_seen, window_seen, cells_seen}
use Rattle.claims.specs.Claims.{Walk, pairs_from}
use Rattle.pairs.specs.Pairs.{found_at, symbols_inside}
use Rattle.pairs.specs.Pairs.Rising.{symbols_left_none, left_stopped, left_passed, marks_next}
use Rattle.found.proofs.window.check_pairs.Goals as goal
use Rattle.found.proofs.window.check_pairs.Goals.{Start}

-- the walk over all pairs
abbrev whole : Start → Walk
whole o =
    let c = o.args.w.images.compared in
    pairs_from (pattern_seen c) (window_seen c) (cells_seen c) o.args.listing.now (symbols_of c.pattern.now) []
    o.args.at

pub plain_pairs-plain-requires : goal.plain_pairs-plain-requires
plain_pairs-plain-requires c =
    symbols_inside c.args.w.images _ c.requires.0

pub loop-i-init : goal.loop-i-init
loop-i-init c =
    c.plain_pairs-plain.ensures.plain_to.each _ _ (found_at c.args.w) c.requires.0 c.requires.1

pub check_pair-requires : goal.check_pair-requires
check_pair-requires c = (listed_symbol _ _ c.requires.0 c.loop-i.i c.loop-i-test.true).1

pub returns-in_err-end : goal.returns-in_err-end
returns-in_err-end c =
    let i = c.loop-i.invariant in
    let e = c.check_pair.ensures i.before i.marked in
    let same : c.from_residual.result ≡ c.check_pair.result = search rules in record {
      answer = same
          ∙ left_stopped _ _ _ _ _ _ (whole (goal.at.returns-in_err-end c).Start) _ _ _ i _ refl c.loop-i-test.true _
          _ e
          _ c.in_err-end.was;
      older = marks_next _ _ e.older;
    }

pub loop-i-preserved : goal.loop-i-preserved
loop-i-preserved c =
    let i = c.loop-i.invariant in
    left_passed _ _ _ _ _ _ (whole (goal.at.loop-i-preserved c).Start) _ _ _ i _ refl c.loop-i-test.true _ _
    (c.check_pair.ensures i.before i.marked) _ c.in_ok-end.was

pub returns : goal.returns
returns c =
    let i = c.loop-i.invariant in record {
      answer = symbols_left_none _ _ _ _ _ _ (whole (goal.at.returns c).Start) _ _ _ i (omega arith);
      older = marks_next _ _ i.marked.older;
    }
