-- `one_window::compare` meets its contract: where a mismatch ends first, the two positions are the answer; where none
-- does, the columns come from the first places.
-- Assumes nothing.
use native.Mathlib.Omega.{arith}
use Rattle.matching.specs.Compare.Verdicts.{earlier_inside, stopped_verdict, end_past, passed_verdict}
use mathlib.Core.Path.{◌∙◌}
use Rattle.answering.proofs.one_window.compare.Goals as goal

pub first_end-end-requires : goal.first_end-end-requires
first_end-end-requires c = (
  c.first_places.ensures,
  c.table-last.ensures,
)

pub mismatch_between-requires : goal.mismatch_between-requires
mismatch_between-requires c =
    let h = earlier_inside _ _ _ _ _ c.first_end-end.ensures c.if-end-n.true in
    (omega (arith, h, c.if-end-n.true, c.args.c.fitting), omega (arith, h, c.if-end-n.true, c.args.c.fitting))

pub returns-then-end-n : goal.returns-then-end-n
returns-then-end-n c =
    c.mismatch_between.ensures ∙ stopped_verdict _ _ _ _ _ c.first_end-end.ensures c.if-end-n.true

pub match_columns-requires : goal.match_columns-requires
match_columns-requires c = (
  record {
    places = c.first_places.ensures;
    clear = end_past _ _ _ _ _ c.first_end-end.ensures c.if-end-n.false;
  },
  c.empty-bijection.ensures,
)

pub returns : goal.returns
returns c =
    passed_verdict _ _ _ _ _ c.first_end-end.ensures c.if-end-n.false _ _ c.match_columns.ensures.forward_after
    c.match_columns.ensures.backward_after
