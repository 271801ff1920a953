-- `enlarged::search_enlarged` meets its contract: the pattern lies enlarged (`enlarged_pattern`), so the search for it
-- is the search for the enlargement.
-- Assumes nothing.
use Rattle.std.proofs.Common.{◌≡◌, length, sym, ◌∙◌, ap, subst}
use Rattle.shapes.specs.Questions.{Question, asked, question_in}
use Rattle.flags.specs.Flags.{RoomFor, rooms}
use Rattle.searched.specs.Search.{listed_of, lend}
use Rattle.scaled.specs.Scaled.{scaled}
use Rattle.scaled.specs.Scaled.Cells.{scaled_one}
use Rattle.scales.specs.Enlarged.{enlarged_asked}
use Rattle.placed.specs.Placing.{enlarged}
use Rattle.scales.proofs.enlarged.search_enlarged.Goals as goal
use Rattle.scales.proofs.enlarged.search_enlarged.Goals.{After-enlarged_shape-e, Then-k-eq1}

-- the question for the pattern as it lies is the one for its enlargement
same : (c : After-enlarged_shape-e) →
    let a = c.args in
    let l = c.enlarged_pattern-laid.result in
    asked a.q.text.now (enlarged l.own.now l.scale l.width l.cells) c.enlarged_shape-e.result
    ≡ scaled a.k (question_in a.q)
same c =
    enlarged_asked c.args.q.text.now c.args.q.pattern.now _ c.args.q.shape _ c.args.k c.enlarged_pattern-laid.ensures
    c.enlarged_shape-e.ensures

-- at scale 1 it is the one that was asked
own : (c : Then-k-eq1) → scaled c.args.k (question_in c.args.q) ≡ question_in c.args.q
own c = rw c.if-k-eq1.true (scaled_one _ c.requires.0.pattern_size)

pub search_windows-requires : goal.search_windows-requires
search_windows-requires c =
    let a = c.args in
    subst (λ (q : Question). RoomFor q (rooms (length a.links.now) (length a.counts.now) (length a.flags.now)))
    (own (goal.at.search_windows-requires c).Then-k-eq1) c.requires.1

pub returns-then-k-eq1 : goal.returns-then-k-eq1
returns-then-k-eq1 c =
    let a = c.args in
    c.search_windows.ensures
    ∙ ap (λ (q : Question). listed_of q (lend a.links.now a.counts.now a.flags.now a.listing.now))
    (sym (own (goal.at.returns-then-k-eq1 c).Then-k-eq1))

pub enlarged_pattern-laid-requires : goal.enlarged_pattern-laid-requires
enlarged_pattern-laid-requires c =
    let p = c.requires.0 in (p.sides, p.fitting, p.pattern_size)

pub enlarged_shape-e-requires : goal.enlarged_shape-e-requires
enlarged_shape-e-requires c = c.requires.0.fitting

pub search_windows-requires-2 : goal.search_windows-requires-2
search_windows-requires-2 c =
    let a = c.args in
    subst (λ (q : Question). RoomFor q (rooms (length a.links.now) (length a.counts.now) (length a.flags.now)))
    (sym (same (goal.at.search_windows-requires-2 c).After-enlarged_shape-e)) c.requires.1

pub returns : goal.returns
returns c =
    let a = c.args in
    c.search_windows-2.ensures
    ∙ ap (λ (q : Question). listed_of q (lend a.links.now a.counts.now a.flags.now a.listing.now))
    (same (goal.at.returns c).After-enlarged_shape-e)
