-- `occurrences::change` meets its contract: one entry rises by one, and the size with it where the entry was 0; or it
-- falls by one, and the size with it where the entry was 1.
-- Assumes nothing.
use Rattle.std.proofs.Common.{◌≡◌, ℕ, ◌+◌, ◌-◌, true, false, not, refl, sym, ap, arith, eq-eqb, ne_eqb, eqb, [], ◌∷◌}
use Rattle.std.proofs.Common.{get_or, set}
use Rattle.theory.specs.Test.{pick}
use Rattle.theory.specs.Test.Laws.{pick_true, pick_false}
use Rattle.occurrences.specs.Occurrences.{RoomToAdd, Starts, Changed, occurrences_of}
use Rattle.occurrences.specs.Occurrences.Laws.{occurrences_le, size_le, tracks_add, count_some, size_some}
use Rattle.occurrences.specs.Occurrences.Laws.{tracks_remove, asked_entering, asked_leaving, has_entered, has_left}
use Rattle.occurrences.proofs.occurrences.change.Given.{Over}
use Rattle.occurrences.proofs.occurrences.change.Goals as goal
use Rattle.occurrences.proofs.occurrences.change.Goals.{Then-this-ne0, Else-this-ne0}

-- where the symbol enters
module _ (g : Over) (c : Then-this-ne0 g) where
  enters : not (eqb g.row.ENTERS 0) ≡ true
  enters = ap not (ne_eqb _ 0 c.if-this-ne0.true)

  room : RoomToAdd (occurrences_of c.args.of.now c.args.size) 1
  room = asked_entering _ _ (c.args.v ∷ []) enters c.requires

  entered : (n : ℕ) → n ≡ pick (eqb (get_or c.args.of.now c.from-at.result 0) 0) (c.args.size + 1) c.args.size
      → Changed (not (eqb g.row.ENTERS 0)) (occurrences_of c.args.of.now c.args.size) (c.args.v ∷ [])
      (occurrences_of (set c.args.of.now c.from-at.result (get_or c.args.of.now c.from-at.result 0 + 1)) n)
  entered n e =
      has_entered _ _ _ _ enters
      (λ xs k. rw (← c.from-at.ensures) (tracks_add _ _ c.from-at.result xs (omega arith) k refl e))

-- where it leaves
module _ (g : Over) (c : Else-this-ne0 g) where
  leaves : not (eqb g.row.ENTERS 0) ≡ false
  leaves = ap not (eq-eqb _ 0 c.if-this-ne0.false)

  starts : Starts (occurrences_of c.args.of.now c.args.size) (c.from-at.result ∷ [])
  starts = rw c.from-at.ensures (asked_leaving _ _ (c.args.v ∷ []) leaves c.requires)

  left : (n : ℕ) → n ≡ pick (eqb (get_or c.args.of.now c.from-at.result 0) 1) (c.args.size - 1) c.args.size
      → Changed (not (eqb g.row.ENTERS 0)) (occurrences_of c.args.of.now c.args.size) (c.args.v ∷ [])
      (occurrences_of (set c.args.of.now c.from-at.result (get_or c.args.of.now c.from-at.result 0 - 1)) n)
  left n e =
      has_left _ _ _ _ leaves
      (rw (← c.from-at.ensures) (λ xs k. tracks_remove _ _ c.from-at.result xs (omega arith) k refl e))

pub overflow_add-of : goal.overflow_add-of
overflow_add-of g c =
    let r = room g c in
    omega (arith, occurrences_le (occurrences_of c.args.of.now c.args.size) c.from-at.result r.0 (omega arith) r.1)

pub overflow_add-result : goal.overflow_add-result
overflow_add-result g c =
    let r = room g (goal.at.overflow_add-result g c).Then-this-ne0 in
    omega (arith, size_le (occurrences_of c.args.of.now c.args.size) r.0 r.1)

pub returns-then-old-eq0 : goal.returns-then-old-eq0
returns-then-old-eq0 g c =
    entered g (goal.at.returns-then-old-eq0 g c).Then-this-ne0 _
    (sym (pick_true _ _ (eq-eqb _ 0 c.if-old-eq0.true)))

pub returns-else-old-eq0 : goal.returns-else-old-eq0
returns-else-old-eq0 g c =
    entered g (goal.at.returns-else-old-eq0 g c).Then-this-ne0 _
    (sym (pick_false _ _ (ne_eqb _ 0 c.if-old-eq0.false)))

pub overflow_sub-of : goal.overflow_sub-of
overflow_sub-of g c =
    let s = starts g c in
    count_some (occurrences_of c.args.of.now c.args.size) c.from-at.result s.0 (omega arith) s.1

pub overflow_sub-result : goal.overflow_sub-result
overflow_sub-result g c =
    let s = starts g (goal.at.overflow_sub-result g c).Else-this-ne0 in
    size_some (occurrences_of c.args.of.now c.args.size) c.from-at.result s.0 s.1

pub returns-then-old-eq1 : goal.returns-then-old-eq1
returns-then-old-eq1 g c =
    left g (goal.at.returns-then-old-eq1 g c).Else-this-ne0 _ (sym (pick_true _ _ (eq-eqb _ 1 c.if-old-eq1.true)))

pub returns-else-old-eq1 : goal.returns-else-old-eq1
returns-else-old-eq1 g c =
    left g (goal.at.returns-else-old-eq1 g c).Else-this-ne0 _ (sym (pick_false _ _ (ne_eqb _ 1 c.if-old-eq1.false)))
