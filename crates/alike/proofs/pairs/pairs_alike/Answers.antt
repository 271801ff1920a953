-- `pairs::pairs_alike` meets its contract. The invariant: what is added up is how many of the pairs passed are not
-- alike; none is exactly where every one is alike (`count-every`).
-- Assumes nothing.
use Rattle.std.proofs.Common.{◌≡◌, ◌+◌, ◌-◌, ◌<◌, ℕ, ap, ◌∙◌, not, arith, nat_eq, get_or, take, drop, true, false}
use Rattle.std.proofs.Common.{length-take, length-drop, get_or-drop, get_or-take}
use Rattle.theory.specs.Test.Laws.{eq_tested, is_true, is_false}
use Rattle.theory.specs.Count.{count}
use Rattle.theory.specs.Count.Laws.{count_le}
use Rattle.theory.specs.Count.Steps.{count-zero, count-every, count_hit, count_miss}
use Rattle.alike.specs.declared.pairs.Pair.{Pair}
use Rattle.alike.specs.Pairs.{no_pair}
use Rattle.alike.proofs.pairs.pairs_alike.Goals as goal
use Rattle.alike.proofs.pairs.pairs_alike.Goals.{After-loop-pair, In-loop-pair, then-text-corner, else-text-corner}

few : (c : In-loop-pair) → c.loop-pair.pair-index < 4
few c = omega (arith, c.loop-pair-test.true, length-take {A = Pair}, length-drop {A = Pair})

all : (c : After-loop-pair) → c.loop-pair.pair-index ≡ 4
all c = omega (arith, c.loop-pair.auto, c.loop-pair-test.false, length-take {A = Pair}, length-drop {A = Pair})

-- pair i of those that are looked at
part_at : (c : In-loop-pair)
    → get_or (take (c.args.from + 4 - c.args.from) (drop c.args.from c.args.pairs.now)) c.loop-pair.pair-index no_pair
    ≡ get_or c.args.pairs.now (c.args.from + c.loop-pair.pair-index) no_pair
part_at c =
    get_or-take _ (drop c.args.from c.args.pairs.now) c.loop-pair.pair-index no_pair (omega (arith, few c))
    ∙ get_or-drop c.args.from c.args.pairs.now c.loop-pair.pair-index no_pair

pub loop-pair-init : goal.loop-pair-init
loop-pair-init c = count-zero _

pub overflow_add-unlike : goal.overflow_add-unlike
overflow_add-unlike c =
    omega (arith, c.loop-pair.invariant, few (goal.at.overflow_add-unlike c).In-loop-pair, count_le)

pub loop-pair-preserved : goal.loop-pair-preserved
loop-pair-preserved c =
    let l = c.loop-pair in
    let a = c.args in
    let e = part_at (goal.at.loop-pair-preserved c).In-loop-pair in
    elim c.if-text-corner.branch [
      | then-text-corner w ↦
          w.unlike-is
          ∙ count_hit _ l.pair-index _ l.invariant
          (ap not {y = false} (rw (← e) (is_false (eq_tested _ _) w.if-text-corner.true)))
      | else-text-corner w ↦
          w.unlike-is
          ∙ count_miss _ l.pair-index _ l.invariant
          (ap not {y = true} (rw (← e) (is_true (eq_tested _ _) w.if-text-corner.false)))
    ]

pub returns : goal.returns
returns c =
    ap (λ (n : ℕ). nat_eq n 0) (c.loop-pair.invariant ∙ ap (count _) (all c)) ∙ count-every _ 4
