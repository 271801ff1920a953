-- `carries::rows_carry` meets its contract. The invariant: i rows of the window are carried, those that follow the
-- pattern to begin with.
-- Assumes nothing.
use Rattle.std.proofs.Common.{ℕ, ◌*◌, sym, subst, arith}
use Rattle.inheriting.specs.Carries.{Carried, rows_all}
use Rattle.matching.specs.Compared.{pattern_seen, window_seen}
use Rattle.inheriting.specs.Inheritance.Laws.{carried_follows, follows_carried, rows_above}
use Rattle.carrying.proofs.carries.rows_carry.Goals as goal

pub loop-i-init : goal.loop-i-init
loop-i-init c =
    let m = c.args.m in
    let c₁ = m.compared in
    let w = c₁.window in
    let known = c.args.known in record {
      within = c.requires.0;
      carried = subst
          (λ (k : ℕ). Carried w.text.now k m.offsets.now (pattern_seen c₁) (window_seen c₁) (known * w.place.width))
          (sym m.corner_is) (follows_carried w.text.now w.place c₁.pattern.now m.offsets.now (known * w.place.width)
          m.leads (omega (arith, rows_above w.place known c.requires.0, c₁.fitting)) c.requires.1);
    }

pub returns : goal.returns
returns c =
    λ _. carried_follows _ _ _ _ _ _ (rows_all c.args.m _ c.loop-i-test.false c.loop-i.invariant)
