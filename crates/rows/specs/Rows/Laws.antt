-- Laws of a part of a row: no cell passed, one more, a mismatch found, a run of alike cells, the part passed. The part
-- knows no strip: what it says holds of every strip that it lies in.
-- Assumes nothing.
use Rattle.std.specs.Prelude.{◌≡◌, List, ℕ, zero, suc, ◌+◌, ◌-◌, ◌≤◌, ◌<◌, length, get_or, set, eqb, Bool, true, false}
use Rattle.std.specs.Prelude.{not}
use Rattle.std.proofs.Common.{sym, ◌∙◌, ap, add-zero, arith, set-set, eq-eqb, ne_eqb}
use Rattle.std.proofs.lemmas.Bool.{not-true, not-false}
use Rattle.theory.specs.Test.{Tested, holds, fails}
use Rattle.theory.specs.Test.Laws.{lt_tested}
use Rattle.theory.specs.Match.{ends}
use Rattle.theory.specs.Older.{Older}
use Rattle.theory.specs.Older.Laws.{older_set}
use Rattle.prefixes.specs.Prefixes.{suffix}
use Rattle.prefixes.specs.Prefixes.Step.{repeat_decides}
use Rattle.prefixes.specs.State.{agrees_test}
use Rattle.prefixes.specs.State.Laws.{agrees_tells, swept_more}
use Rattle.placed.specs.Blocks.{AlikeFrom, Repeats}
use Rattle.rows.specs.Rows.{PartAt, PartMeets, EndsPart, PassedPart}

module _ (pattern text : List ℕ) (begin n : ℕ) (first last₀ : List ℕ) (start from : ℕ)
    (asked : PartAt pattern text begin n first last₀ start from) where
  -- the parts' records, as long as the part does not change
  abbrev Passed : ℕ → List ℕ → Type 0
  Passed j last = PassedPart pattern text begin n last₀ start from j last

  abbrev Ends : ℕ → List ℕ → Type 0
  Ends r last = EndsPart pattern text begin n last₀ start from r last

  module _ (j : ℕ) (last : List ℕ) (inside : j < n) (here : PassedPart pattern text begin n last₀ start from j last)
    where
      -- r tells whether no mismatch ends at the part's next cell
      abbrev Tells : Bool → Type 0
      Tells r =
          (t : ℕ → ℕ) → PartMeets t pattern text begin n last₀ start from
          → r ≡ not (ends (λ k. get_or pattern k 0) (suffix t start) (from + j))

      told_found : (r : Bool) → Tells r → r ≡ false → Ends j last
      told_found r tells e = record { passed = here; hit = λ t s _. not-false _ (sym (tells t s) ∙ e) }

      -- by an earlier cell of the part, where the pattern's two are alike
      by_earlier : (q : ℕ) → q < j → get_or pattern (from + q) 0 ≡ get_or pattern (from + j) 0
          → Tells (eqb (get_or text (begin + q) 0) (get_or text (begin + j) 0))
      by_earlier q h e t s =
          rw (s.row_is j inside, s.row_is q (omega arith))
          (repeat_decides (λ k. get_or pattern k 0) (suffix t start) (from + j)
          (λ k lt. (here.swept t s).clear k (omega arith)) (from + q) (omega arith) e)

      module _ (x : ℕ) (ex : x ≡ get_or text (begin + j) 0) (small : x < 256) where
        told_more : (r : Bool) → Tells r → r ≡ true → Passed (j + 1) (set last x (start + from + j + 1))
        told_more r tells e =
            record {
              within = omega arith;
              older =
                  let o = here.older in
                  let wide : Older (start + from + (j + 1) + 1) last = record
                  { long = o.long; below = λ k. omega (arith, o.below k) } in
                  older_set (start + from + (j + 1) + 1) last x (start + from + j + 1) wide small (omega arith);
              swept = λ t s.
                  let xt : x ≡ t (start + (from + j)) = ex ∙ s.row_is j inside in
                  let at_end : start + (from + (j + 1)) ≡ start + (from + j) + 1 = omega arith in
                  let at_store : start + from + j + 1 ≡ start + (from + j) + 1 = omega arith in
                  rw (at_end, at_store, xt)
                  (swept_more pattern t (length pattern) start (from + j) first last (rw (← xt) small)
                  (omega (arith, asked.inside)) asked.places (here.swept t s)
                  (not-true _ (sym (tells t s) ∙ e)));
            }

        -- by the tables
        module _ (a near : ℕ) (ea : a ≡ get_or pattern (from + j) 0) (en : near ≡ get_or last x 0) (r : Bool)
            (er : r ≡ agrees_test pattern first start near (from + j) a) where
          by_tables : Tells r
          by_tables t s =
              let xt : x ≡ t (start + (from + j)) = ex ∙ s.row_is j inside in
              let law = agrees_tells pattern t (length pattern) start (from + j) first last (rw (← xt) small)
              (omega (arith, asked.inside)) asked.places (here.swept t s) in
              er ∙ rw (ea, en, xt) law

          pub part_more : r ≡ true
              → PassedPart pattern text begin n last₀ start from (j + 1) (set last x (start + from + j + 1))
          part_more = told_more r by_tables

          pub part_found : r ≡ false → EndsPart pattern text begin n last₀ start from j last
          part_found = told_found r by_tables

        alike_more : (q : ℕ) → q < j → get_or pattern (from + q) 0 ≡ get_or pattern (from + j) 0
            → get_or text (begin + q) 0 ≡ get_or text (begin + j) 0 → Passed (j + 1) (set last x (start + from + j + 1))
        alike_more q h e d = told_more _ (by_earlier q h e) (eq-eqb _ _ d)

      alike_found : (q : ℕ) → q < j → get_or pattern (from + q) 0 ≡ get_or pattern (from + j) 0
          → (get_or text (begin + q) 0 ≡ get_or text (begin + j) 0 → ⊥) → Ends j last
      alike_found q h e d = told_found _ (by_earlier q h e) (ne_eqb _ _ d)

  pub part_all : (j : ℕ) (last : List ℕ) → n ≤ j → PassedPart pattern text begin n last₀ start from j last
      → EndsPart pattern text begin n last₀ start from j last
  part_all j last h here = record { passed = here; hit = λ t s d. absurd (omega (arith, d)) }

  -- a run of cells that are alike, and so are the pattern's: one that agrees, and with it those behind it, r in all
  module _ (j x : ℕ) (last : List ℕ) (ex : x ≡ get_or text (begin + j) 0) (small : x < 256)
      (one : PassedPart pattern text begin n last₀ start from (j + 1) (set last x (start + from + j + 1)))
      (cells most r : ℕ) (alike : AlikeFrom pattern (from + j) cells) (run : Repeats text (begin + j) most r)
      (few : most ≤ cells) (room : j + most ≤ n) where
    pattern_alike : (q : ℕ) → q < cells → get_or pattern (from + j) 0 ≡ get_or pattern (from + (j + q)) 0
    pattern_alike q h =
        let at : from + j + q ≡ from + (j + q) = omega arith in
        alike.same q h ∙ ap (λ (k : ℕ). get_or pattern k 0) at

    text_alike : (q : ℕ) → q < r → get_or text (begin + j) 0 ≡ get_or text (begin + (j + q)) 0
    text_alike q h =
        let at : begin + j + q ≡ begin + (j + q) = omega arith in
        run.alike.same q h ∙ ap (λ (k : ℕ). get_or text k 0) at

    pub run_passed : PassedPart pattern text begin n last₀ start from (j + r) (set last x (start + from + (j + r)))
    run_passed = rw e (go (r - 1) (omega (arith, run.alike.some)))
      where
        e : r ≡ 1 + (r - 1)
        e = omega (arith, run.alike.some)

        go : (d : ℕ) → 1 + d ≤ r → Passed (j + (1 + d)) (set last x (start + from + (j + (1 + d))))
        go zero le =
            let at : start + from + (j + 1) ≡ start + from + j + 1 = omega arith in
            rw (add-zero, at) one
        go (suc d) le =
            let after : j + (1 + suc d) ≡ j + (1 + d) + 1 = omega arith in
            let at : start + from + (j + (1 + d) + 1) ≡ start + from + (j + (1 + d)) + 1 = omega arith in
            rw (after, at, ← set-set last x (start + from + (j + (1 + d))) (start + from + (j + (1 + d)) + 1))
            (alike_more (j + (1 + d)) (set last x (start + from + (j + (1 + d)))) (omega (arith, run.few))
            (go d (omega arith)) x (ex ∙ text_alike (1 + d) (omega arith)) small j (omega arith)
            (pattern_alike (1 + d) (omega (arith, run.few))) (text_alike (1 + d) (omega arith)))

    -- and where it ends before the pattern's does, a mismatch ends there, or the part
    pub run_found : r < cells → (most < cells → n ≤ j + most)
        → EndsPart pattern text begin n last₀ start from (j + r) (set last x (start + from + (j + r)))
    run_found h whole = go (lt_tested r most)
      where
        go : {b : Bool} → Tested (r < most) b → Ends (j + r) (set last x (start + from + (j + r)))
        go (holds lt) =
            alike_found (j + r) _ (omega arith) run_passed j (omega (arith, run.alike.some)) (pattern_alike r h)
            (λ d. run.stops lt (d ∙ ap (λ (k : ℕ). get_or text k 0) (omega arith)))
        go (fails m) = part_all (j + r) _ (omega (arith, run.few, whole (omega (arith, run.few)))) run_passed
