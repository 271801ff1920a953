-- `symbols::clear_symbol` meets its contract: word v / 64 loses bit v % 64, which is symbol v, and the other words hold
-- other symbols. The invariant: nothing has changed up to that word, and it has all changed behind it.
-- Assumes nothing.
use Rattle.std.proofs.Common.{◌≡◌, ◌∙◌, ap, false, arith, ℕ, List, ◌<◌, ◌/◌, ◌%◌, eqb, get_or, set}
use Rattle.theory.specs.Test.{pick}
use Rattle.sets.specs.Symbols.{bit_of, word_of, with_words, without_symbol}
use Rattle.sets.specs.Symbols.Blocks.{SmallWords, changed}
use Rattle.sets.proofs.symbols.clear_symbol.Goals as goal
use Rattle.sets.proofs.symbols.clear_symbol.Goals.{then-i-own, else-i-own}

cleared : (old words : List ℕ) (v i x : ℕ) → SmallWords (with_words old) → words ≡ old → v < 256 → i ≡ v / 64
    → x ≡ word_of (λ k. pick (eqb k (v % 64)) false (bit_of (get_or words i 0) k)) 64
    → with_words (set words i x) ≡ without_symbol (with_words old) v
cleared old words v i x small e byte own h = rw e (changed (with_words old) v false small i x byte own (rw e at h))

pub loop-i-preserved : goal.loop-i-preserved
loop-i-preserved c = record {
  before = elim c.if-i-own.branch [
    | then-i-own w ↦ λ h. absurd (omega (arith, w.if-i-own.true))
    | else-i-own w ↦ λ h. w.words-is ∙ c.loop-i.invariant.before (omega arith)
  ];
  behind = elim c.if-i-own.branch [
    | then-i-own w ↦ λ h.
        let small : SmallWords (with_words c.args.words.now) = record { four = omega arith; small = c.fits-words } in
        ap with_words w.words-is
        ∙ cleared _ _ c.args.v _ _ small (c.loop-i.invariant.before (omega (arith, w.if-i-own.true))) (omega arith)
        (omega (arith, w.if-i-own.true, c.from-own.ensures)) w.clear_bit.ensures
    | else-i-own w ↦ λ h.
        ap with_words w.words-is ∙ c.loop-i.invariant.behind (omega (arith, w.if-i-own.false))
  ];
}

pub returns : goal.returns
returns c = c.loop-i.invariant.behind (omega arith)
