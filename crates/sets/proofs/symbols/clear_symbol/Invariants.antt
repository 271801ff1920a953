-- What holds each time the loop of `symbols::clear_symbol` begins a round; `Answers.antt` says why.
use Rattle.std.proofs.Common.{◌≡◌, ◌≤◌, ◌<◌}
use Rattle.sets.specs.Symbols.{with_words, without_symbol}
use Rattle.sets.proofs.symbols.clear_symbol.Given as goal

abbrev pub invariant-loop-i : goal.invariant-loop-i
invariant-loop-i l = record {
  before : l.i ≤ l.own → l.words ≡ l.initial.words;
  behind : l.own < l.i → with_words l.words ≡ without_symbol (with_words l.initial.words) l.v;
}
