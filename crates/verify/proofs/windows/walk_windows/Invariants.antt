-- What holds each time a loop of `windows::walk_windows` begins a round; `Answers.antt` says why.
use Rattle.std.proofs.Common.{◌≡◌, ◌+◌, ◌*◌, Ok}
use Rattle.theory.specs.Older.{Older}
use Rattle.matching.specs.Windows.{window_place}
use Rattle.shapes.specs.Questions.{question_in}
use Rattle.inheriting.specs.Inheritance.{CheckTables}
use Rattle.rules.specs.Check.{windows_to, found_to}
use Rattle.verify.proofs.windows.walk_windows.Given as goal

abbrev pub invariant-loop-k : goal.invariant-loop-k
invariant-loop-k l =
    let u = l.initial.v in record {
      window : l.v ≡ window_place u.columns u.height u.width l.k;
      marked_with : l.base ≡ 256 + l.k * 256;
      older : Older l.base l.tables.given;
      come_to : windows_to (question_in l.q) l.listing l.k ≡ Ok l.at;
      counted : l.found ≡ found_to (question_in l.q) l.listing l.k;
      kept : CheckTables l.q.text.now l.q.pattern.now u.columns u.height u.width l.tables;
    }
