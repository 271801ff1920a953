-- What the links operation refuses and what it leaves, for its callers: the chain 2, 3, 4, 5, 9 taken apart from its
-- front. And that a strip of a text of good shape is one.
-- Assumes nothing.
use Rattle.std.specs.Prelude.{◌≡◌, true, false, ℕ, ◌≤◌, ◌<◌, leb, length, Result, Ok, Err, ⊤}
use Rattle.std.proofs.Common.{sym, ◌∙◌, arith}
use Rattle.std.proofs.Math.Path.{ap}
use mathlib.Core.List.{List, [], ◌++◌}
use Rattle.std.proofs.Math.ListN.{drop}
use borrow.Author.Tests.{le-leb, lt-leb}
use Rattle.theory.specs.Test.Laws.{le_tested, says_true}
use Rattle.theory.specs.Table.{table}
use Rattle.theory.specs.Table.Laws.{length-table}
use Rattle.refusals.specs.Said.{accepts, refuses, ◌then◌, check, outcome_said, filled}
use Rattle.refusals.specs.Said.Laws.{then_stopped, then_both, check_passed, check_true, filled_kept, filled_new}
use Rattle.shapes.specs.Questions.{text_said}
use Rattle.shapes.specs.Questions.Laws.{text_shaped, text_said_lem}
use Rattle.shapes.specs.Shapes.{ShapeOf, across}
use Rattle.shapes.specs.declared.shapes.Shape.{Shape}
use Rattle.shapes.specs.Shapes.Laws.{corner_inside_lem}
use Rattle.refusals.specs.declared.refusals.Refusal.{Refusal}
use Rattle.grid.specs.Strips.{link, strip_symbols, strip_size, strip_sides, strip_inside, links_said, links_of, StripOf}
use Rattle.grid.specs.Strips.{strip_from}
use Rattle.grid.specs.declared.strips.Strip.{Strip}

-- the strip at a column of a text of good shape is a strip of the text, as tall as the text
pub strip_of : (s : Shape) (left cells : ℕ) → ShapeOf s cells → left < across s
    → StripOf (strip_from s.rows s.columns s.width left) cells
strip_of s left cells of beside =
    let z = of.sized in
    record {
      shape = record {
        sized = record {
          sides = record {
            rows_good = z.sides.rows_good;
            columns_good = z.sides.columns_good;
            height_good = z.sides.rows_good;
            width_good = z.sides.width_good;
          };
          fitting = record { height_le = omega arith; width_le = z.fitting.width_le };
        };
        cells_is = of.cells_is;
      };
      inside = omega (arith, z.fitting.width_le);
    }

module _ (text : List ℕ) (t : Strip) (room : ℕ) where
  -- 2, 3, 4 are refused as everywhere
  pub links_stopped : (o : Result ⊤ Refusal) (why : Refusal) → o ≡ Err why → outcome_said o ≡ text_said text (strip_sides t)
      → outcome_said o ≡ links_said text t room
  unfolding links_said
  links_stopped o why e d = then_stopped o why (text_said text (strip_sides t)) _ e d

  -- nothing is refused exactly if shape, column and buffer are good
  pub links_passed : (values : List ℕ) → links_said text t room ≡ accepts values
      → StripOf t (length text) × (strip_size t ≤ room)
  unfolding links_said
  links_passed values e =
      let a = then_both (text_said text (strip_sides t)) (check (strip_inside t) 5 then check (leb (strip_size t) room) 9)
      values e in
      let p = check_passed (strip_inside t) 5 [] (check (leb (strip_size t) room) 9) values a.1 in (
        record {
          shape = text_shaped text (strip_sides t) a.0.0 a.0.1;
          inside = (says_true (corner_inside_lem t.rows t.columns t.rows t.width 0 t.left) p.0).column_le;
        },
        says_true (le_tested (strip_size t) room) (check_true _ 9 [] values p.1),
      )

  module _ (shape : ShapeOf (strip_sides t) (length text)) where
    pub links_column_refused : strip_inside t ≡ false → refuses 5 [] ≡ links_said text t room
    unfolding links_said
    links_column_refused a = rw (text_said_lem text (strip_sides t) shape, a)

    pub links_room_refused : strip_inside t ≡ true → room < strip_size t → refuses 9 [] ≡ links_said text t room
    unfolding links_said
    links_room_refused a h = rw (text_said_lem text (strip_sides t) shape, a, lt-leb (strip_size t) room h)

    pub links_accepted : strip_inside t ≡ true → strip_size t ≤ room → accepts [] ≡ links_said text t room
    unfolding links_said
    links_accepted a h = rw (text_said_lem text (strip_sides t) shape, a, le-leb (strip_size t) room h)

module _ (text : List ℕ) (t : Strip) (links : List ℕ) where
  -- the buffer of an accepted call
  pub links_after : links_said text t (length links) ≡ accepts []
      → (links_of text t links).buffer ≡ table (link (strip_symbols text t)) (strip_size t) ++ drop (strip_size t) links
  unfolding links_of
  links_after e = rw (e, length-table (link (strip_symbols text t)) (strip_size t))

  -- a refused call
  pub links_kept : (o : Result ⊤ Refusal) (why : Refusal) → o ≡ Err why → outcome_said o ≡ links_said text t (length links)
      → filled o links ≡ links_of text t links
  unfolding links_of
  links_kept o why e d =
      filled_kept o why (links_said text t (length links)) (table (link (strip_symbols text t)) (strip_size t)) links e d

  -- an accepted one
  pub links_new : (r : List ℕ) → links_said text t (length links) ≡ accepts []
      → r ≡ table (link (strip_symbols text t)) (strip_size t) ++ drop (strip_size t) links
      → filled (Ok tt) r ≡ links_of text t links
  unfolding links_of
  links_new r z e =
      filled_new (links_said text t (length links)) (table (link (strip_symbols text t)) (strip_size t)) links r z
      (e ∙ ap (λ (n : ℕ). table (link (strip_symbols text t)) (strip_size t) ++ drop n links)
      (sym (length-table (link (strip_symbols text t)) (strip_size t))))
