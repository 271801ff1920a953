-- What the links operation leaves for a strip of a shape that was not refused: the strip's links, and behind them what
-- was there.
-- Assumes nothing.
use Rattle.std.specs.Prelude.{◌≡◌, refl, List, [], ◌++◌, ℕ, ◌*◌, ◌≤◌, ◌<◌, length, drop}
use Rattle.std.proofs.Common.{sym, ◌∙◌, ap, arith, length-append, length-drop}
use Rattle.std.proofs.Math.ListN.{get_or-append}
use Rattle.std.proofs.Math.Seq.{drop-append_seam}
use Rattle.theory.specs.Test.Laws.{is_true}
use Rattle.theory.specs.Table.{table}
use Rattle.theory.specs.Table.Laws.{length-table, get_or-table}
use Rattle.shapes.specs.Shapes.{ShapeOf, across}
use Rattle.shapes.specs.Shapes.Laws.{corner_inside_lem}
use Rattle.cells.specs.Windows.{strip_at}
use Rattle.refusals.specs.Said.{accepts}
use Rattle.grid.specs.Strips.{link, links_said, links_of, strip_from}
use Rattle.grid.specs.Strips.Laws.{links_accepted, links_after, strip_of}
use Rattle.shapes.specs.declared.shapes.Shape.{Shape}
use Rattle.flags.specs.Flags.Strips.{LinksAre}

-- all but the first n entries of a buffer are as they were
pub record RestKept (n : ℕ) (before after : List ℕ) : Type 0 where
  pub long : length after ≡ length before
  pub behind : drop n after ≡ drop n before

pub kept_same : (n : ℕ) (l : List ℕ) → RestKept n l l
kept_same n l = record { long = refl; behind = refl }

pub kept_then : (n : ℕ) (a b c : List ℕ) → RestKept n a b → RestKept n b c → RestKept n a c
kept_then n a b c h k = record { long = k.long ∙ h.long; behind = k.behind ∙ h.behind }

module _ (text : List ℕ) (s : Shape) (left : ℕ) (links after : List ℕ) (shape : ShapeOf s (length text))
    (strip : left < across s)
    (room : s.rows * s.width ≤ length links)
    (is : after ≡ (links_of text (strip_from s.rows s.columns s.width left) links).buffer) where
  accepted : links_said text (strip_from s.rows s.columns s.width left) (length links) ≡ accepts []
  accepted =
      sym
      (links_accepted text (strip_from s.rows s.columns s.width left) (length links)
      (strip_of s left (length text) shape strip).shape
      (is_true (corner_inside_lem s.rows s.columns s.rows s.width 0 left)
      (record { row_le = omega arith; column_le = omega arith })) room)

  strip_links : List ℕ
  strip_links = table (link (strip_at text s.columns left s.width)) (s.rows * s.width)

  after_is : after ≡ strip_links ++ drop (s.rows * s.width) links
  unfolding strip_links
  after_is = is ∙ links_after text (strip_from s.rows s.columns s.width left) links accepted

  length_strip_links : length strip_links ≡ s.rows * s.width
  unfolding strip_links
  length_strip_links = length-table _ _

  pub strip_links_written : LinksAre text s left after
  unfolding strip_links
  strip_links_written p h =
      rw after_is
      (get_or-append strip_links (drop (s.rows * s.width) links) 0 p (omega (arith, length_strip_links))
      ∙ get_or-table (link (strip_at text s.columns left s.width)) (s.rows * s.width) p 0 h)

  pub strip_links_kept : RestKept (s.rows * s.width) links after
  strip_links_kept =
      record {
        long = ap length after_is ∙ length-append strip_links (drop (s.rows * s.width) links)
            ∙ omega (arith, length_strip_links, length-drop (s.rows * s.width) links);
        behind = ap (drop (s.rows * s.width)) after_is ∙ seam;
      }
    where
      seam : drop (s.rows * s.width) (strip_links ++ drop (s.rows * s.width) links) ≡ drop (s.rows * s.width) links
      seam =
          ap (λ (n : ℕ). drop n (strip_links ++ drop (s.rows * s.width) links)) (sym length_strip_links)
          ∙ drop-append_seam strip_links (drop (s.rows * s.width) links)
