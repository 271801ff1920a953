-- `windows::window_cell` meets its contract: the place is formed as `place` is, and the text is asked for it.
-- Assumes nothing.
use Rattle.std.proofs.Common.{◌≡◌, ℕ, List, Option, Some, None, ◌∙◌, sym, refl, slice_get, option_copied}
use Rattle.std.proofs.lemmas.Option.{slice_get_past, slice_get_read}
use Rattle.std.specs.Slice.{IsItemAt}
use denote.Ref.{Bor}
use Rattle.cells.specs.Windows.Laws.{cell_read}
use Rattle.cells.proofs.windows.window_cell.Goals as goal

-- what `get` lends, copied, is the item or none
got : (xs : List ℕ) (i : ℕ) (r : Option (Bor ℕ)) → IsItemAt xs i r → option_copied r ≡ slice_get xs i
got xs i None h = sym (slice_get_past xs i h.3)
got xs i (Some x) h = sym (slice_get_read xs _ i x.now refl h.3.0 h.1)

pub returns : goal.returns
returns c =
    c.copied.ensures ∙ got _ _ _ c.get.ensures.lookup
    ∙ rw (c.from.ensures, c.from-2.ensures, c.from-3.ensures, c.from-4.ensures, c.from-5.ensures)
    (cell_read _ _ _ _ _ _ _ refl)
