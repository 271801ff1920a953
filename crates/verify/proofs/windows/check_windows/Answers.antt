-- `windows::check_windows` meets its contract: it is the walk, with the symbols that `list_symbols` lists and with
-- tables that no window has used.
-- Assumes nothing.
use Rattle.std.proofs.Common.{◌∙◌, arith}
use Rattle.theory.specs.Older.Laws.{older_zeros}
use Rattle.sets.specs.Symbols.Listed.{listed-take}
use Rattle.sets.specs.Symbols.Patterns.{members-set_of_symbols}
use Rattle.verify.specs.Windows.{tables_none}
use Rattle.verify.proofs.windows.check_windows.Goals as goal

pub walk_windows-requires : goal.walk_windows-requires
walk_windows-requires c =
    let sides = c.requires.shape.sized.sides in
    let fresh = c.new-tables.ensures in (
      c.requires,
      listed-take _ _ _ _ c.list_symbols-d.ensures.count c.list_symbols-d.ensures.listed_after
          ∙ members-set_of_symbols _ _ c.symbol_set-set.ensures,
      older_zeros _ _ (omega arith) fresh.given,
      tables_none _ _ _ _ _ _ (record {
        cells = c.requires.size;
        tall = sides.height_good.positive;
        broad = sides.width_good.positive;
        height_le = sides.height_good.small;
        width_le = sides.width_good.small;
      }) sides.columns_good.small fresh.offsets fresh.own fresh.tops,
    )
