-- `strip::flag_linked` meets its contract: the counts and the links are the text's, and the window above matches, so
-- what is written is the flag of each window below it.
-- Assumes nothing.
use Rattle.refusals.specs.Said.Laws.{same_buffer}
use Rattle.flagging.specs.Links.{strip_links_written, strip_links_kept}
use Rattle.flagging.specs.Windows.{match_clear}
use Rattle.flagging.proofs.strip.flag_linked.Goals as goal

pub returns-clause-flagged_below : goal.returns-clause-flagged_below
returns-clause-flagged_below g c =
    let r = c.requires.0 in
    let a = c.args in
    let e = same_buffer c.strip_links.ensures in
    c.flag_strip.ensures.written a.text.now (record {
      shape = r.room.shape;
      symbols_is = r.symbols_is;
      counts_are = r.counts_are;
      links_are = strip_links_written a.text.now a.s a.left a.links.now _ r.room.shape c.requires.1 r.room.links_room e;
      above = match_clear _ _ _ _ _ r.room.shape c.requires.1 r.room.size c.requires.5;
    })

pub returns-clause-rest_kept : goal.returns-clause-rest_kept
returns-clause-rest_kept g c =
    let r = c.requires.0.room in
    let a = c.args in
    strip_links_kept a.text.now a.s a.left a.links.now _ r.shape c.requires.1 r.links_room
    (same_buffer c.strip_links.ensures)
