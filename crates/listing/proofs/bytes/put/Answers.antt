-- `bytes::put` meets its contract: what the copy leaves is what stood before the place, the bytes, and what stood
-- behind them, and that is the bytes written there.
-- Assumes nothing.
use Rattle.std.proofs.Common.{◌≡◌, ◌+◌, ◌≤◌, ℕ, List, length, refl, sym, ◌∙◌, arith}
use Rattle.std.proofs.lemmas.List.{take-append-drop}
use Rattle.std.proofs.lemmas.Slice.{take-put_mid, drop-put_mid}
use borrow.Rule.Slice.PartMut.{put_mid}
use Rattle.theory.specs.Written.{written}
use Rattle.listing.proofs.bytes.put.Goals as goal

copied : (l bytes new : List ℕ) (at k : ℕ) → at + length bytes ≤ length l → k ≡ length bytes → new ≡ bytes
    → put_mid at k l new ≡ written l at bytes
unfolding written
copied l bytes new at k room e n =
    rw (e, n) (sym (take-append-drop (at + length bytes) (put_mid at (length bytes) l bytes))
    ∙ rw (
      take-put_mid at (length bytes) l bytes (at + length bytes) refl (omega arith),
      drop-put_mid at (length bytes) l bytes (at + length bytes) (omega arith) (omega arith) refl,
    ))

pub returns-clause-buffer_after : goal.returns-clause-buffer_after
returns-clause-buffer_after c =
    copied c.args.buffer.now c.args.bytes.now _ c.args.at _ c.requires (omega arith) c.copy_from_slice.ensures.after
