-- The two columns of a match: what stands in them, that an image leads back, and that they agree.
-- Assumes nothing.
use Rattle.std.specs.Prelude.{◌≡◌, ℕ, ◌<◌, ◌≤◌, length, get_or}
use Rattle.std.proofs.Common.{sym, ◌∙◌, arith}
use Rattle.theory.specs.Table.Laws.{length-table, get_or-table}
use Rattle.theory.specs.Columns.{Agree}
use Rattle.theory.specs.Match.{image_of, column}
use Rattle.theory.specs.Match.Even.{Even, Image, at, nowhere, image}
use Rattle.theory.specs.Match.Even.{even_carries, even_swap}

below : {x : ℕ} → x < 256 → x ≡ 256 → ⊥
below h e = omega arith

module _ (m w : ℕ → ℕ) where
  pub length-column : (n : ℕ) → length (column m w n) ≡ 256
  unfolding column
  length-column n = length-table (image_of m w n) 256

  pub column_at : (n i d : ℕ) → i < 256 → get_or (column m w n) i d ≡ image_of m w n i
  unfolding column
  column_at n i d h = get_or-table (image_of m w n) 256 i d h

-- an image leads back
pub image_back : (m w : ℕ → ℕ) (n a b : ℕ) → Even m w n → b < 256 → image_of m w n a ≡ b → image_of w m n b ≡ a
image_back m w n a b ev small = go (image m w n a)
  where
    go : {v : ℕ} → Image m w n a v → v ≡ b → image_of w m n b ≡ a
    go (at k h e) x = rw (← x) (even_carries w m n (even_swap m w n ev) k h ∙ e)
    go (nowhere g) x = absurd (below small (sym x))

image_le : (m w : ℕ → ℕ) (n a : ℕ) → ((k : ℕ) → w k < 256) → image_of m w n a ≤ 256
image_le m w n a ws = go (image m w n a)
  where
    go : {v : ℕ} → Image m w n a v → v ≤ 256
    go (at k h e) = omega (arith, ws k)
    go (nowhere g) = omega arith

-- the two columns of a match agree
pub columns_agree : (m w : ℕ → ℕ) (n : ℕ) → Even m w n → ((k : ℕ) → m k < 256) → ((k : ℕ) → w k < 256)
    → Agree (column m w n) (column w m n)
columns_agree m w n ev ms ws =
    record {
      forward_le = λ a h. rw (column_at m w n a 0 h) (image_le m w n a ws);
      backward_le = λ b h. rw (column_at w m n b 0 h) (image_le w m n b ms);
      same = λ a ha b hb. (
        (λ e. column_at w m n b 0 hb ∙ image_back m w n a b ev hb (sym (column_at m w n a 0 ha) ∙ e)),
        (λ e. column_at m w n a 0 ha ∙ image_back w m n b a (even_swap m w n ev) ha (sym (column_at w m n b 0 hb) ∙ e)),
      );
    }
