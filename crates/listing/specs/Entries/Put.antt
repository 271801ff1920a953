-- Pieces of bytes written one at a time, each at the place that it has in the whole, in whatever order: a cell that is
-- right stays right, and a piece that is written is right. So when every piece has been written, the buffer begins with
-- all of them joined.
-- Assumes nothing.
use Rattle.std.proofs.Common.{◌≡◌, refl, Bool, ◌⊎◌, set, take, sym, ap, subst, ◌∙◌, ⊎_elim, zero-add, add-one}
use Rattle.std.proofs.Common.{length-set, get_or-append-add, get_or-set_same, get_or-set_other, length-take-le, List}
use Rattle.std.proofs.Common.{◌++◌, ℕ, zero, suc, ◌+◌, ◌-◌, ◌*◌, ◌≤◌, ◌<◌, arith, length, get_or, drop, length-append}
use Rattle.std.proofs.Math.ListN.{get_or-append}
use Rattle.std.proofs.Math.Seq.{get_or-drop, get_or-take, ext_get_or}
use Rattle.theory.specs.Test.{Tested, holds, fails}
use Rattle.theory.specs.Test.Laws.{lt_tested, le_tested, eq_tested}
use Rattle.theory.specs.Join.{joined}
use Rattle.theory.specs.Join.Laws.{joined-zero, joined-suc}
use Rattle.theory.specs.Written.{written, length-written}

-- the place of piece k: behind all the pieces before it
unfoldable pub start_of : (ℕ → List ℕ) → ℕ → ℕ
start_of piece k = length (joined piece k)

-- cell w of a buffer is that of the first size pieces joined
abbrev pub RightCell : (ℕ → List ℕ) → ℕ → List ℕ → ℕ → Type 0
RightCell piece size l w = get_or l w 0 ≡ get_or (joined piece size) w 0

-- a buffer after some of the first size pieces were written, each at its place: those that Done says, and maybe others
pub record Puts (piece : ℕ → List ℕ) (size : ℕ) (Done : ℕ → Type 0) (old new : List ℕ) : Type 0 where
  pub long : length new ≡ length old
  pub stays : (w : ℕ) → RightCell piece size old w → RightCell piece size new w
  pub stands : (k : ℕ) → k < size → Done k → (w : ℕ) → start_of piece k ≤ w → w < start_of piece k + length (piece k)
      → RightCell piece size new w
  pub kept : (w : ℕ) → start_of piece size ≤ w → get_or new w 0 ≡ get_or old w 0

-- ---- a cell of what was written

module _ (l : List ℕ) (at : ℕ) (xs : List ℕ) (room : at + length xs ≤ length l) where
  front : length (take at l) ≡ at
  front = length-take-le at l (omega arith)

  both_front : length (take at l ++ xs) ≡ at + length xs
  both_front = length-append (take at l) xs ∙ ap (λ (n : ℕ). n + length xs) front

  pub written_before : (w : ℕ) → w < at → get_or (written l at xs) w 0 ≡ get_or l w 0
  unfolding written
  written_before w h =
      get_or-append (take at l ++ xs) (drop (at + length xs) l) 0 w (omega (arith, both_front))
      ∙ get_or-append (take at l) xs 0 w (omega (arith, front))
      ∙ get_or-take at l w 0 h

  pub written_in : (i : ℕ) → i < length xs → get_or (written l at xs) (at + i) 0 ≡ get_or xs i 0
  unfolding written
  written_in i h =
      get_or-append (take at l ++ xs) (drop (at + length xs) l) 0 (at + i) (omega (arith, both_front))
      ∙ subst (λ (n : ℕ). get_or (take at l ++ xs) (n + i) 0
      ≡ get_or xs i 0) front (get_or-append-add (take at l) xs i 0)

  pub written_behind : (w : ℕ) → at + length xs ≤ w → get_or (written l at xs) w 0 ≡ get_or l w 0
  unfolding written
  written_behind w h =
      let e : at + length xs + (w - (at + length xs)) ≡ w = omega arith in
      subst (λ (n : ℕ). get_or (take at l ++ xs ++ drop (at + length xs) l) n 0 ≡ get_or l w 0)
      (ap (λ (n : ℕ). n + (w - (at + length xs))) both_front ∙ e)
      (get_or-append-add (take at l ++ xs) (drop (at + length xs) l) (w - (at + length xs)) 0
      ∙ get_or-drop (at + length xs) l (w - (at + length xs)) 0
      ∙ ap (λ (n : ℕ). get_or l n 0) e)

  -- cells of f written: cell w is f's if it was before, or is one of them
  pub written_right : (f : ℕ → ℕ) → ((i : ℕ) → i < length xs → get_or xs i 0 ≡ f (at + i)) → (w : ℕ)
      → ((at ≤ w → w < at + length xs → ⊥) → get_or l w 0 ≡ f w)
      → get_or (written l at xs) w 0 ≡ f w
  written_right f cells w h = go (lt_tested w at) (lt_tested w (at + length xs))
    where
      go : {a b : Bool} → Tested (w < at) a → Tested (w < at + length xs) b → get_or (written l at xs) w 0 ≡ f w
      go (holds x) y = written_before w x ∙ h (λ a b. absurd (omega arith))
      go (fails x) (holds y) =
          let e : at + (w - at) ≡ w = omega arith in
          subst (λ (n : ℕ). get_or (written l at xs) n 0 ≡ f n) e
          (written_in (w - at) (omega arith) ∙ cells (w - at) (omega arith))
      go (fails x) (fails y) = written_behind w (omega arith) ∙ h (λ a b. absurd (y b))

-- ---- the places

module _ (piece : ℕ → List ℕ) where
  pub start_zero : start_of piece 0 ≡ 0
  unfolding start_of
  start_zero = ap length (joined-zero piece)

  pub start_suc : (k : ℕ) → start_of piece (suc k) ≡ start_of piece k + length (piece k)
  unfolding start_of
  start_suc k = ap length (joined-suc piece k) ∙ length-append (joined piece k) (piece k)

  pub start_le : (n k : ℕ) → k ≤ n → start_of piece k ≤ start_of piece n
  start_le zero k h = let e : k ≡ 0 = omega arith in rw e (omega arith)
  start_le (suc n) k h = go (start_le n k) (le_tested k n)
    where
      go : {t : Bool} → (k ≤ n → start_of piece k ≤ start_of piece n) → Tested (k ≤ n) t
          → start_of piece k ≤ start_of piece (suc n)
      go ih (holds l) = omega (arith, ih l, start_suc n)
      go ih (fails l) = let e : k ≡ suc n = omega arith in rw e (omega arith)

  -- the place behind piece k is the next piece's
  pub start_next : (k next at after : ℕ) (xs : List ℕ) → at ≡ start_of piece k → xs ≡ piece k → next ≡ k + 1
      → after ≡ at + length xs → after ≡ start_of piece next
  start_next k next at after xs a x n e =
      rw (n, add-one k) (omega (arith, start_suc k, ap length x))

  -- a piece ends before the whole does
  pub start_room : (n k : ℕ) → k < n → start_of piece k + length (piece k) ≤ start_of piece n
  start_room n k h = omega (arith, start_suc k, start_le n (suc k) h)

  -- a cell of piece k in the whole
  cell_in : (n k i : ℕ) → k < n → i < length (piece k)
      → get_or (joined piece n) (start_of piece k + i) 0 ≡ get_or (piece k) i 0
  unfolding start_of
  cell_in zero k i h b = absurd (omega arith)
  cell_in (suc n) k i h b =
      ap (λ (xs : List ℕ). get_or xs (start_of piece k + i) 0) (joined-suc piece n) ∙ go (cell_in n k i) (lt_tested k n)
    where
      go : {t : Bool} → (k < n → i < length (piece k)
          → get_or (joined piece n) (start_of piece k + i) 0 ≡ get_or (piece k) i 0) → Tested (k < n) t
          → get_or (joined piece n ++ piece n) (start_of piece k + i) 0 ≡ get_or (piece k) i 0
      go ih (holds l) =
          get_or-append (joined piece n) (piece n) 0 (start_of piece k + i) (omega (arith, start_room n k l)) ∙ ih l b
      go ih (fails l) =
          let e : k ≡ n = omega arith in
          rw e (get_or-append-add (joined piece n) (piece n) i 0)

  -- the piece that a cell of the whole is in
  data Inside (n w : ℕ) : Type 0 where
    inside : (k : ℕ) → k < n → start_of piece k ≤ w → w < start_of piece k + length (piece k) → Inside n w

  find : (n w : ℕ) → w < start_of piece n → Inside n w
  find zero w h = absurd (omega (arith, start_zero))
  find (suc n) w h = go (find n w) (lt_tested w (start_of piece n))
    where
      go : {t : Bool} → (w < start_of piece n → Inside n w) → Tested (w < start_of piece n) t → Inside (suc n) w
      go ih (holds l) = more (ih l)
        where
          more : Inside n w → Inside (suc n) w
          more (inside k a b c) = inside k (omega arith) b c
      go ih (fails l) = inside n (omega arith) (omega arith) (omega (arith, start_suc n))

  -- ---- pieces of the first `size`, in a buffer that has room for all of them

  module _ (size : ℕ) where
    -- none written
    pub puts_none : (Done : ℕ → Type 0) (l : List ℕ) → ((k : ℕ) → Done k → ⊥) → Puts piece size Done l l
    puts_none Done l none =
        record {
          long = refl;
          stays = λ w r. r;
          stands = λ k h d. absurd (none k d);
          kept = λ w h. refl;
        }

    -- no piece more
    pub puts_same : (Done Now : ℕ → Type 0) (old l : List ℕ) → Puts piece size Done old l
        → ((k : ℕ) → k < size → Now k → Done k) → Puts piece size Now old l
    puts_same Done Now old l p more =
        record {
          long = p.long;
          stays = p.stays;
          stands = λ k h d. p.stands k h (more k h d);
          kept = p.kept;
        }

    -- what was written first, and what then
    pub puts_then : (Done Then Now : ℕ → Type 0) (old l new : List ℕ) → Puts piece size Done old l
        → Puts piece size Then l new → ((k : ℕ) → k < size → Now k → Done k ⊎ Then k) → Puts piece size Now old new
    puts_then Done Then Now old l new p q which =
        record {
          long = q.long ∙ p.long;
          stays = λ w r. q.stays w (p.stays w r);
          stands = λ k h d w x y. ⊎_elim (λ a. q.stays w (p.stands k h a w x y)) (λ b. q.stands k h b w x y)
              (which k h d);
          kept = λ w h. q.kept w h ∙ p.kept w h;
        }

    module _ (Done : ℕ → Type 0) (old l : List ℕ) (room : start_of piece size ≤ length old)
        (p : Puts piece size Done old l) where
      -- there is room for every piece
      pub puts_room : (k : ℕ) → k < size → start_of piece k + length (piece k) ≤ length l
      puts_room k h = omega (arith, p.long, start_room size k h)

      -- one piece more
      pub puts_more : (Now : ℕ → Type 0) (k at : ℕ) (xs new : List ℕ) → k < size → at ≡ start_of piece k → xs ≡ piece k
          → new ≡ written l at xs → ((j : ℕ) → j < size → Now j → Done j ⊎ (j ≡ k)) → Puts piece size Now old new
      puts_more Now k at xs new h s x e which =
          record {
            long = ap length is ∙ length-written l (start_of piece k) (piece k) (puts_room k h) ∙ p.long;
            stays = λ w r. rw is (right w (λ _. p.stays w r));
            stands = λ j b d w y z. rw is (right w (λ out. here j b w y z out (which j b d)));
            kept = λ w b. ap (λ (c : List ℕ). get_or c w 0) is
                ∙ written_behind l (start_of piece k) (piece k) (puts_room k h) w (omega (arith, start_room size k h))
                ∙ p.kept w b;
          }
        where
          is : new ≡ written l (start_of piece k) (piece k)
          is = e ∙ ap (λ (n : ℕ). written l n xs) s ∙ ap (written l (start_of piece k)) x

          right : (w : ℕ) → ((start_of piece k ≤ w → w < start_of piece k + length (piece k) → ⊥)
              → RightCell piece size l w) → RightCell piece size (written l (start_of piece k) (piece k)) w
          right w r =
              written_right l (start_of piece k) (piece k) (puts_room k h) (λ w. get_or (joined piece size) w 0)
              (λ i b. sym (cell_in size k i h b)) w r

          here : (j : ℕ) → j < size → (w : ℕ) → start_of piece j ≤ w → w < start_of piece j + length (piece j)
              → (start_of piece k ≤ w → w < start_of piece k + length (piece k) → ⊥) → Done j ⊎ (j ≡ k)
              → RightCell piece size l w
          here j b w y z out d =
              ⊎_elim (λ a. p.stands j b a w y z)
              (λ i. absurd (subst (λ (n : ℕ). start_of piece n ≤ w → w < start_of piece n + length (piece n)
              → ⊥) (sym i)
              out y z)) d

      -- all pieces written, in whatever order: all of them joined, and the rest as it was
      pub puts_all : ((k : ℕ) → k < size → Done k) → l ≡ written old 0 (joined piece size)
      unfolding start_of
      puts_all all =
          ext_get_or 0 _ _ (p.long ∙ sym (length-written old 0 (joined piece size) (omega (arith, room))))
          (λ w h. go w (lt_tested w (start_of piece size)))
        where
          hit : (w : ℕ) → Inside size w → RightCell piece size l w
          hit w (inside k h x y) = p.stands k h (all k h) w x y

          whole : (w : ℕ) → w < start_of piece size → RightCell piece size (written old 0 (joined piece size)) w
          whole w h =
              written_right old 0 (joined piece size) (omega (arith, room)) (λ w. get_or (joined piece size) w 0)
              (λ i b. ap (λ (n : ℕ). get_or (joined piece size) n 0) (sym (zero-add i))) w
              (λ out. absurd (out (omega arith) (omega arith)))

          go : (w : ℕ) {t : Bool} → Tested (w < start_of piece size) t
              → get_or l w 0 ≡ get_or (written old 0 (joined piece size)) w 0
          go w (holds h) = hit w (find size w h) ∙ sym (whole w h)
          go w (fails h) =
              p.kept w (omega arith)
              ∙ sym (written_behind old 0 (joined piece size) (omega (arith, room)) w (omega arith))

-- ---- rows of `wide` pieces, passed column by column: where the next piece of each of the first `tall` rows goes

-- in every row the pieces before column left are passed
pub record Heads (piece : ℕ → List ℕ) (wide tall left : ℕ) (heads : List ℕ) : Type 0 where
  pub long : length heads ≡ 256
  pub each : (t : ℕ) → t < tall → get_or heads t 0 ≡ start_of piece (t * wide + left)

-- and in the rows above top that of column left too
pub record HeadsTo (piece : ℕ → List ℕ) (wide tall left top : ℕ) (heads : List ℕ) : Type 0 where
  pub long : length heads ≡ 256
  pub passed : (t : ℕ) → t < top → get_or heads t 0 ≡ start_of piece (t * wide + left + 1)
  pub ahead : (t : ℕ) → top ≤ t → t < tall → get_or heads t 0 ≡ start_of piece (t * wide + left)

module _ (piece : ℕ → List ℕ) (wide tall left : ℕ) where
  -- the rows' first places, row after row
  pub rows_none : (heads : List ℕ) → length heads ≡ 256 → Heads piece wide 0 0 heads
  rows_none heads h = record { long = h; each = λ t l. absurd (none t l) }
    where
      none : (t : ℕ) → t < 0 → ⊥
      none t l = omega arith

  pub rows_more : (heads : List ℕ) (top at : ℕ) → top < 256 → at ≡ start_of piece (top * wide)
      → Heads piece wide top 0 heads → Heads piece wide (top + 1) 0 (set heads top at)
  rows_more heads top at small e h = record { long = rw length-set h.long; each = λ t l. go t l (eq_tested t top) }
    where
      go : (t : ℕ) {b : Bool} → t < top + 1 → Tested (t ≡ top) b
          → get_or (set heads top at) t 0 ≡ start_of piece (t * wide + 0)
      go t l (holds d) =
          rw d (get_or-set_same heads top at 0 (omega (arith, h.long)) ∙ e ∙ ap (start_of piece) (omega arith))
      go t l (fails d) = get_or-set_other heads top t at 0 d ∙ h.each t (omega arith)

  -- down a column
  pub column_none : (heads : List ℕ) → Heads piece wide tall left heads → HeadsTo piece wide tall left 0 heads
  column_none heads h =
      record { long = h.long; passed = λ t l. absurd (none t l); ahead = λ t _ l. h.each t l }
    where
      none : (t : ℕ) → t < 0 → ⊥
      none t l = omega arith

  module _ (top : ℕ) (heads : List ℕ) (c : HeadsTo piece wide tall left top heads) where
    pub column_here : top < tall → get_or heads top 0 ≡ start_of piece (top * wide + left)
    column_here h = c.ahead top (omega arith) h

    pub column_more : top < tall → tall ≤ 256 → (next : ℕ)
        → next ≡ get_or heads top 0 + length (piece (top * wide + left))
        → HeadsTo piece wide tall left (top + 1) (set heads top next)
    column_more h small next n =
        record {
          long = rw length-set c.long;
          passed = λ t l. go t l (eq_tested t top);
          ahead = λ t a b. get_or-set_other heads top t next 0 (other t a) ∙ c.ahead t (omega arith) b;
        }
      where
        other : (t : ℕ) → top + 1 ≤ t → t ≡ top → ⊥
        other t a e = omega arith

        go : (t : ℕ) {b : Bool} → t < top + 1 → Tested (t ≡ top) b
            → get_or (set heads top next) t 0 ≡ start_of piece (t * wide + left + 1)
        go t l (holds e) =
            rw (e, add-one (top * wide + left))
            (get_or-set_same heads top next 0 (omega (arith, c.long)) ∙ n
            ∙ sym (start_suc piece (top * wide + left) ∙ omega (arith, column_here h)))
        go t l (fails d) = get_or-set_other heads top t next 0 d ∙ c.passed t (omega arith)

    pub column_over : tall ≤ top → Heads piece wide tall (left + 1) heads
    column_over a =
        record { long = c.long; each = λ t l. c.passed t (omega arith) ∙ ap (start_of piece) (omega arith) }
