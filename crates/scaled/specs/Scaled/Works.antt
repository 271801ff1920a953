-- What one scale after the other leaves in links, counts and flags. Each writes its table over the front of what the
-- one before left (`layers_to`, `works_are`): so the last comes first, behind it what the one before left, and so on.
-- Entry by entry: the number of windows falls with the scale, so behind the windows of k + 1 and before the end of
-- those of k the entry is k's (`flags_of`, `counts_of`), behind those of 1 it is the old one; links are 0 as far as the
-- last scale needs them (`links_zero`). To do it all twice is to do it once (`works_again`).
-- Assumes nothing.
use Rattle.std.specs.Prelude.{◌≡◌, List, length, drop}
use Rattle.std.proofs.Math.Path.{refl, sym, ap}
use Rattle.std.proofs.Common.{◌∙◌, subst, add-one, arith, length-append, length-drop, get_or-append-add, get_or-drop, ext_get_or}
use Prim.Native.Nat.{ℕ, zero, suc, ◌+◌, ◌-◌, ◌≤◌, ◌<◌}
use Rattle.std.proofs.Math.Decide.{dec_lt, ℕ_discrete}
use Rattle.std.proofs.Math.ListN.{get_or, get_or-append}
use Rattle.theory.specs.Table.{table}
use Rattle.theory.specs.Table.Laws.{length-table, get_or-table}
use Rattle.refusals.specs.Said.{over_front}
use Rattle.shapes.specs.Questions.{Question, links_needed, windows_of}
use Rattle.flags.specs.Flags.{Work, working, RoomFor, rooms_of, count_at, window_flag, work_after}
use Rattle.scaled.specs.Scaled.{scaled, largest_of, works_to}
use Rattle.scaled.specs.Scaled.Fit.{PosedAt, EveryRoom, every_room, links_rise, windows_fall}

-- ---- one table over the front of a buffer

module _ (f : ℕ → ℕ) (n : ℕ) (old : List ℕ) where
  pub front_inside : (i : ℕ) → i < n → get_or (over_front (table f n) old) i 0 ≡ f i
  front_inside i h =
      get_or-append (table f n) _ 0 i (omega (arith, length-table f n)) ∙ get_or-table f n i 0 h

  pub front_behind : (i : ℕ) → n ≤ i → get_or (over_front (table f n) old) i 0 ≡ get_or old i 0
  front_behind i h =
      let e : i ≡ length (table f n) + (i - n) = omega (arith, length-table f n) in
      ap (λ (j : ℕ). get_or (over_front (table f n) old) j 0) e
      ∙ get_or-append-add (table f n) (drop (length (table f n)) old) (i - n) 0
      ∙ get_or-drop (length (table f n)) old (i - n) 0
      ∙ ap (λ (j : ℕ). get_or old j 0) (sym e)

  pub front_length : n ≤ length old → length (over_front (table f n) old) ≡ length old
  front_length h =
      length-append (table f n) (drop (length (table f n)) old)
      ∙ omega (arith, length-table f n, length-drop (length (table f n)) old)

-- ---- one table after the other

-- f 1, .., f n one after the other, each over the front of what is there: the last comes first
unfoldable pub layers_to : (ℕ → ℕ → ℕ) → (ℕ → ℕ) → ℕ → List ℕ → List ℕ
layers_to f size zero old = old
layers_to f size (suc n) old = over_front (table (f (suc n)) (size (suc n))) (layers_to f size n old)

module _ (f : ℕ → ℕ → ℕ) (size : ℕ → ℕ) where
  -- behind them all stands what was there
  pub layers_behind : (n : ℕ) (old : List ℕ) (i : ℕ) → ((j : ℕ) → 1 ≤ j → j ≤ n → size j ≤ i)
      → get_or (layers_to f size n old) i 0 ≡ get_or old i 0
  unfolding layers_to
  layers_behind zero old i h = refl
  layers_behind (suc n) old i h =
      front_behind (f (suc n)) (size (suc n)) (layers_to f size n old) i (h (suc n) (omega arith) (omega arith))
      ∙ layers_behind n old i (λ j low high. h j low (omega arith))

  -- inside k's and behind those after it stands k's
  pub layers_of : (n : ℕ) (old : List ℕ) (k i : ℕ) → 1 ≤ k → k ≤ n → i < size k
      → ((j : ℕ) → k < j → j ≤ n → size j ≤ i) → get_or (layers_to f size n old) i 0 ≡ f k i
  unfolding layers_to
  layers_of zero old k i low high here after = absurd (omega arith)
  layers_of (suc n) old k i low high here after = go (layers_of n old k i low) (ℕ_discrete k (suc n))
    where
      go : (k ≤ n → i < size k → ((j : ℕ) → k < j → j ≤ n → size j ≤ i) → get_or (layers_to f size n old) i 0 ≡ f k i)
          → Dec (k ≡ suc n)
          → get_or (over_front (table (f (suc n)) (size (suc n))) (layers_to f size n old)) i 0 ≡ f k i
      go ih (yes e) =
          front_inside (f (suc n)) (size (suc n)) (layers_to f size n old) i (rw (← e) here)
          ∙ ap (λ (j : ℕ). f j i) (sym e)
      go ih (no d) =
          front_behind (f (suc n)) (size (suc n)) (layers_to f size n old) i (after (suc n) (omega arith) (omega arith))
          ∙ ih (omega arith) here (λ j low' high'. after j low' (omega arith))

  -- the buffer keeps its length
  pub layers_length : (n : ℕ) (old : List ℕ) → ((j : ℕ) → 1 ≤ j → j ≤ n → size j ≤ length old)
      → length (layers_to f size n old) ≡ length old
  unfolding layers_to
  layers_length zero old h = refl
  layers_length (suc n) old h =
      let ih = layers_length n old (λ j low high. h j low (omega arith)) in
      front_length (f (suc n)) (size (suc n)) (layers_to f size n old)
      (omega (arith, ih, h (suc n) (omega arith) (omega arith)))
      ∙ ih

  -- inside one of them it does not matter what was there
  pub layers_same : (n : ℕ) (old other : List ℕ) (k i : ℕ) → 1 ≤ k → k ≤ n → i < size k
      → get_or (layers_to f size n old) i 0 ≡ get_or (layers_to f size n other) i 0
  unfolding layers_to
  layers_same zero old other k i low high here = absurd (omega arith)
  layers_same (suc n) old other k i low high here =
      go (layers_same n old other k i low) (dec_lt i (size (suc n))) (ℕ_discrete k (suc n))
    where
      go : (k ≤ n → i < size k → get_or (layers_to f size n old) i 0 ≡ get_or (layers_to f size n other) i 0)
          → Dec (i < size (suc n)) → Dec (k ≡ suc n)
          → get_or (over_front (table (f (suc n)) (size (suc n))) (layers_to f size n old)) i 0
          ≡ get_or (over_front (table (f (suc n)) (size (suc n))) (layers_to f size n other)) i 0
      go ih (yes l) d =
          front_inside (f (suc n)) (size (suc n)) (layers_to f size n old) i l
          ∙ sym (front_inside (f (suc n)) (size (suc n)) (layers_to f size n other) i l)
      go ih (no l) (yes e) = absurd (l (rw (← e) here))
      go ih (no l) (no d) =
          front_behind (f (suc n)) (size (suc n)) (layers_to f size n old) i (omega arith)
          ∙ ih (omega arith) here
          ∙ sym (front_behind (f (suc n)) (size (suc n)) (layers_to f size n other) i (omega arith))

  -- written twice they are as written once, where one of them is the longest
  pub layers_again : (n top : ℕ) (old : List ℕ) → 1 ≤ top → top ≤ n
      → ((j : ℕ) → 1 ≤ j → j ≤ n → size j ≤ size top) → size top ≤ length old
      → layers_to f size n (layers_to f size n old) ≡ layers_to f size n old
  layers_again n top old low high most room =
      ext_get_or 0 (layers_to f size n (layers_to f size n old)) (layers_to f size n old)
      (layers_length n (layers_to f size n old) (λ j l h. omega (arith, once, most j l h)))
      (λ i _. go i (dec_lt i (size top)))
    where
      once : length (layers_to f size n old) ≡ length old
      once = layers_length n old (λ j l h. omega (arith, most j l h, room))

      go : (i : ℕ) → Dec (i < size top)
          → get_or (layers_to f size n (layers_to f size n old)) i 0 ≡ get_or (layers_to f size n old) i 0
      go i (yes l) = layers_same n (layers_to f size n old) old top i low high l
      go i (no l) =
          layers_behind n (layers_to f size n old) i (λ j a b. omega (arith, most j a b))

-- ---- links, counts and flags

module _ (q : Question) where
  -- how many links and windows scale k has
  abbrev pub links_at : ℕ → ℕ
  links_at k = links_needed (scaled k q)

  abbrev pub windows_at : ℕ → ℕ
  windows_at k = windows_of (scaled k q)

  -- after the scales 1 to n each buffer is a fold of its tables
  pub works_are : (n : ℕ) (w : Work) → works_to q n w
      ≡ working (layers_to (λ k p. 0) links_at n w.links)
      (layers_to (λ k. count_at (scaled k q)) windows_at n w.counts)
      (layers_to (λ k. window_flag (scaled k q)) windows_at n w.flags)
  unfolding works_to layers_to work_after
  works_are zero w = refl
  works_are (suc n) w = ap (work_after (scaled (suc n) q)) (works_are n w)

  -- one scale more
  pub works_none : (w : Work) → works_to q 0 w ≡ w
  unfolding works_to
  works_none w = refl

  pub works_next : (n : ℕ) (w : Work) → works_to q (n + 1) w ≡ work_after (scaled (n + 1) q) (works_to q n w)
  unfolding works_to
  works_next n w = rw (add-one n)

  module _ (w : Work) (n : ℕ) where
    links_are : (works_to q n w).links ≡ layers_to (λ k p. 0) links_at n w.links
    links_are = ap (λ (v : Work). v.links) (works_are n w)

    counts_are : (works_to q n w).counts ≡ layers_to (λ k. count_at (scaled k q)) windows_at n w.counts
    counts_are = ap (λ (v : Work). v.counts) (works_are n w)

    flags_are : (works_to q n w).flags ≡ layers_to (λ k. window_flag (scaled k q)) windows_at n w.flags
    flags_are = ap (λ (v : Work). v.flags) (works_are n w)

    -- of the last scale, as far as its windows go
    pub flags_last : (i : ℕ) → 1 ≤ n → i < windows_at n → get_or (works_to q n w).flags i 0 ≡ window_flag (scaled n q) i
    flags_last i low here =
        ap (λ (l : List ℕ). get_or l i 0) flags_are
        ∙ layers_of _ windows_at n w.flags n i low (omega arith) here (λ j a b. absurd (omega (arith, a, b)))

    pub counts_last : (i : ℕ) → 1 ≤ n → i < windows_at n → get_or (works_to q n w).counts i 0 ≡ count_at (scaled n q) i
    counts_last i low here =
        ap (λ (l : List ℕ). get_or l i 0) counts_are
        ∙ layers_of _ windows_at n w.counts n i low (omega arith) here (λ j a b. absurd (omega (arith, a, b)))

    -- of scale k, behind the windows of k + 1
    pub flags_of : (k i : ℕ) → 1 ≤ k → k ≤ n → i < windows_at k → windows_at (k + 1) ≤ i
        → get_or (works_to q n w).flags i 0 ≡ window_flag (scaled k q) i
    flags_of k i low high here after =
        ap (λ (l : List ℕ). get_or l i 0) flags_are
        ∙ layers_of _ windows_at n w.flags k i low high here
        (λ j a b. omega (arith, windows_fall q (k + 1) j (omega (arith, a)), after))

    pub counts_of : (k i : ℕ) → 1 ≤ k → k ≤ n → i < windows_at k → windows_at (k + 1) ≤ i
        → get_or (works_to q n w).counts i 0 ≡ count_at (scaled k q) i
    counts_of k i low high here after =
        ap (λ (l : List ℕ). get_or l i 0) counts_are
        ∙ layers_of _ windows_at n w.counts k i low high here
        (λ j a b. omega (arith, windows_fall q (k + 1) j (omega (arith, a)), after))

    -- behind the windows of k = 1 as it was
    pub flags_behind : (i : ℕ) → windows_at 1 ≤ i → get_or (works_to q n w).flags i 0 ≡ get_or w.flags i 0
    flags_behind i h =
        ap (λ (l : List ℕ). get_or l i 0) flags_are
        ∙ layers_behind _ windows_at n w.flags i (λ j a b. omega (arith, windows_fall q 1 j a, h))

    pub counts_behind : (i : ℕ) → windows_at 1 ≤ i → get_or (works_to q n w).counts i 0 ≡ get_or w.counts i 0
    counts_behind i h =
        ap (λ (l : List ℕ). get_or l i 0) counts_are
        ∙ layers_behind _ windows_at n w.counts i (λ j a b. omega (arith, windows_fall q 1 j a, h))

    -- links are 0 as far as the last scale needs them, and behind as they were
    pub links_zero : (i : ℕ) → 1 ≤ n → i < links_at n → get_or (works_to q n w).links i 0 ≡ 0
    links_zero i low here =
        ap (λ (l : List ℕ). get_or l i 0) links_are
        ∙ layers_of (λ k p. 0) links_at n w.links n i low (omega arith) here (λ j a b. absurd (omega (arith, a, b)))

    pub links_behind : (i : ℕ) → links_at n ≤ i → get_or (works_to q n w).links i 0 ≡ get_or w.links i 0
    links_behind i h =
        ap (λ (l : List ℕ). get_or l i 0) links_are
        ∙ layers_behind (λ k p. 0) links_at n w.links i (λ j a b. omega (arith, links_rise q j n b, h))

  -- ---- where there is room for every scale

  module _ (w : Work) (a : EveryRoom q (rooms_of w)) where
    -- the buffers keep their lengths
    pub works_rooms : (n : ℕ) → n ≤ largest_of q → rooms_of (works_to q n w) ≡ rooms_of w
    works_rooms n high =
        rw (
          links_are w n,
          counts_are w n,
          flags_are w n,
          layers_length (λ k p. 0) links_at n w.links
              (λ j l h. omega (arith, links_rise q j (largest_of q) (omega (arith, h, high)), a.links_room)),
          layers_length (λ k. count_at (scaled k q)) windows_at n w.counts
              (λ j l h. omega (arith, windows_fall q 1 j l, a.counts_room)),
          layers_length (λ k. window_flag (scaled k q)) windows_at n w.flags
              (λ j l h. omega (arith, windows_fall q 1 j l, a.flags_room)),
        )

    -- so there is room for every scale still
    pub works_room : (n : ℕ) → n ≤ largest_of q → EveryRoom q (rooms_of (works_to q n w))
    works_room n high = subst (EveryRoom q) (sym (works_rooms n high)) a

    -- and for the next one's own search
    pub next_room : (n : ℕ) → n + 1 ≤ largest_of q
        → PosedAt (n + 1) q × RoomFor (scaled (n + 1) q) (rooms_of (works_to q n w))
    next_room n high =
        every_room q (rooms_of (works_to q n w)) (works_room n (omega (arith, high))) (n + 1) (omega arith) high

    -- to do it all twice is to do it once
    pub works_again : (n : ℕ) → 1 ≤ n → n ≤ largest_of q → works_to q n (works_to q n w) ≡ works_to q n w
    works_again n low high =
        works_are n (works_to q n w)
        ∙ rw (
          links_are w n,
          counts_are w n,
          flags_are w n,
          layers_again (λ k p. 0) links_at n n w.links low (omega arith)
              (λ j l h. links_rise q j n h)
              (omega (arith, links_rise q n (largest_of q) high, a.links_room)),
          layers_again (λ k. count_at (scaled k q)) windows_at n 1 w.counts (omega arith) low
              (λ j l h. windows_fall q 1 j l) a.counts_room,
          layers_again (λ k. window_flag (scaled k q)) windows_at n 1 w.flags (omega arith) low
              (λ j l h. windows_fall q 1 j l) a.flags_room,
        )
