-- Bytes written into a buffer at a place.
-- Laws of `written`: a run of stores is one piece of bytes written, and two pieces one after the other are one piece.
-- So a function that stores a record's bytes one by one has written its bytes.
-- Assumes nothing.
use Rattle.std.specs.Prelude.{◌≡◌, List, [], ◌∷◌, ◌++◌, ℕ, suc, ◌+◌, ◌≤◌, ◌<◌, length, take, drop, set}
use Rattle.std.proofs.Common.{sym, ◌∙◌, ap, append-nil, append_assoc, add_assoc, add-one, arith, length-append, length-drop, length-take-le, take_at, drop-drop}
use Rattle.std.proofs.Math.Seq.{drop-append-add, append_snoc}
use Rattle.std.proofs.lemmas.List.{set_split}

-- a buffer after bytes were written at a place
unfoldable pub written : List ℕ → ℕ → List ℕ → List ℕ
written old at bytes = take at old ++ bytes ++ drop (at + length bytes) old

-- what stands before and the bytes themselves, together as long as the place after the bytes says
length_front : (l xs : List ℕ) (at : ℕ) → at ≤ length l → length (take at l ++ xs) ≡ at + length xs
length_front l xs at h = rw (length-append, length-take-le at l)

drop_past : (p q : List ℕ) (n k : ℕ) → length p ≡ n → drop (n + k) (p ++ q) ≡ drop k q
drop_past p q n k e = rw (← e) (drop-append-add p q k)

-- bytes replace bytes: the buffer stays as long
pub length-written : (l : List ℕ) (at : ℕ) (xs : List ℕ) → at + length xs ≤ length l
    → length (written l at xs) ≡ length l
unfolding written
length-written l at xs h =
    let start : at ≤ length l = omega arith in
    let front = length_front l xs at start in
    rw (length-append, length-drop) (omega arith)

-- a piece behind a piece
pub written-append : (l : List ℕ) (at : ℕ) (xs ys : List ℕ) → at ≤ length l
    → written (written l at xs) (at + length xs) ys ≡ written l at (xs ++ ys)
unfolding written
written-append l at xs ys h =
    let e : length (take at l ++ xs) ≡ at + length xs = length_front l xs at h in
    rw (
      take_at (take at l ++ xs) (drop (at + length xs) l) (at + length xs) e,
      drop_past (take at l ++ xs) (drop (at + length xs) l) (at + length xs) (length ys) e,
      drop-drop (length ys) (at + length xs) l,
      append_assoc (take at l) xs ys,
      length-append xs ys,
      add_assoc at (length xs) (length ys),
    )

-- a store is one byte written
pub written-set : (l : List ℕ) (at a : ℕ) → at < length l → set l at a ≡ written l at (a ∷ [])
unfolding written
written-set l at a h = rw (set_split l at a h, append_snoc (take at l) a (drop (at + 1) l), add-one)

-- a store behind a piece
pub written_snoc : (l : List ℕ) (at : ℕ) (xs : List ℕ) (a : ℕ) → at + length xs < length l
    → set (written l at xs) (at + length xs) a ≡ written l at (xs ++ (a ∷ []))
written_snoc l at xs a h =
    let long : length (written l at xs) ≡ length l = length-written l at xs (omega arith) in
    written-set (written l at xs) (at + length xs) a (omega arith) ∙ written-append l at xs (a ∷ []) (omega arith)

-- ---- a run of stores

-- bytes stored one by one, the first of them k places behind `at`. On bytes that are written out it computes to the
-- stores themselves, `set (set l (at + 1) a) (at + 2) b ..`, which is what straight-line code leaves.
abbrev pub stores_at : List ℕ → ℕ → ℕ → List ℕ → List ℕ
stores_at l at k [] = l
stores_at l at k (a ∷ xs) = stores_at (set l (at + k) a) at (suc k) xs

stores_behind : (xs done l : List ℕ) (at : ℕ) → at + length done + length xs ≤ length l
    → stores_at (written l at done) at (length done) xs ≡ written l at (done ++ xs)
stores_behind [] done l at h = rw append-nil
stores_behind (a ∷ xs) done l at h =
    let longer : length (done ++ (a ∷ [])) ≡ suc (length done) = length-append done (a ∷ []) ∙ add-one (length done) in
    let fits : at + length done < length l = omega arith in
    let ih = stores_behind xs (done ++ (a ∷ [])) l at (omega arith) in
    ap (λ (r : List ℕ). stores_at r at (suc (length done)) xs) (written_snoc l at done a fits)
    ∙ ap (λ (k : ℕ). stores_at (written l at (done ++ (a ∷ []))) at k xs) (sym longer)
    ∙ ih
    ∙ ap (λ (r : List ℕ). written l at r) (append_snoc done a xs)

-- a store at the place and a run of stores behind it
pub stores_written : (l : List ℕ) (at a : ℕ) (xs : List ℕ) → at + suc (length xs) ≤ length l
    → stores_at (set l at a) at 1 xs ≡ written l at (a ∷ xs)
stores_written l at a xs h =
    ap (λ (r : List ℕ). stores_at r at 1 xs) (written-set l at a (omega arith))
    ∙ stores_behind xs (a ∷ []) l at (omega arith)
