-- Bytes that stand at a place of a listing. Pieces one behind the other are one piece, and a piece that is as long as
-- the listing is the listing.
-- Assumes nothing.
use Rattle.std.proofs.Common.{◌≡◌, refl, true, false, List, [], ◌∷◌, ◌++◌, ℕ, zero, suc, ◌+◌, ◌-◌, ◌≤◌, ◌<◌, length}
use Rattle.std.proofs.Common.{get_or, drop, sym, ◌∙◌, ap, append-nil, append_assoc, add-zero, arith, length-append}
use Rattle.std.proofs.Common.{length-drop, drop-cons, drop-drop, get_or-drop}
use Rattle.std.proofs.Math.ListN.{get_or-append}
use Rattle.std.proofs.Math.Seq.{drop-append_seam}
use Rattle.listing.specs.Records.{kind_size}
use Rattle.reading.specs.Reader.{bytes_from}
use Rattle.theory.specs.Test.Laws.{is_true, is_false, says_true}
use Rattle.claims.specs.Claims.{byte_at, stands}
use Rattle.claims.specs.Claims.Standing.{stands_tested, stands_within}

-- what stands from the place on begins with these bytes
abbrev pub Holds : List ℕ → ℕ → List ℕ → Type 0
Holds l at bytes = (rest : List ℕ) × (drop at l ≡ bytes ++ rest)

pub holds_none : (l : List ℕ) (at : ℕ) → Holds l at []
holds_none l at = (drop at l, refl)

-- a listing begins with itself
pub holds_all : (l : List ℕ) → Holds l 0 l
holds_all l = ([], sym (append-nil l))

module _ (l : List ℕ) (at : ℕ) where
  -- two pieces
  pub holds_both : (b c : List ℕ) → Holds l at b → Holds l (at + length b) c → Holds l at (b ++ c)
  holds_both b c (x, d) (y, e) =
      let seam : x ≡ c ++ y = sym (drop-append_seam b x) ∙ ap (drop (length b)) (sym d) ∙ drop-drop (length b) at l
      ∙ e in
      (y, d ∙ ap (λ (r : List ℕ). b ++ r) seam ∙ sym (append_assoc b c y))

  pub holds_first : (b c : List ℕ) → Holds l at (b ++ c) → Holds l at b
  holds_first b c (y, e) = (c ++ y, e ∙ append_assoc b c y)

  pub holds_second : (b c : List ℕ) → Holds l at (b ++ c) → Holds l (at + length b) c
  holds_second b c (y, e) =
      (y, sym (drop-drop (length b) at l) ∙ ap (drop (length b)) (e ∙ append_assoc b c y) ∙ drop-append_seam b (c ++ y))

  -- the bytes are those of the listing, and lie in it
  pub holds_byte : (b : List ℕ) → Holds l at b → (i : ℕ) → i < length b → byte_at l at i ≡ get_or b i 0
  holds_byte b (y, e) i h = sym (get_or-drop at l i 0) ∙ ap (λ (r : List ℕ). get_or r i 0) e ∙ get_or-append b y 0 i h

  pub holds_within : (b : List ℕ) → Holds l at b → 0 < length b → at + length b ≤ length l
  holds_within b (y, e) h =
      let long : length l - at ≡ length b + length y = sym (length-drop at l) ∙ ap length e
      ∙ length-append b y in omega arith

-- a piece as long as the listing
pub holds_whole : (l b : List ℕ) → Holds l 0 b → length b ≡ length l → l ≡ b
holds_whole l b (y, e) h =
    e ∙ ap (λ (r : List ℕ). b ++ r) (none y (omega (arith, ap length e ∙ length-append b y))) ∙ append-nil b
  where
    none : (y : List ℕ) → length y ≡ 0 → y ≡ []
    none [] h = refl
    none (x ∷ xs) h = absurd (omega arith)

-- ---- the bytes of the listing itself

part : (l : List ℕ) (at k n : ℕ) → at + k + n ≤ length l
    → (rest : List ℕ) × (drop (at + k) l ≡ bytes_from l at k n ++ rest)
part l at k zero h = (drop (at + k) l, refl)
part l at k (suc n) h =
    let next : suc (at + k) ≡ at + suc k = omega arith in
    let p = part l at (suc k) n (omega arith) in (
      p.0,
      drop-cons l (at + k) 0 (omega arith) ∙ ap (λ (j : ℕ). get_or l (at + k) 0 ∷ drop j l) next
          ∙ ap (λ (r : List ℕ). get_or l (at + k) 0 ∷ r) p.1,
    )

-- where a record stands, its kind and the bytes behind it do
pub holds_stands : (l : List ℕ) (at kind n : ℕ) → kind_size kind ≡ suc n → stands l kind at ≡ true
    → Holds l at (kind ∷ bytes_from l at 1 n)
holds_stands l at kind n size s =
    let t = says_true (stands_tested l at kind) s in
    let fits = stands_within l at kind s in
    let next : suc at ≡ at + 1 = omega arith in
    let p = part l at 1 n (omega arith) in (
      p.0,
      drop-cons l at 0 (omega arith) ∙ ap (λ (j : ℕ). get_or l at 0 ∷ drop j l) next
          ∙ ap (λ (r : List ℕ). get_or l at 0 ∷ r) p.1 ∙ ap (λ (k : ℕ). k ∷ (bytes_from l at 1 n ++ p.0)) t.0,
    )

first_byte : (l : List ℕ) (at kind : ℕ) (b : List ℕ) → Holds l at (kind ∷ b) → get_or l at 0 ≡ kind
first_byte l at kind b h = ap (λ (k : ℕ). get_or l k 0) (sym (add-zero at))
    ∙ holds_byte l at (kind ∷ b) h 0 (omega arith)

-- and where a record's bytes stand, it stands as its kind
pub stands_holds : (l : List ℕ) (at kind : ℕ) (b : List ℕ) → kind_size kind ≡ suc (length b) → Holds l at (kind ∷ b)
    → stands l kind at ≡ true
stands_holds l at kind b size h =
    let within = holds_within l at (kind ∷ b) h (omega arith) in
    let first = first_byte l at kind b h in
    let as_kind : kind_size (get_or l at 0) ≡ suc (length b) = ap kind_size first ∙ size in
    is_true (stands_tested l at kind) (first, record { known = omega arith; within = omega arith })

-- and as no other
pub stands_other : (l : List ℕ) (at kind : ℕ) (b : List ℕ) (other : ℕ) → (kind ≡ other → ⊥) → Holds l at (kind ∷ b)
    → stands l other at ≡ false
stands_other l at kind b other n h =
    is_false (stands_tested l at other) (λ t. n (sym (first_byte l at kind b h) ∙ t.0))
