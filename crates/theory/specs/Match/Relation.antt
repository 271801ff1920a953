-- Matching is reflexive, symmetric and transitive; and where the window's symbols are bytes it makes no difference
-- whether the mapping is one-to-one on the pattern's symbols or on all numbers (symbols without an image then go to
-- numbers above the bytes).
-- Assumes nothing.
use Rattle.std.specs.Prelude.{◌≡◌, refl, Bool, ◌↔◌, ℕ, ◌+◌, ◌<◌, ltb}
use Rattle.std.proofs.Common.{sym, ◌∙◌, ap, lt-ltb}
use native.Mathlib.Omega.{arith}
use Rattle.theory.specs.Test.{pick, Tested, holds, fails}
use Rattle.theory.specs.Test.Laws.{pick_true, lt_tested}
use Rattle.theory.specs.Match.{Matches, image_of}
use Rattle.theory.specs.Match.Even.{Even, even_carries, maps_even, even_maps, even_swap, Image, at, nowhere}
use Rattle.theory.specs.Match.Even.{image}

-- every sequence matches itself
pub matches_self : (m : ℕ → ℕ) (n : ℕ) → Matches m m n
matches_self m n = ((λ a. a), record { carries = λ p h. refl; one_to_one = λ p q h k e. e })

-- the window matches the pattern where the pattern matches the window
pub matches_sym : (m w : ℕ → ℕ) (n : ℕ) → Matches m w n → Matches w m n
matches_sym m w n (f, r) = (image_of w m n, even_maps w m n (even_swap m w n (maps_even m w n f r)))

-- and a match followed by a match is a match
pub matches_trans : (m w x : ℕ → ℕ) (n : ℕ) → Matches m w n → Matches w x n → Matches m x n
matches_trans m w x n (f, r) (g, s) = (
  (λ a. g (f a)),
  record {
    carries = λ p h. ap g (r.carries p h) ∙ s.carries p h;
    one_to_one =
        λ p q h k e. r.one_to_one p q h k
        (r.carries p h ∙ s.one_to_one p q h k (ap g (sym (r.carries p h)) ∙ e ∙ ap g (r.carries q k))
        ∙ sym (r.carries q k));
  },
)

-- a mapping of all numbers that is one-to-one on all of them carries the pattern onto the window. (It may give numbers
-- that are no symbols where the pattern has none; a renaming of symbols alone is `MatchesColumns`.)
abbrev pub MatchesTotal : (ℕ → ℕ) → (ℕ → ℕ) → ℕ → Type 0
MatchesTotal m w n = (f : ℕ → ℕ) × ((a b : ℕ) → f a ≡ f b → a ≡ b) × ((p : ℕ) → p < n → f (m p) ≡ w p)

module _ (m w : ℕ → ℕ) (n : ℕ) where
  -- a symbol without an image goes above all bytes
  extended : ℕ → ℕ
  extended a = pick (ltb (image_of m w n a) 256) (image_of m w n a) (a + 256)

  module _ (ev : Even m w n) where
    images_differ : (a b : ℕ) {u v : ℕ} → Image m w n a u → Image m w n b v → u < 256 → u ≡ v → a ≡ b
    images_differ a b (at k h e) (at k' h' e') l x = sym e ∙ (ev k k' h h').back x ∙ e'
    images_differ a b (at k h e) (nowhere g) l x = absurd (never l x)
      where
        never : {u : ℕ} → u < 256 → u ≡ 256 → ⊥
        never l x = omega arith
    images_differ a b (nowhere g) y l x = absurd (never l)
      where
        never : 256 < 256 → ⊥
        never l = omega arith

    extended_one : (a b : ℕ) → extended a ≡ extended b → a ≡ b
    unfolding extended
    extended_one a b = go (lt_tested (image_of m w n a) 256) (lt_tested (image_of m w n b) 256)
      where
        go : {t u : Bool} → Tested (image_of m w n a < 256) t → Tested (image_of m w n b < 256) u
            → pick t (image_of m w n a) (a + 256) ≡ pick u (image_of m w n b) (b + 256) → a ≡ b
        go (holds k) (holds l) e = images_differ a b (image m w n a) (image m w n b) k e
        go (holds k) (fails l) e = omega arith
        go (fails k) (holds l) e = omega arith
        go (fails k) (fails l) e = omega arith

    extended_carries : ((k : ℕ) → w k < 256) → (p : ℕ) → p < n → extended (m p) ≡ w p
    unfolding extended
    extended_carries ws p h =
        let e = even_carries m w n ev p h in
        let l : image_of m w n (m p) < 256 = omega (arith, ws p) in
        pick_true _ _ (lt-ltb _ _ l) ∙ e

  pub matches_total : ((k : ℕ) → w k < 256) → Matches m w n ↔ MatchesTotal m w n
  matches_total ws = (
    (λ (f, r). let ev = maps_even m w n f r in (extended, extended_one ev, extended_carries ev ws)),
    (λ (f, one, carries). (f, record { carries = carries; one_to_one = λ p q _ _. one (m p) (m q) })),
  )
