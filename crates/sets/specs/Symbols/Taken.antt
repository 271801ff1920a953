-- Taking the lowest symbol out of a set again and again gives the symbols of the set, rising and each once, and then
-- leaves nothing.
-- Assumes nothing.
use Rattle.std.specs.Prelude.{◌≡◌, refl, false, List, [], ◌∷◌, ℕ, zero, suc, ◌≤◌, ◌<◌, eqb, length}
use Rattle.std.proofs.Common.{sym, ap, ◌∙◌, arith, eq-eqb, ne_eqb}
use Rattle.std.proofs.Math.Decide.{dec_lt}
use Rattle.theory.specs.Test.{pick}
use Rattle.theory.specs.Test.Laws.{pick_true, pick_false}
use Rattle.theory.specs.First.{First}
use Rattle.theory.specs.First.Laws.{first_spec}
use Rattle.theory.specs.Count.{count, members, Rising}
use Rattle.theory.specs.Count.Laws.{count_none, members_none, length-members, members_least, members_rising}
use Rattle.sets.specs.declared.symbols.Symbols.{Symbols}
use Rattle.sets.specs.Symbols.{has, size_of, lowest_of, without_symbol, taken}
use Rattle.sets.specs.Symbols.Blocks.{has_set}

-- what is left of a set when the lowest symbol has been taken out n times
unfoldable pub remaining : ℕ → Symbols → Symbols
remaining zero s = s
remaining (suc n) s = remaining n (without_symbol s (lowest_of s))

-- a set that has a symbol has a lowest one
lowest_below : (s : Symbols) (n : ℕ) → size_of s ≡ suc n → lowest_of s < 256
lowest_below s n e = go (dec_lt (lowest_of s) 256)
  where
    go : Dec (lowest_of s < 256) → lowest_of s < 256
    go (yes h) = h
    go (no d) =
        absurd (let none : count (has s) 256
        ≡ 0 = count_none (has s) 256 (λ k l. (first_spec (has s) 256).before k (omega arith)) in omega arith)

-- the lowest symbol, and then those of the set without it
pub members_lowest : (s : Symbols) → lowest_of s < 256
    → members (has s) 256 ≡ lowest_of s ∷ members (has (without_symbol s (lowest_of s))) 256
members_lowest s l =
    members_least (has s) (has (without_symbol s (lowest_of s))) 256 (lowest_of s) l (spec.hit l) spec.before
    (without (lowest_of s) l ∙ pick_true false (has s (lowest_of s)) (eq-eqb (lowest_of s) (lowest_of s) refl))
    (λ k m d. without k m ∙ pick_false false (has s k) (ne_eqb k (lowest_of s) d))
  where
    spec : First (has s) 256 (lowest_of s)
    spec = first_spec (has s) 256

    without : (v : ℕ) → v < 256 → has (without_symbol s (lowest_of s)) v ≡ pick (eqb v (lowest_of s)) false (has s v)
    without v h = has_set (λ u. pick (eqb u (lowest_of s)) false (has s u)) v h

-- and where there is no lowest one, there is none
pub members_over : (s : Symbols) → 256 ≤ lowest_of s → members (has s) 256 ≡ []
members_over s h = members_none (has s) 256 (λ k l. (first_spec (has s) 256).before k (omega arith))

-- so one symbol less is left
pub members_less : (s rest : Symbols) (a : ℕ) → rest ≡ without_symbol s a → a ≡ lowest_of s → a < 256
    → length (members (has rest) 256) < length (members (has s) 256)
members_less s rest a r e h = rw (r, e) (let m = ap length (members_lowest s (omega arith)) in omega arith)

-- taking one out leaves one less
size_without : (s : Symbols) (n : ℕ) → size_of s ≡ suc n → size_of (without_symbol s (lowest_of s)) ≡ n
size_without s n e =
    let m = ap length (members_lowest s (lowest_below s n e)) in
    omega (arith, m, length-members (has s) 256, length-members (has (without_symbol s (lowest_of s))) 256)

no_members : (xs : List ℕ) → length xs ≡ 0 → [] ≡ xs
no_members [] e = refl
no_members (x ∷ xs) e = absurd (omega arith)

taken_all : (n : ℕ) (s : Symbols) → size_of s ≡ n → taken n s ≡ members (has s) 256
unfolding taken
taken_all zero s e = no_members (members (has s) 256) (length-members (has s) 256 ∙ e)
taken_all (suc n) s e =
    ap (λ (xs : List ℕ). lowest_of s ∷ xs) (taken_all n (without_symbol s (lowest_of s)) (size_without s n e))
    ∙ sym (members_lowest s (lowest_below s n e))

-- as many takes as the set has symbols give all of them, rising and each once
pub taken-members : (s : Symbols) → taken (size_of s) s ≡ members (has s) 256
taken-members s = taken_all (size_of s) s refl

pub taken_rising : (s : Symbols) → Rising (taken (size_of s) s)
taken_rising s = rw (taken-members s) (members_rising (has s) 256)

remaining_size : (n : ℕ) (s : Symbols) → size_of s ≡ n → size_of (remaining n s) ≡ 0
unfolding remaining
remaining_size zero s e = e
remaining_size (suc n) s e = remaining_size n (without_symbol s (lowest_of s)) (size_without s n e)

-- a set with no symbol has no lowest one
pub lowest_none : (s : Symbols) → size_of s ≡ 0 → lowest_of s ≡ 256
lowest_none s e = go (dec_lt (lowest_of s) 256)
  where
    go : Dec (lowest_of s < 256) → lowest_of s ≡ 256
    go (yes h) = absurd (let m = ap length (members_lowest s h) in omega (arith, m, length-members (has s) 256))
    go (no d) = omega (arith, (first_spec (has s) 256).within)

-- and then nothing is left
pub taken_none : (s : Symbols) → lowest_of (remaining (size_of s) s) ≡ 256
taken_none s = lowest_none (remaining (size_of s) s) (remaining_size (size_of s) s refl)
