-- What a link says: its laws for whoever uses links, and the chain of links that joins any two equal places.
-- Assumes nothing.
use Rattle.std.specs.Prelude.{◌≡◌, refl, Bool, false, List, [], ◌∷◌, get_or}
use Rattle.std.proofs.Common.{sym, ◌∙◌, ap, subst, arith}
use Prim.Native.Nat.{ℕ, zero, suc, ◌+◌, ◌-◌, ◌≤◌, ◌<◌}
use Rattle.std.proofs.Math.Decide.{ℕ_discrete}
use Rattle.std.proofs.Math.Dec.{eqb}
use Rattle.theory.specs.Test.{pick, Tested, holds, fails}
use Rattle.theory.specs.Test.Laws.{eq_tested, lt_tested, says_true, says_false}
use Rattle.theory.specs.First.{first, First}
use Rattle.theory.specs.First.Laws.{first_spec}
use Rattle.theory.specs.Table.{table}
use Rattle.theory.specs.Table.Laws.{get_or-table, table_ext}
use Rattle.grid.specs.Strips.{link}

-- d is the link of p: nothing earlier has p's symbol, or the nearest that has is d before p
pub data Linked (s : ℕ → ℕ) (p : ℕ) : ℕ → Type 0 where
  none : ((q : ℕ) → q < p → s q ≡ s p → ⊥) → Linked s p 0
  back : (d : ℕ) → 0 < d → d ≤ p → s (p - d) ≡ s p → ((k : ℕ) → p - d < k → k < p → s k ≡ s p → ⊥) → Linked s p d

module _ (s : ℕ → ℕ) (p : ℕ) where
  -- a test of the places before p, nearest first, that fails at k: the place k + 1 before p has another symbol
  differs : (q : ℕ) → q < p → eqb (s (p - suc (p - suc q))) (s p) ≡ false → s q ≡ s p → ⊥
  differs q h f e =
      let same : p - suc (p - suc q) ≡ q = omega arith in
      says_false (eq_tested _ _) f (ap s same ∙ e)

  pub link_linked : Linked s p (link s p)
  unfolding link
  link_linked = go (lt_tested k p)
    where
      k : ℕ
      k = first (λ k. eqb (s (p - suc k)) (s p)) p

      f : First (λ k. eqb (s (p - suc k)) (s p)) p k
      f = first_spec (λ k. eqb (s (p - suc k)) (s p)) p

      go : {t : Bool} → Tested (k < p) t → Linked s p (pick t (suc k) 0)
      go (holds h) =
          back (suc k) (omega arith) h (says_true (eq_tested _ _) (f.hit h))
          (λ q a b. differs q b (f.before (p - suc q) (omega arith)))
      go (fails n) =
          let all : p ≤ k = omega arith in
          none (λ q h. differs q h (f.before (p - suc q) (omega arith)))

  -- there is but one
  linked_unique : {c d : ℕ} → Linked s p c → Linked s p d → c ≡ d
  linked_unique (none n) (none m) = refl
  linked_unique (none n) (back d pos le e no_nearer) = absurd (n (p - d) (omega arith) e)
  linked_unique (back d pos le e no_nearer) (none n) = absurd (n (p - d) (omega arith) e)
  linked_unique (back c pos le e no_nearer) (back d pos' le' e' no_nearer') =
      let a : c < d → ⊥ = λ h. no_nearer' (p - c) (omega arith) (omega arith) e in
      let b : d < c → ⊥ = λ h. no_nearer (p - d) (omega arith) (omega arith) e' in
      omega arith

  pub linked_is : {d : ℕ} → Linked s p d → link s p ≡ d
  linked_is x = linked_unique link_linked x

  -- a link 0 has no equal symbol before it
  pub link_zero : link s p ≡ 0 → (q : ℕ) → q < p → s q ≡ s p → ⊥
  link_zero e = go link_linked e
    where
      go : {d : ℕ} → Linked s p d → d ≡ 0 → (q : ℕ) → q < p → s q ≡ s p → ⊥
      go (none n) z = n
      go (back d pos le e no_nearer) z = absurd (omega arith)

  -- a link d > 0 has the same symbol at p − d and none between
  pub record LinksBack (d : ℕ) : Type 0 where
    pub within : d ≤ p
    pub same : s (p - d) ≡ s p
    pub nearest : (k : ℕ) → p - d < k → k < p → s k ≡ s p → ⊥

  pub link_back : 0 < link s p → LinksBack (link s p)
  link_back h = go link_linked h
    where
      go : {d : ℕ} → Linked s p d → 0 < d → LinksBack d
      go (none n) z = absurd (omega arith)
      go (back d pos le e no_nearer) z = record { within = le; same = e; nearest = no_nearer }

-- ---- sequences with the same symbols have the same links

pub link_ext : (s t : ℕ → ℕ) (p : ℕ) → ((q : ℕ) → q ≤ p → s q ≡ t q) → link s p ≡ link t p
link_ext s t p h = linked_is s p (carried (link_linked t p))
  where
    at_p : s p ≡ t p
    at_p = h p (omega arith)

    carried : {d : ℕ} → Linked t p d → Linked s p d
    carried (none n) = none (λ q l e. n q l (sym (h q (omega arith)) ∙ e ∙ at_p))
    carried (back d pos le e no_nearer) =
        back d pos le (h (p - d) (omega arith) ∙ e ∙ sym at_p)
        (λ k a b f. no_nearer k a b (sym (h k (omega arith)) ∙ f ∙ at_p))

-- the links of a list of symbols
pub links_of_list : (s : ℕ → ℕ) (n : ℕ) (xs : List ℕ) → table s n ≡ xs
    → table (link s) n ≡ table (link (λ p. get_or xs p 0)) n
links_of_list s n xs e =
    table_ext (link s) (link (λ p. get_or xs p 0)) n
    (λ p l. link_ext s (λ p. get_or xs p 0) p
    (λ q b. sym (get_or-table s n q 0 (omega arith)) ∙ ap (λ (l : List ℕ). get_or l q 0) e))

-- document 01's first draft: its two strips of two columns
pub example_link_values : (table (link (λ p. get_or (7 ∷ 7 ∷ 3 ∷ 7 ∷ []) p 0)) 4 ≡ 0 ∷ 1 ∷ 0 ∷ 2 ∷ [])
    × (table (link (λ p. get_or (7 ∷ 3 ∷ 7 ∷ 7 ∷ []) p 0)) 4 ≡ 0 ∷ 0 ∷ 2 ∷ 1 ∷ [])
unfolding link first table
example_link_values = (refl, refl)

-- ---- chains

-- from p back to q by links, none of which goes past q
pub data Chain (s : ℕ → ℕ) (q : ℕ) : ℕ → Type 0 where
  there : Chain s q q
  chain_onward : {p : ℕ} → 0 < link s p → q + link s p ≤ p → Chain s q (p - link s p) → Chain s q p

module _ (s : ℕ → ℕ) (q : ℕ) where
  chain_within : (n p : ℕ) → p ≤ n → q ≤ p → s q ≡ s p → Chain s q p
  chain_within zero p l h e =
      let same : q ≡ p = omega arith in
      subst (Chain s q) same there
  chain_within (suc n) p l h e = go (chain_within n) (ℕ_discrete q p)
    where
      step : ((i : ℕ) → i ≤ n → q ≤ i → s q ≡ s i → Chain s q i) → q < p → {c : ℕ} → Linked s p c → link s p ≡ c
          → Chain s q p
      step ih less (none none_before) i = absurd (none_before q less e)
      step ih less (back c pos le same no_nearer) i =
          let past : p - c < q → ⊥ = λ b. no_nearer q b less e in
          chain_onward {p =
          p} (omega arith) (omega arith) (rw i (ih (p - c) (omega arith) (omega arith) (e ∙ sym same)))

      go : ((i : ℕ) → i ≤ n → q ≤ i → s q ≡ s i → Chain s q i) → Dec (q ≡ p) → Chain s q p
      go ih (yes d) = subst (Chain s q) d there
      go ih (no d) = step ih (omega arith) (link_linked s p) refl

  -- any two equal places are joined by a chain of links that stays between them
  pub chain : (p : ℕ) → q ≤ p → s q ≡ s p → Chain s q p
  chain p h e = chain_within p p (omega arith) h e
