-- What becomes of columns that agree: with a pair more, and one bijection after another, they agree again. All is shown
-- of the forward column; the backward column is the same law with the columns exchanged.
-- Assumes nothing.
use Rattle.std.specs.Prelude.{◌≡◌, refl, Bool, List, ◌↔◌, ℕ, ◌<◌, length, get_or, set, replicate}
use Rattle.std.proofs.Common.{sym, ◌∙◌, ap, subst, ⊎_elim, arith, lt-ltb, get_or-set_same, get_or-set_other}
use Rattle.std.proofs.lemmas.List.{get_or-replicate, set-get_or}
use Rattle.theory.specs.Test.{pick, Tested, holds, fails}
use Rattle.theory.specs.Test.Laws.{pick_true, eq_tested, lt_tested}
use Rattle.theory.specs.Table.Laws.{get_or-table}
use Rattle.theory.specs.Columns.{Agree, Free, through, chained, Back, LeadsBack}
use Rattle.theory.specs.Columns.Agreement.{agree_sym, both_ways_agree, agree-leads_back}

never : (a : ℕ) → a ≡ 256 → a < 256 → ⊥
never a e h = omega arith

-- ---- no pair

none_leads_back : (f g : List ℕ) → ((a : ℕ) → a < 256 → get_or f a 0 ≡ 256) → LeadsBack f g
none_leads_back f g none a h = record { entry_le = omega (arith, none a h); back = λ l. absurd (never _ (none a h) l) }

pub empty_columns_agree : Agree (replicate 256 256) (replicate 256 256)
empty_columns_agree =
    both_ways_agree _ _ (none_leads_back (replicate 256 256) _ none) (none_leads_back (replicate 256 256) _ none)
  where
    none : (a : ℕ) → a < 256 → get_or {A = ℕ} (replicate 256 256) a 0 ≡ 256
    none a h = get_or-replicate {A = ℕ} 256 a 256 0 h

-- ---- a pair more

-- c is no other's image: who has the image c is a
only_preimage : (f g : List ℕ) (a c : ℕ) → c < 256 → Free g c a → LeadsBack f g → (i : ℕ) → i < 256 → get_or f i 0 ≡ c
    → i ≡ a
only_preimage f g a c hc fr s i h e =
    let d : get_or g c 0 ≡ i = subst (λ (x : ℕ). get_or g x 0 ≡ i) e ((s i h).back (omega arith)) in
    sym d ∙ ⊎_elim (λ z. absurd (never i (sym d ∙ z) h)) (λ z. z) fr

set_leads_back : (f g : List ℕ) (a c : ℕ) → length f ≡ 256 → length g ≡ 256 → a < 256 → c < 256 → Free g c a
    → LeadsBack f g
    → LeadsBack (set f a c) (set g c a)
set_leads_back f g a c lf lg ha hc fr s i h = go (eq_tested i a)
  where
    go : {u : Bool} → Tested (i ≡ a) u → Back (set g c a) (get_or (set f a c) i 0) i
    go (holds e) =
        rw (e, get_or-set_same f a c 0 (omega arith))
        (record { entry_le = omega arith; back = λ _. get_or-set_same g c a 0 (omega arith) })
    go (fails ne) =
        rw (get_or-set_other f a i c 0 ne)
        (record {
          entry_le = (s i h).entry_le;
          back =
              λ k. get_or-set_other g c (get_or f i 0) a 0 (λ x. ne (only_preimage f g a c hc fr s i h x)) ∙ (s i h).back k;
        })

-- a pair that is free on both sides keeps the agreement
pub set_agrees : (f g : List ℕ) (a c : ℕ) → length f ≡ 256 → length g ≡ 256 → a < 256 → c < 256 → Free f a c
    → Free g c a → Agree f g
    → Agree (set f a c) (set g c a)
set_agrees f g a c lf lg ha hc ff fg s =
    both_ways_agree _ _ (set_leads_back f g a c lf lg ha hc fg (agree-leads_back f g s))
    (set_leads_back g f c a lg lf hc ha ff (agree-leads_back g f (agree_sym f g s)))

-- a pair that is there already changes nothing
pub set_again : (f : List ℕ) (a c : ℕ) → get_or f a 0 ≡ c → set f a c ≡ f
set_again f a c e = subst (λ (x : ℕ). set f a x ≡ f) e (set-get_or f a 0)

-- ---- first one column, then another

chained_at : (f g : List ℕ) (a : ℕ) → a < 256 → get_or (chained f g) a 0 ≡ through g (get_or f a 0)
unfolding chained
chained_at f g a h = get_or-table _ 256 a 0 h

through_symbol : (g : List ℕ) (x : ℕ) → x < 256 → through g x ≡ get_or g x 0
through_symbol g x l = pick_true _ _ (lt-ltb x 256 l)

chained_leads_back : (f f' g g' : List ℕ) → LeadsBack f f' → LeadsBack g g' → LeadsBack (chained f g) (chained g' f')
chained_leads_back f f' g g' s t a h = rw (chained_at f g a h) (go (lt_tested (get_or f a 0) 256))
  where
    go : {u : Bool} → Tested (get_or f a 0 < 256) u → Back (chained g' f') (pick u (get_or g (get_or f a 0) 0) 256) a
    go (holds l) =
        let r = t (get_or f a 0) l in
        record {
          entry_le = r.entry_le;
          back = λ k. chained_at g' f' _ k ∙ ap (through f') (r.back k) ∙ through_symbol f' _ l ∙ (s a h).back l;
        }
    go (fails l) = record { entry_le = omega arith; back = λ k. absurd (never 256 refl k) }

pub chained_agrees : (f f' g g' : List ℕ) → Agree f f' → Agree g g' → Agree (chained f g) (chained g' f')
chained_agrees f f' g g' s t =
    both_ways_agree _ _ (chained_leads_back f f' g g' (agree-leads_back f f' s) (agree-leads_back g g' t))
    (chained_leads_back g' g f' f (agree-leads_back g' g (agree_sym g g' t)) (agree-leads_back f' f (agree_sym f f' s)))

-- a has the image c exactly if some x is the image of a in the first column and has the image c in the second
pub chained_gives : (f g : List ℕ) (a c : ℕ) → a < 256 → c < 256
    → (get_or (chained f g) a 0 ≡ c) ↔ ((x : ℕ) × (x < 256) × (get_or f a 0 ≡ x) × (get_or g x 0 ≡ c))
chained_gives f g a c ha hc = (
  (λ e. there (lt_tested (get_or f a 0) 256) (sym (chained_at f g a ha) ∙ e)),
  (λ z. chained_at f g a ha ∙ ap (through g) z.2 ∙ through_symbol g z.0 z.1 ∙ z.3),
)
  where
    there : {u : Bool} → Tested (get_or f a 0 < 256) u → pick u (get_or g (get_or f a 0) 0) 256 ≡ c
        → (x : ℕ) × (x < 256) × (get_or f a 0 ≡ x) × (get_or g x 0 ≡ c)
    there (holds l) e = (get_or f a 0, l, refl, e)
    there (fails l) e = absurd (never c (sym e) hc)
