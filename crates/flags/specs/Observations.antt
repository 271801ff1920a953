-- Observations 3 and 1 of document 004, from the laws that the lower library states of links and distinct counts: a
-- window matches exactly if every linked pair with both ends in it has equal symbols in the pattern, and window and
-- pattern have equally many different symbols.
-- Assumes nothing.
use Rattle.std.specs.Prelude.{◌≡◌, refl, Bool, ◌↔◌, ℕ, zero, suc, ◌+◌, ◌-◌, ◌≤◌, ◌<◌, eqb}
use Rattle.std.proofs.Common.{sym, ◌∙◌, ap, subst, arith}
use Rattle.theory.specs.Test.{Tested, holds, fails}
use Rattle.theory.specs.Test.Laws.{lt_tested, eq_tested, says_true, true_false, is_true}
use Rattle.theory.specs.First.{first, First}
use Rattle.theory.specs.First.Laws.{first_spec}
use Rattle.theory.specs.Table.{table}
use Rattle.theory.specs.Table.Laws.{table-zero}
use Rattle.theory.specs.Match.{Matches, image_of}
use Rattle.theory.specs.Match.Even.{Alike, Even, maps_even, even_maps}
use Rattle.occurrences.specs.Distinct.{distinct}
use Rattle.occurrences.specs.Distinct.Laws.{distinct_next_new, distinct_next_old}
use Rattle.grid.specs.Strips.{link}
use Rattle.grid.specs.Strips.Links.{link_back, Chain, there, chain_onward, chain}

-- the window's symbols determine the pattern's
abbrev pub Determines : (ℕ → ℕ) → (ℕ → ℕ) → ℕ → Type 0
Determines w m n = (q p : ℕ) → q < n → p < n → w q ≡ w p → m q ≡ m p

-- every linked pair of the strip with both ends in the window that starts at base has equal symbols in the pattern
abbrev pub LinksAgree : (ℕ → ℕ) → ℕ → (ℕ → ℕ) → ℕ → Type 0
LinksAgree s base m n =
    (p : ℕ) → p < n → 0 < link s (base + p) → link s (base + p) ≤ p → m (p - link s (base + p)) ≡ m p

-- ---- Observation 3

module _ (s : ℕ → ℕ) (base : ℕ) (m : ℕ → ℕ) (n : ℕ) where
  -- along a chain of links that stays in the window the pattern's symbol stays the same
  along : LinksAgree s base m n → (q : ℕ) {at : ℕ} → Chain s (base + q) at → (p : ℕ) → at ≡ base + p → p < n → m q ≡ m p
  along agree q there p e h =
      let same : q ≡ p = omega arith in
      ap m same
  along agree q (chain_onward {p = at} pos within rest) p e h =
      let here : link s at ≡ link s (base + p) = ap (link s) e in
      let inside : link s (base + p) ≤ p = omega arith in
      along agree q rest (p - link s (base + p)) (omega arith) (omega arith) ∙ agree p h (omega arith) inside

  pub links_determine : (w : ℕ → ℕ) → ((p : ℕ) → p < n → w p ≡ s (base + p)) → LinksAgree s base m n ↔ Determines w m n
  links_determine w is = (forth, back)
    where
      ordered : LinksAgree s base m n → (q p : ℕ) → q ≤ p → q < n → p < n → w q ≡ w p → m q ≡ m p
      ordered agree q p l hq hp e =
          along agree q (chain s (base + q) (base + p) (omega arith) (sym (is q hq) ∙ e ∙ is p hp)) p refl hp

      forth : LinksAgree s base m n → Determines w m n
      forth agree q p hq hp e = go (lt_tested p q)
        where
          go : {t : Bool} → Tested (p < q) t → m q ≡ m p
          go (holds h) = sym (ordered agree p q (omega arith) hp hq (sym e))
          go (fails h) = ordered agree q p (omega arith) hq hp e

      back : Determines w m n → LinksAgree s base m n
      back determine p h pos inside =
          let b = link_back s (base + p) pos in
          let place : base + p - link s (base + p) ≡ base + (p - link s (base + p)) = omega arith in
          determine (p - link s (base + p)) p (omega arith) h
          (is _ (omega arith) ∙ ap s (sym place) ∙ b.same ∙ sym (is p h))

-- ---- Observation 1

-- a position has an earlier one with its symbol, or none
data Earlier (w : ℕ → ℕ) (n : ℕ) : Type 0 where
  seen : (q : ℕ) → q < n → w q ≡ w n → Earlier w n
  new : ((q : ℕ) → q < n → w q ≡ w n → ⊥) → Earlier w n

earlier : (w : ℕ → ℕ) (n : ℕ) → Earlier w n
earlier w n = go (lt_tested k n)
  where
    k : ℕ
    k = first (λ q. eqb (w q) (w n)) n

    f : First (λ q. eqb (w q) (w n)) n k
    f = first_spec (λ q. eqb (w q) (w n)) n

    go : {t : Bool} → Tested (k < n) t → Earlier w n
    go (holds h) = seen k h (says_true (eq_tested _ _) (f.hit h))
    go (fails g) =
        new (λ q h e. true_false (is_true (eq_tested (w q) (w n)) e) (f.before q (omega (arith, f.within))))

module _ (m w : ℕ → ℕ) where
  -- what the induction on the positions carries
  record CountsSoFar (n : ℕ) : Type 0 where
    at_most : distinct (table m n) ≤ distinct (table w n)
    equal_even : distinct (table m n) ≡ distinct (table w n) → Even m w n

  even_none : Even m w 0
  even_none q p hq hp = absurd (omega arith)

  -- one position more that is like every earlier one
  even_next : (n : ℕ) → Even m w n → ((k : ℕ) → k < n → Alike (m k) (m n) (w k) (w n)) → Even m w (suc n)
  even_next n ev like q p hq hp = go (lt_tested q n) (lt_tested p n)
    where
      go : {t u : Bool} → Tested (q < n) t → Tested (p < n) u → Alike (m q) (m p) (w q) (w p)
      go (holds a) (holds b) = ev q p a b
      go (holds a) (fails b) =
          let e : n ≡ p = omega arith in
          subst (λ (i : ℕ). Alike (m q) (m i) (w q) (w i)) e (like q a)
      go (fails a) (holds b) =
          let e : n ≡ q = omega arith in
          let l = like p b in
          subst (λ (i : ℕ). Alike (m i) (m p) (w i) (w p)) e
          (record { there = λ x. sym (l.there (sym x)); back = λ x. sym (l.back (sym x)) })
      go (fails a) (fails b) =
          let e : q ≡ p = omega arith in
          record { there = λ _. ap w e; back = λ _. ap m e }

  counted : (n : ℕ) → Determines w m n → CountsSoFar n
  counted zero d =
      record {
        at_most = omega (arith, ap distinct (table-zero m), ap distinct (table-zero w));
        equal_even = λ _.
            even_none;
      }
  counted (suc n) d = go (counted n (λ q p hq hp e. d q p (omega arith) (omega arith) e)) (earlier m n) (earlier w n)
    where
      go : CountsSoFar n → Earlier m n → Earlier w n → CountsSoFar (suc n)
      go c e (seen q h x) =
          let y : m q ≡ m n = d q n (omega arith) (omega arith) x in
          let dm = distinct_next_old m n q h y in
          let dw = distinct_next_old w n q h x in
          record {
            at_most = omega (arith, c.at_most);
            equal_even = λ z.
                let ev = c.equal_even (sym dm ∙ z ∙ dw) in
                even_next n ev (λ k l. record
                { there = λ u. (ev k q l h).there (u ∙ sym y) ∙ x; back = λ u. (ev k q l h).back (u ∙ sym x) ∙ y });
          }
      go c (seen q h y) (new none) =
          let dm = distinct_next_old m n q h y in
          let dw = distinct_next_new w n none in
          let l = c.at_most in
          record { at_most = omega arith; equal_even = λ z. absurd (never dm dw l z) }
        where
          never : distinct (table m (suc n)) ≡ distinct (table m n)
              → distinct (table w (suc n)) ≡ distinct (table w n) + 1
              → distinct (table m n) ≤ distinct (table w n) → distinct (table m (suc n)) ≡ distinct (table w (suc n))
              → ⊥
          never a b l z = omega arith
      go c (new nm) (new nw) =
          let dm = distinct_next_new m n nm in
          let dw = distinct_next_new w n nw in
          record {
            at_most = omega (arith, c.at_most);
            equal_even = λ z.
                even_next n (c.equal_even (omega arith))
                (λ k l. record { there = λ u. absurd (nm k l u); back = λ u. absurd (nw k l u) });
          }

  -- two sequences that are alike have equally many different symbols
  even_counts : (n : ℕ) → Even m w n → distinct (table m n) ≡ distinct (table w n)
  even_counts zero ev = ap distinct (table-zero m) ∙ sym (ap distinct (table-zero w))
  even_counts (suc n) ev = go (even_counts n (λ q p hq hp. ev q p (omega arith) (omega arith))) (earlier m n)
    where
      go : distinct (table m n) ≡ distinct (table w n) → Earlier m n
          → distinct (table m (suc n)) ≡ distinct (table w (suc n))
      go ih (seen q h y) =
          distinct_next_old m n q h y ∙ ih
          ∙ sym (distinct_next_old w n q h ((ev q n (omega arith) (omega arith)).there y))
      go ih (new none) =
          distinct_next_new m n none ∙ ap (λ (k : ℕ). k + 1) ih
          ∙ sym (distinct_next_new w n (λ q h x. none q h ((ev q n (omega arith) (omega arith)).back x)))

  pub determines_match : (n : ℕ) → (Determines w m n × (distinct (table m n) ≡ distinct (table w n))) ↔ Matches m w n
  determines_match n = (
    (λ x. (image_of m w n, even_maps m w n ((counted n x.0).equal_even x.1))),
    (λ x. let ev = maps_even m w n x.0 x.1 in ((λ q p hq hp e. (ev q p hq hp).back e), even_counts n ev)),
  )

-- both together: what the flag of a window stands on
pub flag_match : (s : ℕ → ℕ) (base : ℕ) (m w : ℕ → ℕ) (n : ℕ) → ((p : ℕ) → p < n → w p ≡ s (base + p))
    → (LinksAgree s base m n × (distinct (table m n) ≡ distinct (table w n))) ↔ Matches m w n
flag_match s base m w n is =
    let o = links_determine s base m n w is in
    let d = determines_match m w n in
    ((λ x. d.0 (o.0 x.0, x.1)), (λ x. (o.1 (d.1 x).0, (d.1 x).1)))
