-- What the tests of two columns say: `agree` tests Agree, `free` tests Free; and columns agree exactly if each leads
-- back from the other, so one pass over each column is enough.
-- Assumes nothing.
use Rattle.std.specs.Prelude.{◌≡◌, refl, Bool, true, false, List, ◌↔◌, ◌⊎◌, ℕ, ◌≤◌, ◌<◌, leb, get_or}
use Rattle.std.proofs.Common.{sym, ◌∙◌, ap, subst, inl, inr, ⊎_elim, arith}
use Rattle.theory.specs.Test.{pick, both, Tested, holds, fails}
use Rattle.theory.specs.Test.Laws.{tested_iff, tested_same, eq_tested, lt_tested, le_tested, both_tested}
use Rattle.theory.specs.First.{every}
use Rattle.theory.specs.First.Laws.{every_tested}
use Rattle.theory.specs.Columns.{Agree, agree, same_test, Free, free, Back, back_test, LeadsBack, leads_back_test}

either_tested : {P Q : Type 0} {a b : Bool} → Tested P a → Tested Q b → Tested (P ⊎ Q) (pick a true b)
either_tested (holds p) t = holds (inl p)
either_tested (fails n) (holds q) = holds (inr q)
either_tested (fails n) (fails m) = fails (⊎_elim n m)

alike_tested : {P Q : Type 0} {a b : Bool} → Tested P a → Tested Q b → Tested (P ↔ Q) (same_test a b)
alike_tested (holds p) (holds q) = holds ((λ _. q), (λ _. p))
alike_tested (holds p) (fails m) = fails (λ h. m (h.0 p))
alike_tested (fails n) (holds q) = fails (λ h. n (h.1 q))
alike_tested (fails n) (fails m) = holds ((λ p. absurd (n p)), (λ q. absurd (m q)))

pub free_tested : (f : List ℕ) (x y : ℕ) → Tested (Free f x y) (free f x y)
free_tested f x y = either_tested (eq_tested (get_or f x 0) 256) (eq_tested (get_or f x 0) y)

pub agree_tested : (f g : List ℕ) → Tested (Agree f g) (agree f g)
unfolding agree
agree_tested f g =
    tested_iff
    (λ h. record { forward_le = h.0; backward_le = h.1.0; same = h.1.1 })
    (λ s. (s.forward_le, (s.backward_le, s.same)))
    (both_tested (all_le f)
    (both_tested (all_le g)
    (every_tested _ 256 (λ a. every_tested _ 256
    (λ b. alike_tested (eq_tested (get_or f a 0) b) (eq_tested (get_or g b 0) a))))))
  where
    all_le : (l : List ℕ) → Tested ((a : ℕ) → a < 256 → get_or l a 0 ≤ 256) (every (λ a. leb (get_or l a 0) 256) 256)
    all_le l = every_tested _ 256 (λ a. le_tested (get_or l a 0) 256)

pub agree_sym : (f g : List ℕ) → Agree f g → Agree g f
agree_sym f g s =
    record {
      forward_le =
          s.backward_le;
      backward_le = s.forward_le;
      same = λ b k a h. ((s.same a h b k).1, (s.same a h b k).0);
    }

-- ---- each column leads back from the other

pub back_tested : (g : List ℕ) (x a : ℕ) → Tested (Back g x a) (back_test g x a)
back_tested g x a = go (lt_tested x 256) (eq_tested (get_or g x 0) a) (eq_tested x 256)
  where
    go : {t u v : Bool} → Tested (x < 256) t → Tested (get_or g x 0 ≡ a) u → Tested (x ≡ 256) v
        → Tested (Back g x a) (pick t u v)
    go (holds l) (holds e) v = holds (record { entry_le = omega arith; back = λ _. e })
    go (holds l) (fails n) v = fails (λ s. n (s.back l))
    go (fails l) u (holds e) = holds (record { entry_le = omega arith; back = λ h. absurd (l h) })
    go (fails l) u (fails n) = fails (λ s. n (let z = s.entry_le in omega arith))

pub leads_back_tested : (f g : List ℕ) → Tested (LeadsBack f g) (leads_back_test f g)
unfolding leads_back_test
leads_back_tested f g = every_tested _ 256 (λ a. back_tested g (get_or f a 0) a)

-- the one side's image is the other side's preimage
leads_to : (f g : List ℕ) → LeadsBack f g → (a : ℕ) → a < 256 → (b : ℕ) → b < 256 → get_or f a 0 ≡ b → get_or g b 0 ≡ a
leads_to f g s a h b k e = subst (λ (x : ℕ). get_or g x 0 ≡ a) e ((s a h).back (subst (λ (x : ℕ). x < 256) (sym e) k))

pub both_ways_agree : (f g : List ℕ) → LeadsBack f g → LeadsBack g f → Agree f g
both_ways_agree f g s t =
    record {
      forward_le = λ a h. (s a h).entry_le;
      backward_le = λ b k. (t b k).entry_le;
      same = λ a h b k. (leads_to f g s a h b k, leads_to g f t b k a h);
    }

pub agree-leads_back : (f g : List ℕ) → Agree f g → LeadsBack f g
agree-leads_back f g s a h = record { entry_le = s.forward_le a h; back = λ l. (s.same a h (get_or f a 0) l).0 refl }

-- so the test over all a and b is the test in one pass over each column
pub agree-both_ways : (f g : List ℕ) → agree f g ≡ both (leads_back_test f g) (leads_back_test g f)
agree-both_ways f g =
    tested_same (agree_tested f g)
    (tested_iff (λ h. both_ways_agree f g h.0 h.1)
    (λ s. (agree-leads_back f g s, agree-leads_back g f (agree_sym f g s)))
    (both_tested (leads_back_tested f g) (leads_back_tested g f)))

-- where the one column leads back the other decides, and where it does not the columns disagree
pub agree_second_way : (f g : List ℕ) → leads_back_test f g ≡ true → agree f g ≡ leads_back_test g f
agree_second_way f g e = agree-both_ways f g ∙ ap (λ (t : Bool). both t (leads_back_test g f)) e

pub agree_neither_way : (f g : List ℕ) → leads_back_test f g ≡ false → agree f g ≡ false
agree_neither_way f g e = agree-both_ways f g ∙ ap (λ (t : Bool). both t (leads_back_test g f)) e
