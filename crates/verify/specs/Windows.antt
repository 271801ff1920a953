-- What the walk over all windows says.
-- Assumes nothing.
use Rattle.std.proofs.Common.{◌≡◌, Bool, List, eqb, length, get_or, replicate, refl, ap, sym, ◌∙◌, subst, add-zero}
use Rattle.std.proofs.Common.{add-suc, add-one, arith, ℕ, zero, suc, ◌+◌, ◌-◌, ◌*◌, ◌≤◌, ◌<◌, Result, Ok, Err, None}
use Rattle.std.proofs.lemmas.List.{length-replicate}
use Rattle.theory.specs.Test.{pick}
use Rattle.theory.specs.Count.{count}
use Rattle.theory.specs.Count.Laws.{count_le}
use Rattle.shapes.specs.Shapes.{ShapeOf, across, down}
use Rattle.shapes.specs.declared.shapes.Shape.{Shape}
use Rattle.shapes.specs.Questions.{Question, windows_of}
use Rattle.refusals.specs.declared.refusals.Refusal.{Refusal}
use Rattle.view.specs.Places.{Placed, cell_count}
use Rattle.matching.specs.Windows.{window_place}
use Rattle.matching.specs.Windows.Laws.{placed_window}
use Rattle.cells.specs.declared.windows.WindowPlace.{WindowPlace}
use Rattle.rows.specs.declared.run.FirstEnd.{FirstEnd}
use Rattle.sweep.specs.Sweep.{own_at, SidesOf}
use Rattle.inheriting.specs.Inheritance.{CheckTables}
use Rattle.inheriting.specs.declared.tables.Tables.{Tables}
use Rattle.inheriting.specs.Offsets.Laws.{prepared_none}
use Rattle.claims.specs.Claims.{Walk}
use Rattle.rules.specs.Check.{entry_from, place_in, windows_to, stands_found, found_to}
use Rattle.rules.specs.Entries.{goes_found}
use Rattle.verify.specs.declared.windows.Passed.{Passed}

-- where all windows end, and how many stand as found; or the first bad record
abbrev pub WindowsWalked : Question → List ℕ → Result Passed Refusal → Type 0
WindowsWalked q listing (Ok passed) =
    (windows_to q listing (windows_of q) ≡ Ok passed.at) × (passed.found ≡ found_to q listing (windows_of q))
WindowsWalked q listing (Err why) = windows_to q listing (windows_of q) ≡ Err why

-- ---- from window to window

module _ (q : Question) (listing : List ℕ) where
  pub windows_none : windows_to q listing 0 ≡ Ok 0
  unfolding windows_to
  windows_none = refl

  pub found_none : 0 ≡ found_to q listing 0
  unfolding found_to count
  found_none = refl

  -- one window more, where the walk goes on
  windows_next : (k at : ℕ) → windows_to q listing k ≡ Ok at
      → windows_to q listing (k + 1) ≡ entry_from q.text.cells q.pattern.cells (place_in q k) listing at
  unfolding windows_to
  windows_next k at e = rw (add-one k, e)

  -- where it has stopped, it stays so
  windows_stay : (why : Refusal) (k m : ℕ) → windows_to q listing k ≡ Err why
      → windows_to q listing (k + m) ≡ Err why
  unfolding windows_to
  windows_stay why k zero e = rw (add-zero k) e
  windows_stay why k (suc m) e = rw (add-suc k m, windows_stay why k m e)

  pub windows_stopped : (why : Refusal) (k n : ℕ) → k ≤ n → windows_to q listing k ≡ Err why
      → windows_to q listing n ≡ Err why
  windows_stopped why k n h e =
      ap (windows_to q listing) (omega arith) ∙ windows_stay why k (n - k) e

  -- what the records at a place say, of the window that is due there
  module _ (k at : ℕ) (v : WindowPlace) (reached : windows_to q listing k ≡ Ok at)
      (v_is : v ≡ place_in q k) where
    pub windows_step : (c : Walk) → c ≡ entry_from q.text.cells q.pattern.cells v listing at
        → windows_to q listing (k + 1) ≡ c
    windows_step c e =
        windows_next k at reached ∙ sym (e
        ∙ ap (λ (u : WindowPlace). entry_from q.text.cells q.pattern.cells u listing at) v_is)

    -- one more is found where a found record stands
    pub found_step : (found next r : ℕ) → Ok next ≡ entry_from q.text.cells q.pattern.cells v listing at
        → found ≡ found_to q listing k → r ≡ pick (eqb (get_or listing at 0) 1) (found + 1) found
        → r ≡ found_to q listing (k + 1)
    unfolding found_to count stands_found
    found_step found next r e f s =
        s ∙ ap (λ (b : Bool). pick b (found + 1) found)
        (goes_found q.text.cells q.pattern.cells v listing at next e) ∙ rw (add-one k, reached, f)

  -- no more are found than there are
  pub found_le : (k : ℕ) → found_to q listing k ≤ k
  unfolding found_to
  found_le k = count_le (stands_found q listing) k

-- what the reading of window k asks of it
pub window_asks : (text pattern : List ℕ) (s : Shape) → ShapeOf s (length text) → length pattern ≡ s.height * s.width
    → (k : ℕ) → k < down s * across s
    → (v : WindowPlace) → v ≡ window_place s.columns s.height s.width k
    → Placed text v × (length pattern ≡ cell_count v)
window_asks text pattern s shape size k h v e =
    subst (λ (u : WindowPlace). Placed text u × (length pattern ≡ cell_count u)) (sym e)
    (placed_window text s shape k h, size)

-- ---- what is kept from window to window

-- before the first window nothing is
pub tables_none : (text pattern : List ℕ) (columns height width : ℕ) (tables : Tables) → SidesOf pattern height width
    → columns ≤ 255 → tables.offsets ≡ None → tables.own ≡ replicate 256 (record { end = 0; earlier = 0 }) → tables.tops ≡ replicate 256 0
    → CheckTables text pattern columns height width tables
tables_none text pattern columns height width tables sides narrow f s t =
    record {
      above = record {
        sides = sides;
        narrow = narrow;
        tops_are = record {
          long = rw t (length-replicate {A = ℕ} 256 0);
          each = λ j row e. absurd (none j row (rw t at e));
        };
        owned = record {
          long = rw s (length-replicate {A = FirstEnd} 256 (record { end = 0; earlier = 0 }));
          made = λ h. absurd (unmade (subst (λ (l : List FirstEnd). 0 < (own_at l 0).end) s h));
        };
      };
      prepared = rw f (prepared_none pattern columns width);
    }
  where
    none_made : (n : ℕ) → (own_at (replicate {A = FirstEnd} n (record { end = 0; earlier = 0 })) 0).end ≡ 0
    none_made zero = refl
    none_made (suc n) = refl

    unmade : 0 < (own_at (replicate {A = FirstEnd} 256 (record { end = 0; earlier = 0 })) 0).end → ⊥
    unmade h = omega (arith, h, none_made 256)

    zeros : (n j : ℕ) → get_or (replicate {A = ℕ} n 0) j 0 ≡ 0
    zeros zero j = refl
    zeros (suc n) zero = refl
    zeros (suc n) (suc j) = zeros n j

    none : (j row : ℕ) → get_or (replicate {A = ℕ} 256 0) j 0 ≡ row + 1 → ⊥
    none j row e = omega (arith, e, zeros 256 j)

module _ (text pattern : List ℕ) (columns height width k : ℕ) (v : WindowPlace) (tables : Tables)
    (e : v ≡ window_place columns height width k) where
  -- what is known of the text is known to window k
  pub tables_window : CheckTables text pattern columns height width tables
      → CheckTables text pattern v.columns v.height v.width tables
  tables_window a = subst (λ (u : WindowPlace). CheckTables text pattern u.columns u.height u.width tables) (sym e) a

  -- and the other way round
  pub tables_place : CheckTables text pattern v.columns v.height v.width tables
      → CheckTables text pattern columns height width tables
  tables_place a = subst (λ (u : WindowPlace). CheckTables text pattern u.columns u.height u.width tables) e a
