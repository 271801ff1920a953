-- A match is what document 01 calls a renaming: two columns of 256 entries that agree, of which the forward one gives
-- the window's symbol for the pattern's in every cell (`matches_columns`). From a match the columns are those of its
-- images; from columns that agree, different symbols have different images, since the backward column leads back from
-- each.
-- Assumes nothing.
use Rattle.std.specs.Prelude.{◌≡◌, List, ◌↔◌, ℕ, ◌<◌, length, get_or}
use Rattle.std.proofs.Common.{sym, ◌∙◌, ap}
use Rattle.theory.specs.Columns.{Agree}
use Rattle.theory.specs.Match.{Maps, Matches, column}
use Rattle.theory.specs.Match.Even.{even_carries, maps_even}
use Rattle.theory.specs.Match.Images.{length-column, column_at, columns_agree}

-- document 01's renaming, a forward and a backward column of 256 places that agree, carries the pattern onto the window
pub record CarriedBy (m w : ℕ → ℕ) (n : ℕ) (f g : List ℕ) : Type 0 where
  pub forward_long : length f ≡ 256
  pub backward_long : length g ≡ 256
  pub agreeing : Agree f g
  pub carries : (p : ℕ) → p < n → get_or f (m p) 0 ≡ w p

-- some renaming does
abbrev pub MatchesColumns : (ℕ → ℕ) → (ℕ → ℕ) → ℕ → Type 0
MatchesColumns m w n = (f : List ℕ) × (g : List ℕ) × CarriedBy m w n f g

module _ (m w : ℕ → ℕ) (n : ℕ) (ms : (k : ℕ) → m k < 256) (ws : (k : ℕ) → w k < 256) where
  of_columns : (f g : List ℕ) → Agree f g → ((p : ℕ) → p < n → get_or f (m p) 0 ≡ w p) → Maps m w n (λ a. get_or f a 0)
  of_columns f g agree carries =
      record {
        carries = carries;
        one_to_one = λ p q h k e. sym (back p h)
            ∙ ap (λ (x : ℕ). get_or g x 0) (sym (carries p h) ∙ e ∙ carries q k) ∙ back q k;
      }
    where
      back : (p : ℕ) → p < n → get_or g (w p) 0 ≡ m p
      back p h = (agree.same (m p) (ms p) (w p) (ws p)).0 (carries p h)

  pub matches_columns : Matches m w n ↔ MatchesColumns m w n
  matches_columns = (
    (λ (f, r).
        let ev = maps_even m w n f r in (
          column m w n,
          column w m n,
          record {
            forward_long = length-column m w n;
            backward_long = length-column w m n;
            agreeing = columns_agree m w n ev ms ws;
            carries = λ p h. column_at m w n (m p) 0 (ms p) ∙ even_carries m w n ev p h;
          },
        )),
    (λ (f, g, by). ((λ a. get_or f a 0), of_columns f g by.agreeing by.carries)),
  )
