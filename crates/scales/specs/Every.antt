-- One scale more of the search at every scale: what is counted and written at k + 1 is added to what was at 1, .., k
-- (`counted_more`, `listed_more`), there is room for it, and sums stay small. After all scales it is the search at
-- every scale (`every_counted`, `every_written`): the flags are made a second time for the listings, and that leaves
-- them as they were.
-- Assumes nothing.
use Rattle.std.specs.Prelude.{Ok, Err, ◌≡◌, refl, List, [], ◌∷◌, ◌++◌, ℕ, ◌+◌, ◌-◌, ◌*◌, ◌≤◌}
use Rattle.std.specs.Prelude.{◌<◌, leb, length, get_or, take, drop}
use Rattle.std.proofs.Common.{sym, ◌∙◌, ap, subst, append-nil, arith, length-drop, drop_of_length-le, take_all, le-leb}
use Rattle.theory.specs.Bytes.{Bytes}
use Rattle.theory.specs.Written.{written}
use Rattle.theory.specs.Test.Laws.{le_tested, says_true}
use Rattle.refusals.specs.Said.Laws.{check_true, not_accepted}
use Rattle.refusals.specs.Said.{Said, accepts, said_values, over_front, refusal_said, check_with}
use Rattle.refusals.specs.declared.refusals.Refusal.{Refusal}
use Rattle.shapes.specs.Questions.{Question}
use Rattle.flags.specs.Flags.{Work, RoomFor, rooms_of, work_after}
use Rattle.entries.specs.Listing.{found_in, refused_in, needed_length, search_listing}
use Rattle.entries.specs.Listing.Totals.{totals_in}
use Rattle.listing.specs.declared.totals.Totals.{Totals}
use Rattle.searched.specs.Search.{Searched, Lent, Done, done, listed_of, listed_said}
use Rattle.scaled.specs.Scaled.{scaled, largest_of, found_to, refused_to, length_to, works_to, listings_to}
use Rattle.scaled.specs.Scaled.{every_said, every_listed, summed}
use Rattle.scaled.specs.Scaled.Fit.{PosedAt, EveryRoom, largest_some}
use Rattle.scaled.specs.Scaled.Sums.{sum_none, sum_next, sum_part, found_sum_small, refused_sum_small}
use Rattle.scaled.specs.Scaled.Sums.{length-sum_bounded}
use Rattle.scaled.specs.Scaled.Works.{works_none, works_next, next_room, works_again}
use Rattle.scaled.specs.Scaled.Listings.{listings_none, listings_written, listings_kept, front_written}

-- ---- one scale

-- a search with room for its listing says the three values, and leaves these buffers
pub listed_writes : (q : Question) (l : Lent) → needed_length q ≤ length l.listing
    → listed_of q l
    ≡ record {
      said = accepts (found_in q ∷ refused_in q ∷ needed_length q ∷ []);
      lent = record { work = work_after q l.work; listing = over_front (search_listing q) l.listing };
    }
unfolding listed_of listed_said
listed_writes q l h = rw (le-leb (needed_length q) (length l.listing) h)

module _ (q : Question) (l : Lent) (r : Searched) (after : Lent) (e : done r after ≡ listed_of q l)
    (h : needed_length q ≤ length l.listing) where
  writes : (s : Searched) → r ≡ s → (done s after).said ≡ accepts (found_in q ∷ refused_in q ∷ needed_length q ∷ [])
  writes s is =
      ap (λ (d : Done). d.said) (ap (λ (x : Searched). done x after) (sym is) ∙ e ∙ listed_writes q l h)

  pub never_refused : (why : Refusal) → r ≡ Err why → ⊥
  never_refused why is = not_accepted _ _ _ (writes (Err why) is)

  pub listed_size : (totals : Totals ℕ) → r ≡ Ok totals → totals.length ≡ needed_length q
  listed_size totals is = ap (λ (s : Said). get_or (said_values s) 2 0) (writes (Ok totals) is)

  pub listed_work : after.work ≡ work_after q l.work
  listed_work = ap (λ (d : Done). d.lent.work) (e ∙ listed_writes q l h)

  pub listed_listing : after.listing ≡ over_front (search_listing q) l.listing
  listed_listing = ap (λ (d : Done). d.lent.listing) (e ∙ listed_writes q l h)

-- ---- counted at k scales

-- what all windows at the scales 1 to k add up to
abbrev pub totals_to : Question → ℕ → Totals ℕ
totals_to q k = record { found = found_to q k; refused = refused_to q k; length = length_to q k }

totals_equal : {a b c a' b' c' : ℕ} → a ≡ a' → b ≡ b' → c ≡ c'
    → ◌≡◌ {A = Totals ℕ} (record { found = a; refused = b; length = c })
    (record { found = a'; refused = b'; length = c' })
totals_equal p q r = rw (p, q, r) refl

pub record CountedTo (q : Question) (w₀ : Work) (k : ℕ) (w : Work) (totals : Totals ℕ) : Type 0 where
  pub works : w ≡ works_to q k w₀
  pub totals_are : totals ≡ totals_to q k

module _ (q : Question) (w₀ : Work) (room : EveryRoom q (rooms_of w₀)) where
  pub counted_none : CountedTo q w₀ 0 w₀ (record { found = 0; refused = 0; length = 0 })
  counted_none =
      record {
        works = sym (works_none q w₀);
        totals_are =
            totals_equal (sym (sum_none (λ k. found_in (scaled k q)))) (sym (sum_none (λ k. refused_in (scaled k q))))
            (sym (sum_none (λ k. needed_length (scaled k q))));
      }

  -- there is room for the next scale
  pub scale_room : (k : ℕ) (w : Work) → k < largest_of q → w ≡ works_to q k w₀
      → PosedAt (k + 1) q × RoomFor (scaled (k + 1) q) (rooms_of w)
  scale_room k w h e =
      let n = next_room q w₀ room k (omega arith) in
      (n.0, subst (λ (v : Work). RoomFor (scaled (k + 1) q) (rooms_of v)) (sym e) n.1)

  module _ (k : ℕ) (w : Work) (totals : Totals ℕ) (h : k < largest_of q) (here : CountedTo q w₀ k w totals)
      (next : Totals ℕ) (is : next ≡ totals_in (scaled (k + 1) q)) where
    -- the sums stay small
    pub found_small : totals.found + next.found ≤ 255 * 65025
    found_small =
        omega (
          arith,
          ap (λ (t : Totals ℕ). t.found) here.totals_are,
          ap (λ (t : Totals ℕ). t.found) is,
          sum_part (λ k. found_in (scaled k q)) k (largest_of q) (omega arith),
          found_sum_small q room.posed_is,
        )

    pub refused_small : totals.refused + next.refused ≤ 255 * 65025
    refused_small =
        omega (
          arith,
          ap (λ (t : Totals ℕ). t.refused) here.totals_are,
          ap (λ (t : Totals ℕ). t.refused) is,
          sum_part (λ k. refused_in (scaled k q)) k (largest_of q) (omega arith),
          refused_sum_small q room.posed_is,
        )

    pub length_small : totals.length + next.length ≤ 255 * (65025 * 195078 + 5)
    length_small =
        omega (
          arith,
          ap (λ (t : Totals ℕ). t.length) here.totals_are,
          ap (λ (t : Totals ℕ). t.length) is,
          sum_part (λ k. needed_length (scaled k q)) k (largest_of q) (omega arith),
          length-sum_bounded q room.posed_is,
        )

    pub counted_more : (w' : Work) → w' ≡ work_after (scaled (k + 1) q) w
        → CountedTo q w₀ (k + 1) w'
        (record {
          found = totals.found + next.found;
          refused = totals.refused + next.refused;
          length = totals.length + next.length;
        })
    counted_more w' e =
        record {
          works = e ∙ ap (work_after (scaled (k + 1) q)) here.works ∙ sym (works_next q k w₀);
          totals_are =
              rw (here.totals_are, is)
              (totals_equal (sym (sum_next (λ k. found_in (scaled k q)) k))
              (sym (sum_next (λ k. refused_in (scaled k q)) k)) (sym (sum_next (λ k. needed_length (scaled k q)) k)));
        }

-- ---- listed at k scales

pub record ListedTo (q : Question) (w₀ : Work) (l₀ : List ℕ) (k : ℕ) (w : Work) (l : List ℕ) (at : ℕ) : Type 0 where
  pub works : w ≡ works_to q k w₀
  pub at_is : at ≡ length_to q k
  pub listing_is : l ≡ over_front (listings_to q k) l₀

module _ (q : Question) (w₀ : Work) (l₀ : List ℕ) (bytes : Bytes q.pattern.cells)
    (fits : length_to q (largest_of q) ≤ length l₀) where
  pub listed_none : ListedTo q w₀ l₀ 0 w₀ l₀ 0
  listed_none =
      record {
        works = sym (works_none q w₀);
        at_is = sym (sum_none (λ k. needed_length (scaled k q)));
        listing_is = rw (listings_none q) refl;
      }

  module _ (k : ℕ) (w : Work) (l : List ℕ) (at : ℕ) (h : k < largest_of q) (here : ListedTo q w₀ l₀ k w l at) where
    part_fits : at + needed_length (scaled (k + 1) q) ≤ length l₀
    part_fits =
        omega (
          arith,
          here.at_is,
          sum_part (λ k. needed_length (scaled k q)) k (largest_of q) (omega arith),
          fits,
        )

    pub scale_fits : at + needed_length (scaled (k + 1) q) ≤ length l
    scale_fits =
        omega (
          arith,
          part_fits,
          ap length here.listing_is ∙ listings_kept q bytes k l₀ (omega (arith, part_fits, here.at_is)),
        )

    -- the place behind it is small
    pub at_small : PosedAt 1 q → at + needed_length (scaled (k + 1) q) ≤ 255 * (65025 * 195078 + 5)
    at_small posed =
        omega (
          arith,
          here.at_is,
          sum_part (λ k. needed_length (scaled k q)) k (largest_of q) (omega arith),
          length-sum_bounded q posed,
        )

    pub listed_more : (w' : Work) (l' : List ℕ) (at' : ℕ) → w' ≡ work_after (scaled (k + 1) q) w
        → l' ≡ written l at (search_listing (scaled (k + 1) q)) → at' ≡ at + needed_length (scaled (k + 1) q)
        → ListedTo q w₀ l₀ (k + 1) w' l' at'
    listed_more w' l' at' ew el ea =
        record {
          works = ew ∙ ap (work_after (scaled (k + 1) q)) here.works ∙ sym (works_next q k w₀);
          at_is = ea ∙ rw here.at_is (sym (sum_next (λ k. needed_length (scaled k q)) k));
          listing_is = el ∙ rw (here.listing_is, here.at_is) (listings_written q bytes k l₀);
        }

-- ---- the part of a buffer from a place on, as the code lends it and has it back

module _ (xs : List ℕ) (at : ℕ) where
  rest_long : length (drop at xs) ≡ length xs - at
  rest_long = length-drop at xs

  pub rest_is : take (length xs - at) (drop at xs) ≡ drop at xs
  rest_is = take_all (length xs - at) (drop at xs) (omega (arith, rest_long))

  pub rest_back : (ys piece : List ℕ) → ys ≡ over_front piece (drop at xs)
      → take at xs ++ (ys ++ drop (length xs - at) (drop at xs)) ≡ written xs at piece
  rest_back ys piece e =
      let short : length (drop at xs) ≤ length xs - at = omega (arith, rest_long) in
      let none : drop (length xs - at) (drop at xs) ≡ [] = drop_of_length-le (drop at xs) short in
      rw (none, append-nil ys, e) (front_written xs at piece)

-- ---- all scales

module _ (q : Question) (w : Work) (l : List ℕ) (room : EveryRoom q (rooms_of w)) (totals : Totals ℕ)
    (is : totals ≡ totals_to q (largest_of q)) where
  abbrev given : Lent
  given = record { work = w; listing = l }

  -- what 11 is asked with
  abbrev room_asked : Said
  room_asked = check_with (leb totals.length (length l)) 11 (totals.length ∷ [])

  size_is : totals.length ≡ length_to q (largest_of q)
  size_is = ap (λ (t : Totals ℕ). t.length) is

  -- 11: all are counted, and the listing is as it was
  pub every_counted : (why : Refusal) → refusal_said why ≡ room_asked → (work : Work)
      → work ≡ works_to q (largest_of q) w
      → record { said = refusal_said why; lent = record { work = work; listing = l } } ≡ every_listed q given
  unfolding every_listed every_said
  every_counted why e work ew = rw (← size_is, ← e, ew)

  -- there is room for all listings
  pub every_fits : accepts [] ≡ room_asked → length_to q (largest_of q) ≤ length l
  every_fits e =
      omega (
        arith,
        size_is,
        says_true (le_tested totals.length (length l)) (check_true _ 11 (totals.length ∷ []) [] (sym e)),
      )

  -- and they are written
  pub every_written : accepts [] ≡ room_asked → (work : Work) (listing : List ℕ)
      → work ≡ works_to q (largest_of q) (works_to q (largest_of q) w)
      → listing ≡ over_front (listings_to q (largest_of q)) l
      → summed (Ok totals) (record { work = work; listing = listing }) ≡ every_listed q given
  unfolding every_listed every_said
  every_written e work listing ew el =
      let again : work ≡ works_to q (largest_of q) w =
      ew ∙ works_again q w room (largest_of q) (largest_some q room.posed_is) (omega arith) in
      rw (← size_is, ← e, is, again, el)
