-- What the search at k and the search at every k do where they are refused, where they go on, and where they are
-- accepted. Where 2, 3 and 17 refuse nothing, the search at k is the search for the enlarged pattern (`scaled_search`).
-- Accepted, the search at every k had room for every scale, its values are the sums, and the listings are written
-- (`EveryLists`). Each is a case on what is said.
-- Assumes nothing.
use Rattle.std.specs.Prelude.{Result, Err, ⊤, ◌≡◌, List, [], ◌∷◌, ℕ, ◌+◌, ◌≤◌, ◌<◌, leb, length}
use Rattle.std.proofs.Math.Path.{refl, sym, ap}
use Rattle.std.proofs.Common.{◌∙◌, le-leb}
use Rattle.std.proofs.lemmas.Bool.{lt-leb}
use Rattle.theory.specs.Test.Laws.{le_tested, says_true}
use Rattle.refusals.specs.Said.{Said, accepts, refuses, ◌then◌, over_front, outcome_said, refusal_said}
use Rattle.refusals.specs.Said.Laws.{then_both, check_passed}
use Rattle.refusals.specs.declared.refusals.Refusal.{Refusal}
use Rattle.shapes.specs.Questions.{Question}
use Rattle.flags.specs.Flags.{Work, RoomFor, rooms_of, work_after}
use Rattle.entries.specs.Listing.{found_in, refused_in, needed_length, search_listing}
use Rattle.searched.specs.Search.{Lent, Done, listed_said, listed_of, stopped, search_of}
use Rattle.searched.specs.Search.Accepted.{values_same}
use Rattle.scaled.specs.Scaled.{scaled, scaled_room_said, scaled_of, largest_of, every_room_said}
use Rattle.scaled.specs.Scaled.{found_to, refused_to, length_to, works_to, listings_to, every_said, every_listed}
use Rattle.scaled.specs.Scaled.{every_of}
use Rattle.scaled.specs.Scaled.Fit.{PosedAt, scaled_passed, scaled_passes, scaled_rooms, EveryRoom, every_passed}
use Rattle.scaled.specs.Scaled.Fit.{every_passes}
use Rattle.scaled.specs.Scaled.Works.{works_next, next_room}

-- ---- the search at k

module _ (k : ℕ) (q : Question) (l : Lent) where
  -- refused before it begins, nothing is changed
  pub scaled-stopped : (o : Result ⊤ Refusal) (why : Refusal) → o ≡ Err why
      → outcome_said o ≡ scaled_room_said k q (rooms_of l.work)
      → record { said = refusal_said why; lent = l } ≡ scaled_of k q l
  unfolding scaled_of
  scaled-stopped o why e d = rw (← d, e)

  -- else the listing decides
  pub scaled_goes : scaled_room_said k q (rooms_of l.work) ≡ accepts [] → listed_of (scaled k q) l ≡ scaled_of k q l
  unfolding scaled_of
  scaled_goes e = rw e

  -- where 2, 3 and 17 refuse nothing, it is the search for the enlarged pattern: answers and buffers
  pub scaled_search : PosedAt k q → scaled_of k q l ≡ search_of (scaled k q) l
  unfolding scaled_of search_of
  scaled_search p = rw (scaled_rooms k q p (rooms_of l.work))

  -- what it says: the buffers' lengths decide
  pub scaled_said : (scaled_of k q l).said
      ≡ scaled_room_said k q (rooms_of l.work) then listed_said (scaled k q) (length l.listing)
  unfolding scaled_of listed_of
  scaled_said = go (scaled_room_said k q (rooms_of l.work))
    where
      go : (a : Said) → (stopped a l (listed_of (scaled k q) l)).said
          ≡ a then listed_said (scaled k q) (length l.listing)
      go (accepts values) = refl
      go (refuses number values) = refl

  -- accepted, it was the search for the enlarged pattern
  pub scaled_accepted : (values : List ℕ) → accepts values ≡ (scaled_of k q l).said
      → PosedAt k q × RoomFor (scaled k q) (rooms_of l.work) × (scaled_of k q l ≡ search_of (scaled k q) l)
  scaled_accepted values e =
      let a = then_both (scaled_room_said k q (rooms_of l.work)) (listed_said (scaled k q) (length l.listing)) values
      (sym (e ∙ scaled_said)) in
      let p = scaled_passed k q (rooms_of l.work) a.0.0 a.0.1 in
      (p.0, p.1, scaled_search p.0)

  -- with room for everything, this is its answer, and these are the buffers then
  pub scaled_writes : PosedAt k q → RoomFor (scaled k q) (rooms_of l.work)
      → needed_length (scaled k q) ≤ length l.listing
      → scaled_of k q l
      ≡ record {
        said = accepts (found_in (scaled k q) ∷ refused_in (scaled k q) ∷ needed_length (scaled k q) ∷ []);
        lent =
            record {
              work = work_after (scaled k q) l.work;
              listing = over_front (search_listing (scaled k q)) l.listing;
            };
      }
  unfolding listed_of listed_said
  scaled_writes p room fits =
      sym (scaled_goes (scaled_passes k q (rooms_of l.work) p room))
      ∙ rw (le-leb (needed_length (scaled k q)) (length l.listing) fits)

-- ---- the search at every k

module _ (q : Question) (l : Lent) where
  pub every_stopped : (o : Result ⊤ Refusal) (why : Refusal) → o ≡ Err why
      → outcome_said o ≡ every_room_said q (rooms_of l.work)
      → record { said = refusal_said why; lent = l } ≡ every_of q l
  unfolding every_of
  every_stopped o why e d = rw (← d, e)

  pub every_goes : every_room_said q (rooms_of l.work) ≡ accepts [] → every_listed q l ≡ every_of q l
  unfolding every_of
  every_goes e = rw e

  pub every_said_lem : (every_of q l).said
      ≡ every_room_said q (rooms_of l.work) then every_said q (length l.listing)
  unfolding every_of every_listed
  every_said_lem = go (every_room_said q (rooms_of l.work))
    where
      go : (a : Said) → (stopped a l (every_listed q l)).said ≡ a then every_said q (length l.listing)
      go (accepts values) = refl
      go (refuses number values) = refl

  -- with room for everything, this is its answer, and these are the buffers then
  pub every_accepts : EveryRoom q (rooms_of l.work) → length_to q (largest_of q) ≤ length l.listing
      → every_of q l
      ≡ record {
        said =
            accepts
            (found_to q (largest_of q) ∷ refused_to q (largest_of q) ∷ length_to q (largest_of q) ∷ []);
        lent =
            record {
              work = works_to q (largest_of q) l.work;
              listing = over_front (listings_to q (largest_of q)) l.listing;
            };
      }
  unfolding every_listed every_said
  every_accepts room fits =
      sym (every_goes (every_passes q (rooms_of l.work) room))
      ∙ rw (le-leb (length_to q (largest_of q)) (length l.listing) fits)

  -- and where the listing's buffer is too short: 11 with the length needed; links, counts and flags are as after an
  -- accepted call, and the listing is untouched
  pub every_short : EveryRoom q (rooms_of l.work) → length l.listing < length_to q (largest_of q)
      → every_of q l
      ≡ record {
        said = refuses 11 (length_to q (largest_of q) ∷ []);
        lent = record { work = works_to q (largest_of q) l.work; listing = l.listing };
      }
  unfolding every_listed every_said
  every_short room short =
      sym (every_goes (every_passes q (rooms_of l.work) room))
      ∙ rw (lt-leb (length_to q (largest_of q)) (length l.listing) short)

-- a search at every k that is accepted: there was room for everything, its values are the sums over all scales, and
-- listings and buffers are written
pub record EveryLists (q : Question) (l : Lent) (found refused size : ℕ) : Type 0 where
  pub room : EveryRoom q (rooms_of l.work)
  pub found_is : found ≡ found_to q (largest_of q)
  pub refused_is : refused ≡ refused_to q (largest_of q)
  pub size_is : size ≡ length_to q (largest_of q)
  pub fits : length_to q (largest_of q) ≤ length l.listing
  pub work_is : (every_of q l).lent.work ≡ works_to q (largest_of q) l.work
  pub written : (every_of q l).lent.listing ≡ over_front (listings_to q (largest_of q)) l.listing

module _ (q : Question) (l : Lent) (found refused size : ℕ) where
  pub every_lists : accepts (found ∷ refused ∷ size ∷ []) ≡ (every_of q l).said → EveryLists q l found refused size
  unfolding every_said
  every_lists e =
      let a = then_both (every_room_said q (rooms_of l.work)) (every_said q (length l.listing))
      (found ∷ refused ∷ size ∷ []) (sym (e ∙ every_said_lem q l)) in
      let t = check_passed (leb (length_to q (largest_of q)) (length l.listing)) 11 (length_to q (largest_of q) ∷ []) _
      (found ∷ refused ∷ size ∷ []) a.1 in
      let v = values_same found refused size (found_to q (largest_of q)) (refused_to q (largest_of q))
      (length_to q (largest_of q)) (sym t.1) in
      let room = every_passed q (rooms_of l.work) a.0.0 a.0.1 in
      let fits = says_true (le_tested (length_to q (largest_of q)) (length l.listing)) t.0 in
      let is = every_accepts q l room fits in
      record {
        room = room;
        found_is = v.0;
        refused_is = v.1;
        size_is = v.2;
        fits = fits;
        work_is = ap (λ (d : Done). d.lent.work) is;
        written = ap (λ (d : Done). d.lent.listing) is;
      }

-- ---- one scale after the other

-- where there is room for everything, the search at n + 1, lent what the scales before it left and any listing buffer
-- that is long enough, is accepted; it leaves links, counts and flags as the scales up to n + 1 leave them, and writes
-- its listing
pub every_step : (q : Question) (w : Work) (n : ℕ) (listing : List ℕ) → EveryRoom q (rooms_of w) → n + 1 ≤ largest_of q
    → needed_length (scaled (n + 1) q) ≤ length listing
    → scaled_of (n + 1) q (record { work = works_to q n w; listing = listing })
    ≡ record {
      said =
          accepts
          (found_in (scaled (n + 1) q) ∷ refused_in (scaled (n + 1) q) ∷ needed_length (scaled (n + 1) q) ∷ []);
      lent =
          record {
            work = works_to q (n + 1) w;
            listing = over_front (search_listing (scaled (n + 1) q)) listing;
          };
    }
every_step q w n listing room high fits =
    let a = next_room q w room n high in
    scaled_writes (n + 1) q (record { work = works_to q n w; listing = listing }) a.0 a.1 fits
    ∙ rw (works_next q n w)
