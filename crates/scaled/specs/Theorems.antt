-- R-2 of document 02 for a reader who knows the search of document 01. At every k that 2, 3 and 17 do not refuse the
-- search at k is the search for the enlarged pattern (`scaled_search` of Scaled/Outcome.antt), and at k = 1 the search
-- itself, but for 17 where that says 4 (`one_is_search`, `one_gives_17`). Neither operation ever gives 4; 17 is given
-- just where 2 and 3 refuse nothing and k does not fit, by the second where no k does (`gives_17`, `only_then_17` and
-- their twins); those that fit are 1 to `largest_of` (`fits_largest`, `largest_fits` of Scaled/Fit.antt). A refusal
-- other than 11 leaves every buffer as it was (`scaled_kept`, `every_kept`). Where there is room for everything, the
-- second is a fold of the first over k (`every_in_turn`, `turn_accepted`): what it writes is, one after the other, what
-- the first writes at each k, its listing (`every_bytes`, `every_part`, `every_is_each`), and links, counts and flags,
-- entry by entry (`every_work`), these under 11 too. Why it holds: the search at each k is accepted whatever the
-- buffers held before (`every_step`), and what it writes behind the listings before it are the listings so far
-- (`front_written`, `listings_written`).
-- Assumes nothing.
use Rattle.std.specs.Prelude.{◌≡◌, refl, Bool, true, false, List, [], ◌∷◌, ◌++◌, leb, length, get_or, take, drop}
use Rattle.std.proofs.Common.{sym, ◌∙◌, mul-le-mul_right, arith, length-drop}
use Rattle.std.proofs.Math.Path.{ap}
use Prim.Native.Nat.{ℕ, zero, suc, ◌+◌, ◌≤◌, ◌<◌}
use Rattle.std.proofs.Math.Numerals.{add-one}
use Rattle.std.proofs.Math.Decide.{dec_le}
use Rattle.std.proofs.Math.Seq.{take-append_seam, drop-append_seam}
use Rattle.theory.specs.Test.{both}
use Rattle.theory.specs.Bytes.{Bytes}
use Rattle.refusals.specs.Said.{Said, accepts, refuses, ◌then◌, check, check_with, said_number, over_front}
use Rattle.refusals.specs.Said.Laws.{Numbered, passing, refusing, Proper, accepting, check_proper}
use Rattle.refusals.specs.Said.Laws.{then_proper, numbered_proper, zero_accepts, then_both, check_passed, not_accepted}
use Rattle.shapes.specs.Shapes.{Fits}
use Rattle.shapes.specs.Questions.{Question, Posed, sides_of, cells_said, sides_said, size_said, shape_said, links_needed}
use Rattle.shapes.specs.Questions.{windows_of}
use Rattle.shapes.specs.Questions.Laws.{sides_numbered, cells_numbered, size_numbered, shape_in_order, size_pass}
use Rattle.shapes.specs.Questions.Laws.{posed}
use Rattle.shapes.specs.declared.shapes.Shape.{Shape}
use Rattle.flags.specs.Flags.{Work, Rooms, rooms_of, count_at, window_flag}
use Rattle.entries.specs.Listing.{found_in, refused_in, needed_length, search_listing}
use Rattle.entries.specs.Listing.Totals.{found_refused}
use Rattle.rooms.specs.Rooms.{room_said}
use Rattle.searched.specs.Search.{totalling, Lent, Done, done, listed_said, listed_of, stopped, search_of, search_said}
use Rattle.searched.specs.Search.Accepted.{said_is}
use Rattle.searched.specs.Search.Writes.{Writes, searched_writes, writes_bytes}
use Rattle.searched.specs.Theorems.{search_zero}
use Rattle.scaled.specs.Scaled.{scaled, FitsAt, fits_test, scale_said, scaled_shape_said, scaled_room_said, scaled_of}
use Rattle.scaled.specs.Scaled.{largest_of, every_room_said, sum_to, found_to, refused_to, length_to, works_to}
use Rattle.scaled.specs.Scaled.{listings_to, every_said, every_listed, every_of, summed}
use Rattle.scaled.specs.Scaled.Fit.{PosedAt, scale_pass, scale_refused, EveryRoom, largest_some}
use Rattle.scaled.specs.Scaled.Cells.{scaled_one, enlarged_bytes}
use Rattle.scaled.specs.Scaled.Works.{flags_last, flags_of, flags_behind, counts_last, counts_of, counts_behind}
use Rattle.scaled.specs.Scaled.Works.{links_zero, links_behind, works_none, works_rooms}
use Rattle.scaled.specs.Scaled.Sums.{sum_part}
use Rattle.scaled.specs.Scaled.Listings.{front_written, listings_none, listings_kept, listings_part}
use Rattle.scaled.specs.Scaled.Listings.{listings_length, listings_written}
use Rattle.scaled.specs.Scaled.Outcome.{scaled_search, scaled_said, scaled_accepted, every_said_lem, EveryLists}
use Rattle.scaled.specs.Scaled.Outcome.{every_lists, every_accepts, every_short, every_step}

-- ---- which number is given

-- what refuses does so by another number than n
data Other (n : ℕ) : Said → Type 0 where
  accepted_other : (values : List ℕ) → Other n (accepts values)
  refused_other : (number : ℕ) (values : List ℕ) → (number ≡ n → ⊥) → Other n (refuses number values)

check_other : (n : ℕ) (ok : Bool) (number : ℕ) (values : List ℕ) → (number ≡ n → ⊥)
    → Other n (check_with ok number values)
check_other n true number values d = accepted_other []
check_other n false number values d = refused_other number values d

then_other : {n : ℕ} {a b : Said} → Other n a → Other n b → Other n (a then b)
then_other (accepted_other values) b = b
then_other (refused_other number values d) b = refused_other number values d

numbered_other : {number : ℕ} {a : Said} (n : ℕ) → Numbered number a → (number ≡ n → ⊥) → Other n a
numbered_other n passing d = accepted_other []
numbered_other n refusing d = refused_other _ [] d

other_number : (n : ℕ) (a : Said) → Other n a → 0 < n → said_number a ≡ n → ⊥
other_number n (accepts values) o h e = omega (arith, h, e)
other_number n (refuses number values) (refused_other m v d) h e = d e

-- what comes after 2, 3 and 17, or after 2, 3 and 4, gives 9 or 10
room_other : (n : ℕ) (o p : Question) (r : Rooms) → (9 ≡ n → ⊥) → (10 ≡ n → ⊥)
    → Other n
    (check (leb (links_needed o) r.links) 9 then check
    (both (leb (windows_of p) r.counts) (leb (windows_of p) r.flags)) 10)
room_other n o p r d e =
    then_other (check_other n (leb (links_needed o) r.links) 9 [] d)
    (check_other n (both (leb (windows_of p) r.counts) (leb (windows_of p) r.flags)) 10 [] e)

-- and what comes after those, 11
listed_other : (n : ℕ) (q : Question) (listing : ℕ) → (11 ≡ n → ⊥) → Other n (listed_said q listing)
unfolding listed_said
listed_other n q listing d =
    then_other (check_other n (leb (needed_length q) listing) 11 (needed_length q ∷ []) d) (accepted_other _)

sums_other : (n : ℕ) (q : Question) (listing : ℕ) → (11 ≡ n → ⊥) → Other n (every_said q listing)
unfolding every_said
sums_other n q listing d =
    then_other
    (check_other n (leb (length_to q (largest_of q)) listing) 11 (length_to q (largest_of q) ∷ []) d)
    (accepted_other _)

-- a chain's number that its end does not give is given by its front
front_number : (n : ℕ) (a b : Said) → Other n b → 0 < n → said_number (a then b) ≡ n → said_number a ≡ n
front_number n (accepts values) b o h e = absurd (other_number n b o h e)
front_number n (refuses number values) b o h e = e

-- and one that its front does not give is given by its end, which is reached
end_number : {number : ℕ} {a : Said} (n : ℕ) (b : Said) → Numbered number a → (number ≡ n → ⊥)
    → said_number (a then b) ≡ n → (a ≡ accepts []) × (said_number b ≡ n)
end_number n b passing d e = (refl, e)
end_number n b refusing d e = absurd (d e)

-- ---- 17

-- a pattern that does not fit as it is fits at no k
pub none_fits : (s : Shape) → (FitsAt 1 s → ⊥) → (k : ℕ) → FitsAt k s → ⊥
none_fits s n k f =
    n
    (record {
      positive = omega arith;
      height_le = omega (arith, mul-le-mul_right s.height f.positive, f.height_le);
      width_le = omega (arith, mul-le-mul_right s.width f.positive, f.width_le);
    })

-- sides and cells that 2 and 3 do not refuse, and a k that does not fit: 17, and nothing is changed
pub gives_17 : (k : ℕ) (q : Question) (l : Lent) → sides_said (sides_of q) ≡ accepts [] → cells_said q ≡ accepts []
    → (FitsAt k (sides_of q) → ⊥) → scaled_of k q l ≡ record { said = refuses 17 []; lent = l }
unfolding scaled_of scaled_room_said scaled_shape_said
gives_17 k q l sides cells n = rw (sides, cells, ← (scale_refused k (sides_of q) n))

pub every_gives_17 : (q : Question) (l : Lent) → sides_said (sides_of q) ≡ accepts [] → cells_said q ≡ accepts []
    → (FitsAt 1 (sides_of q) → ⊥) → every_of q l ≡ record { said = refuses 17 []; lent = l }
unfolding every_of every_room_said scaled_shape_said
every_gives_17 q l sides cells n = rw (sides, cells, ← (scale_refused 1 (sides_of q) n))

-- and only then is it given
shape_17 : (k : ℕ) (q : Question) → said_number (scaled_shape_said k q) ≡ 17
    → (sides_said (sides_of q) ≡ accepts []) × (cells_said q ≡ accepts []) × (FitsAt k (sides_of q) → ⊥)
unfolding scaled_shape_said
shape_17 k q e =
    let a = end_number 17 (cells_said q then scale_said k (sides_of q)) (sides_numbered (sides_of q)) (omega arith) e in
    let b = end_number 17 (scale_said k (sides_of q)) (cells_numbered q) (omega arith) a.1 in
    (a.0, b.0, λ f. omega (arith, ap said_number (scale_pass k (sides_of q) f), b.1))

pub only_then_17 : (k : ℕ) (q : Question) (l : Lent) → said_number (scaled_of k q l).said ≡ 17
    → (sides_said (sides_of q) ≡ accepts []) × (cells_said q ≡ accepts []) × (FitsAt k (sides_of q) → ⊥)
unfolding scaled_room_said
only_then_17 k q l e =
    shape_17 k q
    (front_number 17 (scaled_shape_said k q) _
    (room_other 17 (scaled k q) (scaled k q) (rooms_of l.work) (omega arith) (omega arith)) (omega arith)
    (front_number 17 (scaled_room_said k q (rooms_of l.work)) _
    (listed_other 17 (scaled k q) (length l.listing) (omega arith)) (omega arith)
    (sym (ap said_number (scaled_said k q l)) ∙ e)))

-- by the search at every k where none fits
pub every_only_then_17 : (q : Question) (l : Lent) → said_number (every_of q l).said ≡ 17
    → (sides_said (sides_of q) ≡ accepts []) × (cells_said q ≡ accepts []) × ((k : ℕ) → FitsAt k (sides_of q) → ⊥)
unfolding every_room_said
every_only_then_17 q l e =
    let s =
    shape_17 1 q
    (front_number 17 (scaled_shape_said 1 q) _
    (room_other 17 (scaled (largest_of q) q) (scaled 1 q) (rooms_of l.work) (omega arith) (omega arith)) (omega arith)
    (front_number 17 (every_room_said q (rooms_of l.work)) _
    (sums_other 17 q (length l.listing) (omega arith)) (omega arith)
    (sym (ap said_number (every_said_lem q l)) ∙ e))) in
    (s.0, s.1, none_fits (sides_of q) s.2)

-- ---- 4 is never given

shape_other : (k : ℕ) (q : Question) → Other 4 (scaled_shape_said k q)
unfolding scaled_shape_said scale_said
shape_other k q =
    then_other (numbered_other 4 (sides_numbered (sides_of q)) (omega arith))
    (then_other (numbered_other 4 (cells_numbered q) (omega arith))
    (check_other 4 (fits_test k (sides_of q)) 17 [] (omega arith)))

scaled_other : (k : ℕ) (q : Question) (r : Rooms) (n : ℕ)
    → Other 4 (scaled_room_said k q r then listed_said (scaled k q) n)
unfolding scaled_room_said
scaled_other k q r n =
    then_other (then_other (shape_other k q) (room_other 4 (scaled k q) (scaled k q) r (omega arith) (omega arith)))
    (listed_other 4 (scaled k q) n (omega arith))

pub scaled_never_4 : (k : ℕ) (q : Question) (l : Lent) → said_number (scaled_of k q l).said ≡ 4 → ⊥
scaled_never_4 k q l =
    rw (scaled_said k q l)
    (other_number 4 _ (scaled_other k q (rooms_of l.work) (length l.listing)) (omega arith))

every_other : (q : Question) (r : Rooms) (n : ℕ) → Other 4 (every_room_said q r then every_said q n)
unfolding every_room_said
every_other q r n =
    then_other
    (then_other (shape_other 1 q)
    (room_other 4 (scaled (largest_of q) q) (scaled 1 q) r (omega arith) (omega arith)))
    (sums_other 4 q n (omega arith))

pub every_never_4 : (q : Question) (l : Lent) → said_number (every_of q l).said ≡ 4 → ⊥
every_never_4 q l =
    rw (every_said_lem q l) (other_number 4 _ (every_other q (rooms_of l.work) (length l.listing)) (omega arith))

-- ---- k = 1

-- a question that the search does not refuse by 2, 3 or 4 is one that the search at 1 does not refuse by 2, 3 or 17
pub posed_at_one : (q : Question) → Posed q → PosedAt 1 q
posed_at_one q p =
    record {
      sides = p.shape.sized.sides;
      text_size = p.shape.cells_is;
      pattern_size = p.size;
      fitting =
          record {
            positive = omega arith;
            height_le = omega (arith, p.shape.sized.fitting.height_le);
            width_le = omega (arith, p.shape.sized.fitting.width_le);
          };
    }

-- and then they are one: answers and buffers
pub one_posed : (q : Question) (l : Lent) → Posed q → scaled_of 1 q l ≡ search_of q l
one_posed q l p =
    scaled_search 1 q l (posed_at_one q p) ∙ ap (λ (o : Question). search_of o l) (scaled_one q p.size)

-- and so they are unless the search says 4
pub one_is_search : (q : Question) (l : Lent) → (said_number (search_of q l).said ≡ 4 → ⊥)
    → scaled_of 1 q l ≡ search_of q l
unfolding scaled_of scaled_room_said scaled_shape_said search_of room_said
one_is_search q l never = of_sides (sides_said (sides_of q)) refl (sides_numbered (sides_of q))
  where
    of_size : (a : Said) → sides_said (sides_of q) ≡ accepts [] → cells_said q ≡ accepts [] → size_said (sides_of q) ≡ a
        → Numbered 4 a → scaled_of 1 q l ≡ search_of q l
    of_size (accepts values) sides cells e passing = one_posed q l (posed q [] (rw (shape_in_order q, sides, cells, e)))
    of_size (refuses number values) sides cells e refusing = absurd (never (rw (shape_in_order q, sides, cells, e)))

    of_cells : (a : Said) → sides_said (sides_of q) ≡ accepts [] → cells_said q ≡ a → Numbered 3 a
        → scaled_of 1 q l ≡ search_of q l
    of_cells (accepts values) sides e passing =
        of_size (size_said (sides_of q)) sides e refl (size_numbered (sides_of q))
    of_cells (refuses number values) sides e refusing = rw (shape_in_order q, sides, e)

    of_sides : (a : Said) → sides_said (sides_of q) ≡ a → Numbered 2 a → scaled_of 1 q l ≡ search_of q l
    of_sides (accepts values) e passing = of_cells (cells_said q) e refl (cells_numbered q)
    of_sides (refuses number values) e refusing = rw (shape_in_order q, e)

-- where it says 4, the search at 1 says 17, and nothing is changed
pub one_gives_17 : (q : Question) (l : Lent) → said_number (search_of q l).said ≡ 4
    → scaled_of 1 q l ≡ record { said = refuses 17 []; lent = l }
unfolding search_said room_said
one_gives_17 q l e =
    let s =
    front_number 4 (shape_said q) _ (room_other 4 q q (rooms_of l.work) (omega arith) (omega arith)) (omega arith)
    (front_number 4 (room_said q (rooms_of l.work)) _ (listed_other 4 q (length l.listing) (omega arith))
    (omega arith) (sym (ap said_number (said_is q l)) ∙ e)) in
    let t = sym (ap said_number (shape_in_order q)) ∙ s in
    let a = end_number 4 (cells_said q then size_said (sides_of q)) (sides_numbered (sides_of q)) (omega arith) t in
    let b = end_number 4 (size_said (sides_of q)) (cells_numbered q) (omega arith) a.1 in
    gives_17 1 q l a.0 b.0 (λ f. omega (arith, ap said_number (size_pass (sides_of q) (as_it_is f)), b.1))
  where
    as_it_is : FitsAt 1 (sides_of q) → Fits q.text.rows q.text.columns q.pattern.rows q.pattern.columns
    as_it_is f = record { height_le = omega (arith, f.height_le); width_le = omega (arith, f.width_le) }

-- ---- a refusal other than 11 leaves every buffer as it was

is_11 : (ok : Bool) (size values returned : List ℕ) (number : ℕ)
    → check_with ok 11 size then accepts values ≡ refuses number returned → number ≡ 11
is_11 true size values returned number e = absurd (not_accepted number returned values (sym e))
is_11 false size values returned number e = sym (ap said_number e)

pub scaled_kept : (k : ℕ) (q : Question) (l : Lent) (number : ℕ) (values : List ℕ)
    → (scaled_of k q l).said ≡ refuses number values → (number ≡ 11 → ⊥) → (scaled_of k q l).lent ≡ l
unfolding scaled_of listed_of listed_said
scaled_kept k q l number values = go (scaled_room_said k q (rooms_of l.work))
  where
    go : (a : Said) → (stopped a l (listed_of (scaled k q) l)).said ≡ refuses number values → (number ≡ 11 → ⊥)
        → (stopped a l (listed_of (scaled k q) l)).lent ≡ l
    go (accepts returned) e d =
        absurd (d (is_11 (leb (needed_length (scaled k q)) (length l.listing)) _ _ values number e))
    go (refuses n returned) e d = refl

pub every_kept : (q : Question) (l : Lent) (number : ℕ) (values : List ℕ)
    → (every_of q l).said ≡ refuses number values → (number ≡ 11 → ⊥) → (every_of q l).lent ≡ l
unfolding every_of every_listed every_said
every_kept q l number values = go (every_room_said q (rooms_of l.work))
  where
    go : (a : Said) → (stopped a l (every_listed q l)).said ≡ refuses number values → (number ≡ 11 → ⊥)
        → (stopped a l (every_listed q l)).lent ≡ l
    go (accepts returned) e d =
        absurd (d (is_11 (leb (length_to q (largest_of q)) (length l.listing)) _ _ values number e))
    go (refuses n returned) e d = refl

-- ---- number 0

-- no refusal has it
shape_proper : (k : ℕ) (q : Question) → Proper (scaled_shape_said k q)
unfolding scaled_shape_said scale_said
shape_proper k q =
    then_proper (numbered_proper (sides_numbered (sides_of q)) (omega arith))
    (then_proper (numbered_proper (cells_numbered q) (omega arith))
    (check_proper (fits_test k (sides_of q)) 17 [] (omega arith)))

scaled_proper : (k : ℕ) (q : Question) (r : Rooms) (n : ℕ)
    → Proper (scaled_room_said k q r then listed_said (scaled k q) n)
unfolding scaled_room_said listed_said
scaled_proper k q r n =
    then_proper
    (then_proper (shape_proper k q)
    (then_proper (check_proper (leb (links_needed (scaled k q)) r.links) 9 [] (omega arith))
    (check_proper (both (leb (windows_of (scaled k q)) r.counts) (leb (windows_of (scaled k q)) r.flags)) 10 []
    (omega arith))))
    (then_proper (check_proper (leb (needed_length (scaled k q)) n) 11 (needed_length (scaled k q) ∷ []) (omega arith))
    (accepting _))

every_proper : (q : Question) (r : Rooms) (n : ℕ) → Proper (every_room_said q r then every_said q n)
unfolding every_room_said every_said
every_proper q r n =
    then_proper
    (then_proper (shape_proper 1 q)
    (then_proper (check_proper (leb (links_needed (scaled (largest_of q) q)) r.links) 9 [] (omega arith))
    (check_proper (both (leb (windows_of (scaled 1 q)) r.counts) (leb (windows_of (scaled 1 q)) r.flags)) 10 []
    (omega arith))))
    (then_proper (check_proper (leb (length_to q (largest_of q)) n) 11 (length_to q (largest_of q) ∷ []) (omega arith))
    (accepting _))

-- where the number is 0, it is accepted, with the windows found and refused and the length
pub scaled-zero : (k : ℕ) (q : Question) (l : Lent) → said_number (scaled_of k q l).said ≡ 0
    → (scaled_of k q l).said
    ≡ accepts (found_in (scaled k q) ∷ refused_in (scaled k q) ∷ needed_length (scaled k q) ∷ [])
scaled-zero k q l e =
    let z =
    zero_accepts (scaled_room_said k q (rooms_of l.work) then listed_said (scaled k q) (length l.listing))
    (scaled_proper k q (rooms_of l.work) (length l.listing)) (sym (ap said_number (scaled_said k q l)) ∙ e) in
    let a = scaled_accepted k q l z.0 (sym (scaled_said k q l ∙ z.1)) in
    let same : (scaled_of k q l).said ≡ (search_of (scaled k q) l).said = ap (λ (d : Done). d.said) a.2 in
    same ∙ search_zero (scaled k q) l (sym (ap said_number same) ∙ e)

-- and of the search at every k, with the sums
pub every_zero : (q : Question) (l : Lent) → said_number (every_of q l).said ≡ 0
    → (every_of q l).said
    ≡ accepts (found_to q (largest_of q) ∷ refused_to q (largest_of q) ∷ length_to q (largest_of q) ∷ [])
unfolding every_said
every_zero q l e =
    let z =
    zero_accepts (every_room_said q (rooms_of l.work) then every_said q (length l.listing))
    (every_proper q (rooms_of l.work) (length l.listing)) (sym (ap said_number (every_said_lem q l)) ∙ e) in
    let a = then_both (every_room_said q (rooms_of l.work)) (every_said q (length l.listing)) z.0 z.1 in
    let b = check_passed (leb (length_to q (largest_of q)) (length l.listing)) 11 (length_to q (largest_of q) ∷ []) _
    z.0 a.1 in
    every_said_lem q l ∙ z.1 ∙ sym b.1

-- ---- what the search at k writes

-- as many first bytes as the length says are the listing of the enlarged pattern
pub scaled-part : (k : ℕ) (q : Question) (l after : Lent) (found refused size : ℕ) → Bytes q.pattern.cells
    → done (totalling found refused size) after ≡ scaled_of k q l
    → Writes (scaled k q) l.listing after.listing found refused size
    × (take size after.listing ≡ search_listing (scaled k q))
scaled-part k q l after found refused size bytes is =
    let a = scaled_accepted k q l (found ∷ refused ∷ size ∷ []) (ap (λ (d : Done). d.said) is) in
    let w = searched_writes (scaled k q) l after found refused size (is ∙ a.2) in (
      w,
      writes_bytes (scaled k q) l.listing after.listing found refused size
          (enlarged_bytes k q.pattern bytes) w,
    )

-- ---- the second operation is a fold of the first

-- the first at k = 1, .., n in turn: each is lent links, counts and flags as the one before left them, and the
-- listing's buffer from where the listings before end
unfoldable pub in_turn : Question → ℕ → Lent → Lent
in_turn q zero l = l
in_turn q (suc n) l =
    let b = in_turn q n l in
    let d = scaled_of (suc n) q (record { work = b.work; listing = drop (length_to q n) b.listing }) in
    record { work = d.lent.work; listing = take (length_to q n) b.listing ++ d.lent.listing }

module _ (q : Question) (l : Lent) (bytes : Bytes q.pattern.cells) (room : EveryRoom q (rooms_of l.work))
    (fits : length_to q (largest_of q) ≤ length l.listing) where
  -- what the first n leave
  abbrev left : ℕ → Lent
  left n = record { work = works_to q n l.work; listing = over_front (listings_to q n) l.listing }

  -- one more, lent what they leave
  abbrev turn : ℕ → ℕ → Lent → Lent
  turn k n b =
      let d = scaled_of k q (record { work = b.work; listing = drop (length_to q n) b.listing }) in
      record { work = d.lent.work; listing = take (length_to q n) b.listing ++ d.lent.listing }

  -- there is room for it behind their listings
  room_left : (n : ℕ) → n + 1 ≤ largest_of q
      → needed_length (scaled (n + 1) q) ≤ length (drop (length_to q n) (left n).listing)
  room_left n high =
      let part = sum_part (λ k. needed_length (scaled k q)) n (largest_of q) high in
      let kept = listings_kept q bytes n l.listing (omega (arith, part, fits)) in
      omega (arith, part, fits, kept, length-drop (length_to q n) (left n).listing)

  one_turn : (n : ℕ) → n + 1 ≤ largest_of q → turn (n + 1) n (left n) ≡ left (n + 1)
  one_turn n high =
      rw (every_step q l.work n (drop (length_to q n) (left n).listing) room high (room_left n high))
      (ap (λ (buffer : List ℕ). record { work = works_to q (n + 1) l.work; listing = buffer })
      (front_written (left n).listing (length_to q n) (search_listing (scaled (n + 1) q))
      ∙ listings_written q bytes n l.listing))

  -- in turn they leave what the second's definition says
  turns : (n : ℕ) → n ≤ largest_of q → in_turn q n l ≡ left n
  unfolding in_turn
  turns zero h = rw (works_none q l.work, listings_none q)
  turns (suc n) h =
      ap (turn (suc n) n) (turns n (omega arith))
      ∙ rw (← add-one n) (one_turn n (omega (arith, add-one n)))

  -- each of them is accepted, with the values that the second adds up
  pub turn_accepted : (n : ℕ) → n + 1 ≤ largest_of q
      → (scaled_of (n + 1) q
      (record { work = (in_turn q n l).work; listing = drop (length_to q n) (in_turn q n l).listing })).said
      ≡ accepts (found_in (scaled (n + 1) q) ∷ refused_in (scaled (n + 1) q) ∷ needed_length (scaled (n + 1) q) ∷ [])
  turn_accepted n high =
      rw (turns n (omega (arith, high)))
      (ap (λ (d : Done). d.said)
      (every_step q l.work n (drop (length_to q n) (left n).listing) room high (room_left n high)))

  -- and the second leaves what the first leaves at 1, 2, .. up to the largest k in turn
  pub every_in_turn : (every_of q l).lent ≡ in_turn q (largest_of q) l
  every_in_turn =
      ap (λ (d : Done). d.lent) (every_accepts q l room fits) ∙ sym (turns (largest_of q) (omega arith))

-- ---- what the search at every k writes

module _ (q : Question) (l after : Lent) (found refused size : ℕ)
    (is : summed (totalling found refused size) after ≡ every_of q l) where
  -- accepted: there was room, the values are the sums, and this is written
  pub every_listed_lem : EveryLists q l found refused size
  every_listed_lem = every_lists q l found refused size (ap (λ (d : Done). d.said) is)

  pub every_writes : after.listing ≡ over_front (listings_to q (largest_of q)) l.listing
  every_writes = ap (λ (d : Done). d.lent.listing) is ∙ every_listed_lem.written

  pub every_works : after.work ≡ works_to q (largest_of q) l.work
  every_works = ap (λ (d : Done). d.lent.work) is ∙ every_listed_lem.work_is

  -- as many first bytes as the length says are the listings one after the other; behind them it is as it was
  pub every_bytes : Bytes q.pattern.cells
      → (take size after.listing ≡ listings_to q (largest_of q))
      × (drop size after.listing ≡ drop size l.listing)
  every_bytes bytes =
      let long = every_listed_lem.size_is ∙ sym (listings_length q bytes (largest_of q)) in (
        rw (every_writes, long) (take-append_seam (listings_to q (largest_of q)) _),
        rw (every_writes, long) (drop-append_seam (listings_to q (largest_of q)) _),
      )

  -- from the place where the listings of k scales end, as many bytes as scale k + 1 needs are its listing
  pub every_part : Bytes q.pattern.cells → (k : ℕ) → k + 1 ≤ largest_of q
      → take (needed_length (scaled (k + 1) q)) (drop (length_to q k) after.listing) ≡ search_listing (scaled (k + 1) q)
  every_part bytes k h = rw every_writes (listings_part q bytes k (largest_of q) _ h)

  -- which is what the search at k + 1 writes, wherever it is accepted
  pub every_is_each : Bytes q.pattern.cells → (k : ℕ) → k + 1 ≤ largest_of q
      → (m then_after : Lent) (a b n : ℕ) → done (totalling a b n) then_after ≡ scaled_of (k + 1) q m
      → take n (drop (length_to q k) after.listing) ≡ take n then_after.listing
  every_is_each bytes k h m then_after a b n each =
      let w = scaled-part (k + 1) q m then_after a b n bytes each in
      rw (w.1, w.0.size_is) (every_part bytes k h)

-- found and refused of the first n scales are together the number of all their windows
pub every_windows : (q : Question) (n : ℕ) → found_to q n + refused_to q n ≡ sum_to (λ k. windows_of (scaled k q)) n
unfolding sum_to
every_windows q zero = refl
every_windows q (suc n) = omega (arith, every_windows q n, found_refused (scaled (suc n) q))

-- ---- links, counts and flags after it, entry by entry

-- the first entries, as many as the largest k has windows, are its own; behind the windows of k + 1 stands what k left,
-- down to k = 1; behind those of k = 1 what was there. Links are 0 as far as the largest k needs them, and behind as
-- they were. No buffer's length is changed.
pub record Layered (q : Question) (w after : Work) : Type 0 where
  pub lengths : rooms_of after ≡ rooms_of w
  pub flags_first : (i : ℕ) → i < windows_of (scaled (largest_of q) q)
      → get_or after.flags i 0 ≡ window_flag (scaled (largest_of q) q) i
  pub flags_then : (k i : ℕ) → 1 ≤ k → k < largest_of q → windows_of (scaled (k + 1) q) ≤ i
      → i < windows_of (scaled k q)
      → get_or after.flags i 0 ≡ window_flag (scaled k q) i
  pub flags_rest : (i : ℕ) → windows_of (scaled 1 q) ≤ i → get_or after.flags i 0 ≡ get_or w.flags i 0
  pub counts_first : (i : ℕ) → i < windows_of (scaled (largest_of q) q)
      → get_or after.counts i 0 ≡ count_at (scaled (largest_of q) q) i
  pub counts_then : (k i : ℕ) → 1 ≤ k → k < largest_of q → windows_of (scaled (k + 1) q) ≤ i
      → i < windows_of (scaled k q)
      → get_or after.counts i 0 ≡ count_at (scaled k q) i
  pub counts_rest : (i : ℕ) → windows_of (scaled 1 q) ≤ i → get_or after.counts i 0 ≡ get_or w.counts i 0
  pub links_first : (i : ℕ) → i < links_needed (scaled (largest_of q) q) → get_or after.links i 0 ≡ 0
  pub links_rest : (i : ℕ) → links_needed (scaled (largest_of q) q) ≤ i → get_or after.links i 0 ≡ get_or w.links i 0

layered : (q : Question) (w : Work) → EveryRoom q (rooms_of w) → Layered q w (works_to q (largest_of q) w)
layered q w room =
    let some = largest_some q room.posed_is in
    record {
      lengths = works_rooms q w room (largest_of q) (omega arith);
      flags_first = λ i h. flags_last q w (largest_of q) i some h;
      flags_then = λ k i low high from to. flags_of q w (largest_of q) k i low (omega (arith, high)) to from;
      flags_rest = λ i h. flags_behind q w (largest_of q) i h;
      counts_first = λ i h. counts_last q w (largest_of q) i some h;
      counts_then = λ k i low high from to. counts_of q w (largest_of q) k i low (omega (arith, high)) to from;
      counts_rest = λ i h. counts_behind q w (largest_of q) i h;
      links_first = λ i h. links_zero q w (largest_of q) i some h;
      links_rest = λ i h. links_behind q w (largest_of q) i h;
    }

-- where nothing is refused before 11, whether it is then accepted or refused by 11
pub every_work : (q : Question) (l : Lent) → EveryRoom q (rooms_of l.work)
    → Layered q l.work (every_of q l).lent.work
every_work q l room =
    rw (either (dec_le (length_to q (largest_of q)) (length l.listing))) (layered q l.work room)
  where
    either : Dec (length_to q (largest_of q) ≤ length l.listing)
        → (every_of q l).lent.work ≡ works_to q (largest_of q) l.work
    either (yes fits) = ap (λ (d : Done). d.lent.work) (every_accepts q l room fits)
    either (no short) = ap (λ (d : Done). d.lent.work) (every_short q l room (omega arith))
