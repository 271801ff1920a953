-- R-2 of document 02, coarse cloth. A pattern scaled to k (`enlarged`), and the question with it (`scaled`): the search
-- at a given k (`scaled_of`) is the search for the enlarged pattern with its own order of refusals, 2 and 3 on text and
-- pattern as they are given, then 17 in place of 4, then 9, 10 and 11 of the enlarged one. The search at every k
-- (`every_of`) goes from 1 to the largest k that fits (`largest_scale_of`): its answers are sums over k, its listing is the
-- listings one after the other, and links, counts and flags are written for one k after the other.
-- Assumes nothing.
pub mod Fit
pub mod Cells
pub mod Sums
pub mod Works
pub mod Listings
pub mod Outcome
use Rattle.std.specs.Prelude.{Bool, List, [], ◌∷◌, ℕ, zero, suc, ◌+◌, ◌*◌, ◌/◌, ◌%◌, ◌≤◌, min, leb, length, get_or}
use Rattle.theory.specs.Test.{both}
use Rattle.theory.specs.Table.{table}
use Rattle.theory.specs.Join.{joined}
use Rattle.refusals.specs.Said.{Said, accepts, ◌then◌, check, check_with, buffer_by, refusal_said}
use Rattle.shapes.specs.Questions.{Grid, grid_of, Question, sides_of, sides_said, cells_said, links_needed, windows_of}
use Rattle.shapes.specs.declared.shapes.Shape.{Shape}
use Rattle.flags.specs.Flags.{Work, Rooms, rooms_of, work_after}
use Rattle.entries.specs.Listing.{found_in, refused_in, needed_length, search_listing}
use Rattle.searched.specs.Search.{Searched, searched_said, done, totalling, Lent, Done, listed_of, stopped}

-- ---- the enlargement

-- each cell as k by k cells: cell (i, j) is the pattern's (i / k, j / k)
unfoldable pub enlarged_cells : ℕ → List ℕ → ℕ → ℕ → List ℕ
enlarged_cells k cells rows columns =
    table (λ p. get_or cells (p / (k * columns) / k * columns + p % (k * columns) / k) 0) (k * rows * (k * columns))

-- with its sides: document 000's P scaled to k
abbrev pub enlarged : ℕ → Grid → Grid
enlarged k g = grid_of (enlarged_cells k g.cells g.rows g.columns) (k * g.rows) (k * g.columns)

-- the question with the pattern enlarged, the text as it is
abbrev pub scaled : ℕ → Question → Question
scaled k q = record { text = q.text; pattern = enlarged k q.pattern }

-- ---- the search at a given k

-- k is at least 1, and the enlarged pattern is neither taller nor wider than the text
pub record FitsAt (k : ℕ) (s : Shape) : Type 0 where
  pub positive : 1 ≤ k
  pub height_le : k * s.height ≤ s.rows
  pub width_le : k * s.width ≤ s.columns

unfoldable pub fits_test : ℕ → Shape → Bool
fits_test k s = both (leb 1 k) (both (leb (k * s.height) s.rows) (leb (k * s.width) s.columns))

-- 17: it does not fit
unfoldable pub scale_said : ℕ → Shape → Said
scale_said k s = check (fits_test k s) 17

-- 2 and 3 on text and pattern as they are given, then 17 in place of 4
unfoldable pub scaled_shape_said : ℕ → Question → Said
scaled_shape_said k q = sides_said (sides_of q) then cells_said q then scale_said k (sides_of q)

-- 2, 3, 17, then 9 and 10 for the enlarged pattern
unfoldable pub scaled_room_said : ℕ → Question → Rooms → Said
scaled_room_said k q r =
    scaled_shape_said k q then check (leb (links_needed (scaled k q)) r.links) 9 then check
    (both (leb (windows_of (scaled k q)) r.counts) (leb (windows_of (scaled k q)) r.flags)) 10

-- the search at k: then it is the search for the enlarged pattern
unfoldable pub scaled_of : ℕ → Question → Lent → Done
scaled_of k q l = stopped (scaled_room_said k q (rooms_of l.work)) l (listed_of (scaled k q) l)

-- ---- the search at every k

-- for sides that 2 does not refuse the largest k that fits; 0 where none does
abbrev pub largest_scale_of : Shape → ℕ
largest_scale_of s = min (s.rows / s.height) (s.columns / s.width)

-- of a question
abbrev pub largest_of : Question → ℕ
largest_of q = largest_scale_of (sides_of q)

-- 2, 3, then 17 where not even k = 1 fits; 9 at the largest k, 10 at k = 1
unfoldable pub every_room_said : Question → Rooms → Said
every_room_said q r =
    scaled_shape_said 1 q then check (leb (links_needed (scaled (largest_of q) q)) r.links) 9 then check
    (both (leb (windows_of (scaled 1 q)) r.counts) (leb (windows_of (scaled 1 q)) r.flags)) 10

-- f 1 + f 2 + .. + f n
unfoldable pub sum_to : (ℕ → ℕ) → ℕ → ℕ
sum_to f zero = 0
sum_to f (suc n) = sum_to f n + f (suc n)

-- found, refused and length at k = 1, .., n together
abbrev pub found_to : Question → ℕ → ℕ
found_to q n = sum_to (λ k. found_in (scaled k q)) n

abbrev pub refused_to : Question → ℕ → ℕ
refused_to q n = sum_to (λ k. refused_in (scaled k q)) n

abbrev pub length_to : Question → ℕ → ℕ
length_to q n = sum_to (λ k. needed_length (scaled k q)) n

-- links, counts and flags after k = 1, .., n, each written afresh from the start
unfoldable pub works_to : Question → ℕ → Work → Work
works_to q zero w = w
works_to q (suc n) w = work_after (scaled (suc n) q) (works_to q n w)

-- the listings at k = 1, .., n one after the other
unfoldable pub listings_to : Question → ℕ → List ℕ
listings_to q n = joined (λ i. search_listing (scaled (suc i) q)) n

-- then 11 by the sum of the lengths, which it returns; accepted, the sums of found, refused and length
unfoldable pub every_said : Question → ℕ → Said
every_said q listing =
    check_with (leb (length_to q (largest_of q)) listing) 11 (length_to q (largest_of q) ∷ [])
    then accepts (found_to q (largest_of q) ∷ refused_to q (largest_of q) ∷ length_to q (largest_of q) ∷ [])

-- where nothing but 11 is left to ask: links, counts and flags are written under 11 too, the listing is not
unfoldable pub every_listed : Question → Lent → Done
every_listed q l =
    record {
      said = every_said q (length l.listing);
      lent =
          record {
            work = works_to q (largest_of q) l.work;
            listing = buffer_by (every_said q (length l.listing)) (listings_to q (largest_of q)) l.listing;
          };
    }

-- the search at every k
unfoldable pub every_of : Question → Lent → Done
every_of q l = stopped (every_room_said q (rooms_of l.work)) l (every_listed q l)

-- the papers' number and values of an answer: accepted, the three sums; of a refusal its number and what it returns
-- besides
abbrev pub summed_said : Searched → Said
summed_said answer = searched_said answer

-- an answer, with the buffers then
abbrev pub summed : Searched → Lent → Done
summed r l = done r l
