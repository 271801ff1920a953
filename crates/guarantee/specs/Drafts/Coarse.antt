-- A search at every k, computed (R-2 of document 02): text 7 7 / 7 3, pattern 1 by 1, which fits at k = 1 and at k = 2.
-- Its sums are 4 found, 1 refused and 41 bytes; behind the one window of k = 2 flags and counts are what k = 1 left,
-- and behind those what was there (`coarse_draft`). In a buffer of 40 bytes it is 11 with 41, and links, counts and
-- flags are the same (`coarse-short`). Why it holds: as in the drafts, the two listings compute once windows and
-- symbols are read from the lists; flags and counts likewise, window by window.
-- Assumes nothing.
use Rattle.std.specs.Prelude.{◌≡◌, refl, true, List, [], ◌∷◌, ◌++◌, length, get_or, drop}
use Rattle.std.proofs.Common.{sym, ◌∙◌, ap₂, arith}
use Rattle.std.proofs.Math.Path.{ap, fun_ext}
use Prim.Native.Nat.{ℕ, ◌+◌, ◌*◌, ◌/◌, ◌%◌, ◌≤◌, ◌<◌}
use Rattle.theory.specs.Test.{pick}
use Rattle.theory.specs.First.{first}
use Rattle.theory.specs.Join.{joined}
use Rattle.theory.specs.Table.{table}
use Rattle.theory.specs.Count.{count, members}
use Rattle.theory.specs.Count.Laws.{count_ext}
use Rattle.theory.specs.Match.{mismatch_at, earliest, ends, first_end, mismatch_ending, answer_of, image_of, is_match}
use Rattle.shapes.specs.Shapes.{Side, corners}
use Rattle.shapes.specs.Questions.{ask, Question}
use Rattle.cells.specs.Windows.Laws.{window_at_lem, cells-table}
use Rattle.occurrences.specs.Distinct.{contains, distinct}
use Rattle.occurrences.specs.Distinct.Sets.{distinct_count}
use Rattle.refusals.specs.Said.{accepts, refuses, over_front}
use Rattle.counts.specs.Counts.{window_count}
use Rattle.counts.specs.Counts.Laws.{window_count_lem}
use Rattle.listing.specs.Entries.{bytes_all, pairs_of, entry_of}
use Rattle.flags.specs.Flags.{Work, working, rooms_of, count_at, window_flag, work_after}
use Rattle.entries.specs.Listing.{search_listing}
use Rattle.searched.specs.Search.{Done, lend}
use Rattle.scaled.specs.Scaled.{enlarged_cells, scaled, sum_to, found_to, refused_to, length_to, works_to, listings_to}
use Rattle.scaled.specs.Scaled.{every_of}
use Rattle.scaled.specs.Scaled.Fit.{EveryRoom}
use Rattle.scaled.specs.Scaled.Listings.{listings_length}
use Rattle.scaled.specs.Scaled.Outcome.{every_accepts, every_short}
use Rattle.guarantee.specs.Drafts.{stands_in, contains_stands, read_at, window_from, answer_from, entry_read}
use Rattle.guarantee.specs.Drafts.{closing_read, listing_from, listing_read, found_from, found_read, refused_from}
use Rattle.guarantee.specs.Drafts.{refused_read, byte_list, byte_list_lem}

-- ---- flags and counts, computed

module _ (rows columns : ℕ) (pattern : List ℕ) (height width : ℕ) where
  flag_read : (text : List ℕ) (k : ℕ) → window_flag (ask text rows columns pattern height width) k
      ≡ pick
      (is_match (answer_from rows columns pattern height width (read_at rows columns pattern height width text) k)) 1 0
  unfolding window_flag answer_from window_from read_at
  flag_read text k =
      ap (λ (w : ℕ → ℕ → ℕ → ℕ). pick (is_match (answer_from rows columns pattern height width w k)) 1 0)
      (fun_ext (λ row. fun_ext (λ column. fun_ext (window_at_lem text columns row column width))))

-- text 7 7 / 7 3
abbrev pub coarse_text : List ℕ
coarse_text = 7 ∷ 7 ∷ 7 ∷ 3 ∷ []

-- pattern 1
abbrev pub coarse : Question
coarse = ask coarse_text 2 2 (1 ∷ []) 1 1

flags_are : (window_flag (scaled 2 coarse) 0 ≡ 0) × (window_flag (scaled 1 coarse) 1 ≡ 1)
    × (window_flag (scaled 1 coarse) 2 ≡ 1) × (window_flag (scaled 1 coarse) 3 ≡ 1)
unfolding enlarged_cells table read_at window_from answer_from answer_of first_end first ends earliest mismatch_at
    mismatch_ending
flags_are = (
  flag_read 2 2 (1 ∷ 1 ∷ 1 ∷ 1 ∷ []) 2 2 coarse_text 0,
  flag_read 2 2 (1 ∷ []) 1 1 coarse_text 1,
  flag_read 2 2 (1 ∷ []) 1 1 coarse_text 2,
  flag_read 2 2 (1 ∷ []) 1 1 coarse_text 3,
)

-- the different symbols of a list of bytes, computed
distinct_read : (xs : List ℕ) → byte_list xs ≡ true → distinct xs ≡ count (stands_in xs) 256
distinct_read xs e =
    sym (distinct_count xs 256 (λ i _. byte_list_lem xs e i))
    ∙ count_ext (contains xs) (stands_in xs) 256 (λ v _. contains_stands xs v)

-- those of a window whose cells are these
count_read : (columns height width row column : ℕ) (text xs : List ℕ) → column < corners columns width
    → table (λ p. get_or text ((row + p / width) * columns + column + p % width) 0) (height * width) ≡ xs
    → byte_list xs ≡ true
    → window_count text columns height width (row * corners columns width + column) ≡ count (stands_in xs) 256
count_read columns height width row column text xs h cells small =
    window_count_lem text columns height width row column h
    ∙ ap distinct
    (cells-table text columns row column height width
    ∙ ap (λ (w : ℕ → ℕ). table w (height * width)) (fun_ext (window_at_lem text columns row column width)) ∙ cells)
    ∙ distinct_read xs small

counts_are : (count_at (scaled 2 coarse) 0 ≡ 2) × (count_at (scaled 1 coarse) 1 ≡ 1)
    × (count_at (scaled 1 coarse) 2 ≡ 1) × (count_at (scaled 1 coarse) 3 ≡ 1)
unfolding table count stands_in byte_list
counts_are = (
  count_read 2 2 2 0 0 coarse_text (7 ∷ 7 ∷ 7 ∷ 3 ∷ []) (omega arith) refl refl,
  count_read 2 1 1 0 1 coarse_text (7 ∷ []) (omega arith) refl refl,
  count_read 2 1 1 1 0 coarse_text (7 ∷ []) (omega arith) refl refl,
  count_read 2 1 1 1 1 coarse_text (3 ∷ []) (omega arith) refl refl,
)

-- ---- the sums, and the listings

-- `1 0 0`, `2 1 7`, `1 0 1`, `2 1 7`, `1 1 0`, `2 1 7`, `1 1 1`, `2 1 3`, `5 0 4 0 0`
abbrev pub coarse_first : List ℕ
coarse_first =
    (1 ∷ 0 ∷ 0 ∷ []) ++ (2 ∷ 1 ∷ 7 ∷ []) ++ (1 ∷ 0 ∷ 1 ∷ []) ++ (2 ∷ 1 ∷ 7 ∷ []) ++ (1 ∷ 1 ∷ 0 ∷ []) ++ (2 ∷ 1 ∷ 7 ∷ [])
    ++ (1 ∷ 1 ∷ 1 ∷ []) ++ (2 ∷ 1 ∷ 3 ∷ []) ++ (5 ∷ 0 ∷ 4 ∷ 0 ∷ 0 ∷ [])

-- `3 0 0 0 0 1 1`, `5 0 0 0 1`
abbrev pub coarse_second : List ℕ
coarse_second = (3 ∷ 0 ∷ 0 ∷ 0 ∷ 0 ∷ 1 ∷ 1 ∷ []) ++ (5 ∷ 0 ∷ 0 ∷ 0 ∷ 1 ∷ [])

parts_are : (search_listing (scaled 1 coarse) ≡ coarse_first) × (search_listing (scaled 2 coarse) ≡ coarse_second)
unfolding enlarged_cells table stands_in read_at window_from answer_from entry_read closing_read listing_from members count
    joined bytes_all entry_of pairs_of image_of answer_of first_end first ends earliest mismatch_at mismatch_ending
parts_are = (
  listing_read 2 2 (1 ∷ []) 1 1 coarse_text,
  listing_read 2 2 (1 ∷ 1 ∷ 1 ∷ 1 ∷ []) 2 2 coarse_text,
)

listings_are : listings_to coarse 2 ≡ coarse_first ++ coarse_second
unfolding listings_to joined
listings_are = ap₂ (λ (a b : List ℕ). a ++ b) parts_are.0 parts_are.1

found_are : found_to coarse 2 ≡ 4
unfolding sum_to enlarged_cells table read_at window_from answer_from found_from count answer_of first_end first ends earliest
    mismatch_at mismatch_ending
found_are =
    ap₂ (λ (a b : ℕ). 0 + a + b) (found_read 2 2 (1 ∷ []) 1 1 coarse_text)
    (found_read 2 2 (1 ∷ 1 ∷ 1 ∷ 1 ∷ []) 2 2 coarse_text)

refused_are : refused_to coarse 2 ≡ 1
unfolding sum_to enlarged_cells table read_at window_from answer_from refused_from count answer_of first_end first ends
    earliest mismatch_at mismatch_ending
refused_are =
    ap₂ (λ (a b : ℕ). 0 + a + b) (refused_read 2 2 (1 ∷ []) 1 1 coarse_text)
    (refused_read 2 2 (1 ∷ 1 ∷ 1 ∷ 1 ∷ []) 2 2 coarse_text)

length_are : length_to coarse 2 ≡ 41
unfolding byte_list
length_are =
    sym (listings_length coarse (byte_list_lem (1 ∷ []) refl) 2) ∙ ap length listings_are

-- ---- every buffer

-- five entries 9
abbrev pub nines : List ℕ
nines = 9 ∷ 9 ∷ 9 ∷ 9 ∷ 9 ∷ []

-- links, counts and flags afterwards: each last entry is as it was
abbrev pub coarse_work : Work
coarse_work = working (0 ∷ 0 ∷ 0 ∷ 0 ∷ 9 ∷ []) (2 ∷ 1 ∷ 1 ∷ 1 ∷ 9 ∷ []) (0 ∷ 1 ∷ 1 ∷ 1 ∷ 9 ∷ [])

abbrev four : ℕ → ℕ → ℕ → ℕ → List ℕ
four a b c d = a ∷ b ∷ c ∷ d ∷ 9 ∷ []

four_same : {a b c d e f g h : ℕ} → a ≡ e → b ≡ f → c ≡ g → d ≡ h → four a b c d ≡ four e f g h
four_same i j k l = rw (i, j, k, l)

work_is : works_to coarse 2 (working nines nines nines) ≡ coarse_work
unfolding works_to work_after table
work_is =
    ap₂ (λ (counts flags : List ℕ). working (0 ∷ 0 ∷ 0 ∷ 0 ∷ 9 ∷ []) counts flags)
    (four_same counts_are.0 counts_are.1 counts_are.2 counts_are.3)
    (four_same flags_are.0 flags_are.1 flags_are.2 flags_are.3)

side : (n : ℕ) → 1 ≤ n → n ≤ 255 → Side n
side n h k = record { positive = h; small = k }

room : EveryRoom coarse (rooms_of (working nines nines nines))
room =
    record {
      posed_is = record {
        sides = record {
          rows_good = side 2 (omega arith) (omega arith);
          columns_good = side 2 (omega arith) (omega arith);
          height_good = side 1 (omega arith) (omega arith);
          width_good = side 1 (omega arith) (omega arith);
        };
        text_size = refl;
        pattern_size = refl;
        fitting = record { positive = omega arith; height_le = omega arith; width_le = omega arith };
      };
      links_room = omega arith;
      counts_room = omega arith;
      flags_room = omega arith;
    }

abbrev listed : ℕ → ℕ → ℕ → Work → List ℕ → Done
listed found refused size work listing =
    record { said = accepts (found ∷ refused ∷ size ∷ []); lent = record { work = work; listing = listing } }

listed_same : {a b c d e f : ℕ} {v w : Work} {x y : List ℕ} → a ≡ d → b ≡ e → c ≡ f → v ≡ w → x ≡ y
    → listed a b c v x ≡ listed d e f w y
listed_same i j k l m = rw (i, j, k, l, m)

abbrev short : ℕ → Work → List ℕ → Done
short size work listing = record { said = refuses 11 (size ∷ []); lent = record { work = work; listing = listing } }

short_same : {c f : ℕ} {v w : Work} (x : List ℕ) → c ≡ f → v ≡ w → short c v x ≡ short f w x
short_same x k l = rw (k, l)

-- with room for 41 bytes
pub coarse_draft : (listing : List ℕ) → 41 ≤ length listing
    → every_of coarse (lend nines nines nines listing)
    ≡ record {
      said = accepts (4 ∷ 1 ∷ 41 ∷ []);
      lent = record { work = coarse_work; listing = coarse_first ++ coarse_second ++ drop 41 listing };
    }
coarse_draft listing h =
    every_accepts coarse (lend nines nines nines listing) room (omega (arith, length_are, h))
    ∙ listed_same found_are refused_are length_are work_is
    (ap (λ (l : List ℕ). over_front l listing) listings_are)

-- one byte less
pub coarse-short : (listing : List ℕ) → length listing ≡ 40
    → every_of coarse (lend nines nines nines listing)
    ≡ record { said = refuses 11 (41 ∷ []); lent = record { work = coarse_work; listing = listing } }
coarse-short listing h =
    every_short coarse (lend nines nines nines listing) room (omega (arith, length_are, h))
    ∙ short_same listing length_are work_is
