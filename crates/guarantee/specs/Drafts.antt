-- Document 01's drafts with a star, all nine in one statement about the meanings (`starred_drafts`): that each search
-- is accepted, its three numbers and its listing in full; the links and the tallies. Why it holds: what a window's
-- cells and a pattern's symbols are is sealed in cells and occurrences, and their laws say it as reads of a list. With
-- those in their place the listing computes (`listing_read`), so that each draft is that one law at its numbers. Links
-- and tallies are computed in counts (`Examples`).
-- Assumes nothing.
pub mod Coarse
use Rattle.std.specs.Prelude.{Ok, ◌≡◌, refl, Bool, true, false, not, List, [], ◌∷◌, ◌++◌, ℕ, zero, suc, ◌+◌, ◌*◌, ◌/◌, ◌%◌, ◌≤◌, ◌<◌, eqb, leb, length, get_or}
use Rattle.std.proofs.Common.{sym, ◌∙◌, arith}
use Rattle.std.proofs.Math.Path.{ap, ap₂, fun_ext}
use Rattle.theory.specs.Test.{pick, both}
use Rattle.theory.specs.First.{first}
use Rattle.theory.specs.Join.{joined}
use Rattle.theory.specs.Count.{count, members}
use Rattle.theory.specs.Count.Laws.{members_ext}
use Rattle.theory.specs.Match.{Answer, mismatch_at, earliest, ends, first_end, mismatch_ending, answer_of, image_of, is_match}
use Rattle.shapes.specs.Shapes.{corners, windows}
use Rattle.cells.specs.Windows.{corner_row, corner_column}
use Rattle.cells.specs.Windows.Laws.{window_at_lem}
use Rattle.occurrences.specs.Distinct.{contains}
use Rattle.occurrences.specs.Distinct.Sets.{contains_none, contains_cons}
use Rattle.refusals.specs.Said.{filled, accepts, over_front}
use Rattle.grid.specs.Strips.{links_of, strip_from}
use Rattle.counts.specs.Counts.{counts_of}
use Rattle.counts.specs.Examples.{example_links, example_counts}
use Rattle.matching.specs.Compare.{cell_of_pattern}
use Rattle.listing.specs.Entries.{bytes_all, pairs_of, entry_of}
use Rattle.listing.specs.declared.records.Record.{Record}
use Rattle.listing.specs.declared.records.Record.TheVariants.{Closing}
use Rattle.shapes.specs.Questions.{ask, four_sides, Question, Posed, links_needed, windows_of}
use Rattle.entries.specs.Listing.{entry_of_window, found_in, refused_in, search_records, search_listing, needed_length}
use Rattle.theory.specs.Test.Laws.{says_true, le_tested, both_tested, tested}
use Rattle.flags.specs.Flags.{rooms_of}
use Rattle.searched.specs.Search.{Lent, search_of}
use Rattle.searched.specs.Search.Accepted.{lists, said_is, search_accepted}
use Rattle.entries.specs.Listing.Length.{length_listing}

-- ---- the listing, computed

-- v stands in a list, as the laws of `contains` say it
stands_in : List ℕ → ℕ → Bool
stands_in [] v = false
stands_in (x ∷ xs) v = pick (eqb v x) true (stands_in xs v)

contains_stands : (xs : List ℕ) (v : ℕ) → contains xs v ≡ stands_in xs v
unfolding stands_in
contains_stands [] v = contains_none v
contains_stands (x ∷ xs) v = contains_cons x xs v ∙ ap (pick (eqb v x) true) (contains_stands xs v)

module _ (rows columns : ℕ) (pattern : List ℕ) (height width : ℕ) where
  -- the symbols of the window at a corner by position, as the law `window_at_lem` says them
  read_at : List ℕ → ℕ → ℕ → ℕ → ℕ
  read_at text row column p = get_or text ((row + p / width) * columns + column + p % width) 0

  -- window k, where w gives the symbols of the window at a corner
  window_from : (ℕ → ℕ → ℕ → ℕ) → ℕ → ℕ → ℕ
  window_from w k = w (corner_row (corners columns width) k) (corner_column (corners columns width) k)

  -- its answer
  answer_from : (ℕ → ℕ → ℕ → ℕ) → ℕ → Answer
  answer_from w k = answer_of (cell_of_pattern pattern) (window_from w k) (height * width)

  -- and its records, where the pattern's symbols are these
  entry_read : (ℕ → ℕ → ℕ → ℕ) → List ℕ → ℕ → List Record
  entry_read w symbols k =
      entry_of (corner_row (corners columns width) k) (corner_column (corners columns width) k) width symbols
      (image_of (cell_of_pattern pattern) (window_from w k) (height * width)) (answer_from w k)

  closing_read : (ℕ → ℕ → ℕ → ℕ) → Record
  closing_read w =
      Closing (count (λ k. is_match (answer_from w k)) (windows rows columns height width))
      (count (λ k. not (is_match (answer_from w k))) (windows rows columns height width))

  -- `search_listing` with windows and symbols for its arguments
  listing_from : (ℕ → ℕ → ℕ → ℕ) → List ℕ → List ℕ
  listing_from w symbols =
      bytes_all (joined (entry_read w symbols) (windows rows columns height width) ++ (closing_read w ∷ []))

  -- the listing is that of windows and symbols read from the lists: on lists written out, this computes
  listing_read : (text : List ℕ) → search_listing (ask text rows columns pattern height width)
      ≡ listing_from (read_at text) (members (stands_in pattern) 256)
  unfolding search_listing search_records entry_of_window found_in refused_in listing_from closing_read entry_read answer_from window_from read_at
  listing_read text =
      ap₂ listing_from
      (fun_ext (λ row. fun_ext (λ column. fun_ext (window_at_lem text columns row column width))))
      (members_ext (contains pattern) (stands_in pattern) 256 (λ v _. contains_stands pattern v))

  -- the same of the windows found and refused
  found_from : (ℕ → ℕ → ℕ → ℕ) → ℕ
  found_from w = count (λ k. is_match (answer_from w k)) (windows rows columns height width)

  found_read : (text : List ℕ) → found_in (ask text rows columns pattern height width) ≡ found_from (read_at text)
  unfolding found_in found_from answer_from window_from read_at
  found_read text =
      ap found_from (fun_ext (λ row. fun_ext (λ column. fun_ext (window_at_lem text columns row column width))))

  refused_from : (ℕ → ℕ → ℕ → ℕ) → ℕ
  refused_from w = count (λ k. not (is_match (answer_from w k))) (windows rows columns height width)

  refused_read : (text : List ℕ) → refused_in (ask text rows columns pattern height width) ≡ refused_from (read_at text)
  unfolding refused_in refused_from answer_from window_from read_at
  refused_read text =
      ap refused_from (fun_ext (λ row. fun_ext (λ column. fun_ext (window_at_lem text columns row column width))))

-- ---- a search that is accepted

-- whatever buffers are lent that are long enough, the search accepts, with so many windows found and refused, and these
-- bytes are its listing
pub record Searches (q : Question) (found refused : ℕ) (bytes : List ℕ) : Type 0 where
  pub listing_is : search_listing q ≡ bytes
  pub needed_is : needed_length q ≡ length bytes
  pub said_so : (l : Lent) → links_needed q ≤ length l.work.links → windows_of q ≤ length l.work.counts
      → windows_of q ≤ length l.work.flags → length bytes ≤ length l.listing
      → (search_of q l).said ≡ accepts (found ∷ refused ∷ length bytes ∷ [])
  pub listed_so : (l : Lent) → links_needed q ≤ length l.work.links → windows_of q ≤ length l.work.counts
      → windows_of q ≤ length l.work.flags → length bytes ≤ length l.listing
      → (search_of q l).lent.listing ≡ over_front bytes l.listing

searches : (q : Question) (found refused : ℕ) (bytes : List ℕ) → Posed q
    → ((k : ℕ) → get_or q.pattern.cells k 0 < 256)
    → search_listing q ≡ bytes → found_in q ≡ found → refused_in q ≡ refused → Searches q found refused bytes
searches q found refused bytes posed small listing_is found_is refused_is =
    record {
      listing_is = listing_is;
      needed_is = needed;
      said_so = accepted;
      listed_so = λ l a b c d.
          (lists q l found refused (length bytes) (sym (accepted l a b c d))).written
          ∙ ap (λ (xs : List ℕ). over_front xs l.listing) listing_is;
    }
  where
    needed : needed_length q ≡ length bytes
    needed = sym (length_listing q small) ∙ ap length listing_is

    accepted : (l : Lent) → links_needed q ≤ length l.work.links → windows_of q ≤ length l.work.counts
        → windows_of q ≤ length l.work.flags → length bytes ≤ length l.listing
        → (search_of q l).said ≡ accepts (found ∷ refused ∷ length bytes ∷ [])
    accepted l a b c d =
        said_is q l
        ∙ search_accepted q (rooms_of l.work) (length l.listing)
        (record { shape = posed.shape; size = posed.size; links_room = a; counts_room = b; flags_room = c })
        (omega (arith, needed, d))
        ∙ rw (found_is, refused_is, needed)

-- sides from 1 to 255, filled, and a pattern that fits
drafted : (text : List ℕ) (rows columns : ℕ) (pattern : List ℕ) (height width : ℕ) → 1 ≤ height → height ≤ rows
    → rows ≤ 255
    → 1 ≤ width → width ≤ columns → columns ≤ 255 → length text ≡ rows * columns → length pattern ≡ height * width
    → Posed (ask text rows columns pattern height width)
drafted text rows columns pattern height width a b c d e f g h =
    record {
      shape = record {
        sized = record {
          sides = record {
            rows_good = record { positive = omega arith; small = c };
            columns_good = record { positive = omega arith; small = f };
            height_good = record { positive = a; small = omega arith };
            width_good = record { positive = d; small = omega arith };
          };
          fitting = record { height_le = b; width_le = e };
        };
        cells_is = g;
      };
      size = h;
    }

-- a list of bytes, by a look at each
byte_list : List ℕ → Bool
byte_list [] = true
byte_list (x ∷ xs) = both (leb x 255) (byte_list xs)

first_byte : (x : ℕ) (xs : List ℕ) → byte_list (x ∷ xs) ≡ true → (x ≤ 255) × (byte_list xs ≡ true)
unfolding byte_list
first_byte x xs e = says_true (both_tested (le_tested x 255) (tested (byte_list xs) (λ h. h) (λ h. h))) e

byte_list_lem : (l : List ℕ) → byte_list l ≡ true → (k : ℕ) → get_or l k 0 < 256
byte_list_lem [] e k = omega arith
byte_list_lem (x ∷ xs) e zero = omega (arith, (first_byte x xs e).0)
byte_list_lem (x ∷ xs) e (suc k) = byte_list_lem xs (first_byte x xs e).1 k

-- ---- the drafts

-- the first draft's sheet 7 7 3 / 3 7 7
abbrev pub first_text : List ℕ
first_text = 7 ∷ 7 ∷ 3 ∷ 3 ∷ 7 ∷ 7 ∷ []

-- and its motif 1 1 / 2 1
abbrev pub first_pattern : List ℕ
first_pattern = 1 ∷ 1 ∷ 2 ∷ 1 ∷ []

-- every draft with a star
pub starred_drafts : record {
  -- ★ 'Input 2 3 2 2, sheet 7 7 3 / 3 7 7, motif 1 1 / 2 1. Output in full: `1 0 0`, `2 1 7`, `2 2 3`, `3 0 1 0 0 0 1`,
  -- `5 0 1 0 1`; 21 bytes of listing'
  two_windows : Searches (ask first_text 2 3 first_pattern 2 2) 1 1
      ((1 ∷ 0 ∷ 0 ∷ []) ++ (2 ∷ 1 ∷ 7 ∷ []) ++ (2 ∷ 2 ∷ 3 ∷ []) ++ (3 ∷ 0 ∷ 1 ∷ 0 ∷ 0 ∷ 0 ∷ 1 ∷ [])
      ++ (5 ∷ 0 ∷ 1 ∷ 0 ∷ 1 ∷ []));
  needs_21 : needed_length (ask first_text 2 3 first_pattern 2 2) ≡ 21;
  -- ★ 'Its links for c = 2: strip 0 gives 0 1 0 2, strip 1 gives 0 0 2 1', in a buffer of five entries 9
  links : (links_of first_text (strip_from 2 3 2 0) (9 ∷ 9 ∷ 9 ∷ 9 ∷ 9 ∷ []) ≡ filled (Ok tt) (0 ∷ 1 ∷ 0 ∷ 2 ∷ 9 ∷ []))
      × (links_of first_text (strip_from 2 3 2 1) (9 ∷ 9 ∷ 9 ∷ 9 ∷ 9 ∷ []) ≡ filled (Ok tt) (0 ∷ 0 ∷ 2 ∷ 1 ∷ 9 ∷ []));
  -- ★ 'Its tallies: 2, 2', in a buffer of three entries 9
  distinct_counts : counts_of first_text (four_sides 2 3 2 2) (9 ∷ 9 ∷ 9 ∷ []) ≡ filled (Ok tt) (2 ∷ 2 ∷ 9 ∷ []);
  -- ★ '1 by 1, sheet 5, motif 5: `1 0 0`, `2 5 5`, `5 0 1 0 0`'
  one_cell : Searches (ask (5 ∷ []) 1 1 (5 ∷ []) 1 1) 1 0
      ((1 ∷ 0 ∷ 0 ∷ []) ++ (2 ∷ 5 ∷ 5 ∷ []) ++ (5 ∷ 0 ∷ 1 ∷ 0 ∷ 0 ∷ []));
  -- ★ 'Sheet 4 4, motif 1 2 (one row each, as are those below): `4 0 0 0 0 0 1`, `5 0 0 0 1`'
  alike_in_window : Searches (ask (4 ∷ 4 ∷ []) 1 2 (1 ∷ 2 ∷ []) 1 2) 0 1
      ((4 ∷ 0 ∷ 0 ∷ 0 ∷ 0 ∷ 0 ∷ 1 ∷ []) ++ (5 ∷ 0 ∷ 0 ∷ 0 ∷ 1 ∷ []));
  -- ★ 'Sheet 4 5, motif 1 1: `3 0 0 0 0 0 1`, `5 0 0 0 1`'
  alike_in_pattern : Searches (ask (4 ∷ 5 ∷ []) 1 2 (1 ∷ 1 ∷ []) 1 2) 0 1
      ((3 ∷ 0 ∷ 0 ∷ 0 ∷ 0 ∷ 0 ∷ 1 ∷ []) ++ (5 ∷ 0 ∷ 0 ∷ 0 ∷ 1 ∷ []));
  -- ★ 'Sheet 4 5 5, motif 1 2 1: `3 0 0 0 0 0 2` first'
  later_in_pattern : Searches (ask (4 ∷ 5 ∷ 5 ∷ []) 1 3 (1 ∷ 2 ∷ 1 ∷ []) 1 3) 0 1
      ((3 ∷ 0 ∷ 0 ∷ 0 ∷ 0 ∷ 0 ∷ 2 ∷ []) ++ (5 ∷ 0 ∷ 0 ∷ 0 ∷ 1 ∷ []));
  -- ★ 'Sheet 4 5 4, motif 1 2 2: `4 0 0 0 0 0 2` first'
  later_in_window : Searches (ask (4 ∷ 5 ∷ 4 ∷ []) 1 3 (1 ∷ 2 ∷ 2 ∷ []) 1 3) 0 1
      ((4 ∷ 0 ∷ 0 ∷ 0 ∷ 0 ∷ 0 ∷ 2 ∷ []) ++ (5 ∷ 0 ∷ 0 ∷ 0 ∷ 1 ∷ []));
  -- ★ 'Sheet 2 1, motif 1 2: found, pairs 1 2 and 2 1'
  exchanged : Searches (ask (2 ∷ 1 ∷ []) 1 2 (1 ∷ 2 ∷ []) 1 2) 1 0
      ((1 ∷ 0 ∷ 0 ∷ []) ++ (2 ∷ 1 ∷ 2 ∷ []) ++ (2 ∷ 2 ∷ 1 ∷ []) ++ (5 ∷ 0 ∷ 1 ∷ 0 ∷ 0 ∷ []));
}
unfolding stands_in read_at window_from answer_from entry_read closing_read listing_from found_from refused_from byte_list members count joined bytes_all entry_of pairs_of image_of answer_of first_end first ends earliest mismatch_at mismatch_ending
starred_drafts =
    record {
      two_windows =
          searches _ _ _ _
          (drafted first_text 2 3 first_pattern 2 2 (omega arith) (omega arith) (omega arith) (omega arith) (omega arith)
          (omega arith) refl refl)
          (byte_list_lem first_pattern refl) (listing_read 2 3 first_pattern 2 2 first_text)
          (found_read 2 3 first_pattern 2 2 first_text)
          (refused_read 2 3 first_pattern 2 2 first_text);
      needs_21 =
          sym (length_listing (ask first_text 2 3 first_pattern 2 2) (byte_list_lem first_pattern refl))
          ∙ ap length (listing_read 2 3 first_pattern 2 2 first_text);
      links = example_links;
      distinct_counts = example_counts;
      one_cell =
          searches _ _ _ _
          (drafted (5 ∷ []) 1 1 (5 ∷ []) 1 1 (omega arith) (omega arith) (omega arith) (omega arith) (omega arith)
          (omega arith) refl refl)
          (byte_list_lem (5 ∷ []) refl) (listing_read 1 1 (5 ∷ []) 1 1 (5 ∷ [])) (found_read 1 1 (5 ∷ []) 1 1 (5 ∷ []))
          (refused_read 1 1 (5 ∷ []) 1 1 (5 ∷ []));
      alike_in_window =
          searches _ _ _ _
          (drafted (4 ∷ 4 ∷ []) 1 2 (1 ∷ 2 ∷ []) 1 2 (omega arith) (omega arith) (omega arith) (omega arith)
          (omega arith) (omega arith) refl refl)
          (byte_list_lem (1 ∷ 2 ∷ []) refl) (listing_read 1 2 (1 ∷ 2 ∷ []) 1 2 (4 ∷ 4 ∷ []))
          (found_read 1 2 (1 ∷ 2 ∷ []) 1 2 (4 ∷ 4 ∷ []))
          (refused_read 1 2 (1 ∷ 2 ∷ []) 1 2 (4 ∷ 4 ∷ []));
      alike_in_pattern =
          searches _ _ _ _
          (drafted (4 ∷ 5 ∷ []) 1 2 (1 ∷ 1 ∷ []) 1 2 (omega arith) (omega arith) (omega arith) (omega arith)
          (omega arith) (omega arith) refl refl)
          (byte_list_lem (1 ∷ 1 ∷ []) refl) (listing_read 1 2 (1 ∷ 1 ∷ []) 1 2 (4 ∷ 5 ∷ []))
          (found_read 1 2 (1 ∷ 1 ∷ []) 1 2 (4 ∷ 5 ∷ []))
          (refused_read 1 2 (1 ∷ 1 ∷ []) 1 2 (4 ∷ 5 ∷ []));
      later_in_pattern =
          searches _ _ _ _
          (drafted (4 ∷ 5 ∷ 5 ∷ []) 1 3 (1 ∷ 2 ∷ 1 ∷ []) 1 3 (omega arith) (omega arith) (omega arith) (omega arith)
          (omega arith) (omega arith) refl refl)
          (byte_list_lem (1 ∷ 2 ∷ 1 ∷ []) refl) (listing_read 1 3 (1 ∷ 2 ∷ 1 ∷ []) 1 3 (4 ∷ 5 ∷ 5 ∷ []))
          (found_read 1 3 (1 ∷ 2 ∷ 1 ∷ []) 1 3 (4 ∷ 5 ∷ 5 ∷ []))
          (refused_read 1 3 (1 ∷ 2 ∷ 1 ∷ []) 1 3 (4 ∷ 5 ∷ 5 ∷ []));
      later_in_window =
          searches _ _ _ _
          (drafted (4 ∷ 5 ∷ 4 ∷ []) 1 3 (1 ∷ 2 ∷ 2 ∷ []) 1 3 (omega arith) (omega arith) (omega arith) (omega arith)
          (omega arith) (omega arith) refl refl)
          (byte_list_lem (1 ∷ 2 ∷ 2 ∷ []) refl) (listing_read 1 3 (1 ∷ 2 ∷ 2 ∷ []) 1 3 (4 ∷ 5 ∷ 4 ∷ []))
          (found_read 1 3 (1 ∷ 2 ∷ 2 ∷ []) 1 3 (4 ∷ 5 ∷ 4 ∷ []))
          (refused_read 1 3 (1 ∷ 2 ∷ 2 ∷ []) 1 3 (4 ∷ 5 ∷ 4 ∷ []));
      exchanged =
          searches _ _ _ _
          (drafted (2 ∷ 1 ∷ []) 1 2 (1 ∷ 2 ∷ []) 1 2 (omega arith) (omega arith) (omega arith) (omega arith)
          (omega arith) (omega arith) refl refl)
          (byte_list_lem (1 ∷ 2 ∷ []) refl) (listing_read 1 2 (1 ∷ 2 ∷ []) 1 2 (2 ∷ 1 ∷ []))
          (found_read 1 2 (1 ∷ 2 ∷ []) 1 2 (2 ∷ 1 ∷ []))
          (refused_read 1 2 (1 ∷ 2 ∷ []) 1 2 (2 ∷ 1 ∷ []));
    }
