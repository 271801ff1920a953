-- The length of the listing: 3 + 3d bytes for each window found, 7 for each refused, and 5 for the closing
-- (`length_listing`).
-- Assumes nothing.
use Rattle.std.specs.Prelude.{◌≡◌, Bool, not, List, ℕ, ◌+◌, ◌*◌, ◌<◌, length, get_or}
use Rattle.std.proofs.Common.{◌∙◌, length-append}
use Rattle.theory.specs.Test.{pick}
use Rattle.theory.specs.Join.{joined}
use Rattle.theory.specs.Count.{count}
use Rattle.theory.specs.Count.Laws.{length-members}
use Rattle.theory.specs.Match.{Answer, matched, mismatched, is_match}
use Rattle.shapes.specs.Questions.{Question}
use Rattle.sets.specs.Symbols.{symbols_of}
use Rattle.occurrences.specs.Distinct.{contains, distinct}
use Rattle.occurrences.specs.Distinct.Sets.{distinct_count}
use Rattle.listing.specs.Entries.{entry_of, bytes_all}
use Rattle.listing.specs.Entries.Laws.{bytes_append, length_found, length_refused}
use Rattle.listing.specs.Records.Lengths.{length-joined, length_closing}
use Rattle.matching.specs.Questions.{answer_at}
use Rattle.entries.specs.Listing.{entry_of_window, found_in, refused_in, search_records, search_listing, needed_length}

-- a pattern of bytes has as many symbols as it has different ones
pub length_symbols : (pattern : List ℕ) → ((k : ℕ) → get_or pattern k 0 < 256)
    → length (symbols_of pattern) ≡ distinct pattern
length_symbols pattern small = length-members (contains pattern) 256 ∙ distinct_count pattern 256 (λ i h. small i)

-- the bytes of a window's records, by its answer
pub length_entry : (row column width : ℕ) (symbols : List ℕ) (image : ℕ → ℕ) (a : Answer)
    → length (bytes_all (entry_of row column width symbols image a)) ≡ pick (is_match a) (3 + 3 * length symbols) 7
length_entry row column width symbols image matched = length_found row column width symbols image
length_entry row column width symbols image (mismatched side q p) =
    length_refused row column width symbols image side q p

module _ (q : Question) where
  abbrev match_at : ℕ → Bool
  match_at k = is_match (answer_at q k)

  pub length_window : (k : ℕ) → length (bytes_all (entry_of_window q k))
      ≡ pick (match_at k) (3 + 3 * length (symbols_of q.pattern.cells)) 7
  unfolding entry_of_window
  length_window k = length_entry _ _ _ _ _ (answer_at q k)

  -- the bytes of the first n windows
  pub length_entries : (n : ℕ) → length (bytes_all (joined (entry_of_window q) n))
      ≡ count match_at n * (3 + 3 * length (symbols_of q.pattern.cells)) + 7 * count (λ k. not (match_at k)) n
  length_entries n =
      length-joined (entry_of_window q) match_at (3 + 3 * length (symbols_of q.pattern.cells)) n
      (λ k h. length_window k)

-- the listing is as long as document 01 says
pub length_listing : (q : Question) → ((k : ℕ) → get_or q.pattern.cells k 0 < 256)
    → length (search_listing q) ≡ needed_length q
unfolding search_listing search_records needed_length found_in refused_in
length_listing q small =
    rw (bytes_append, length-append, length_closing, length_entries q, length_symbols q.pattern.cells small)
