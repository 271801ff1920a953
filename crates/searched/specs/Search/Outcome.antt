-- What an accepted search leaves for its caller: as many first bytes of the listing buffer as it answers are the bytes
-- of its records (`listed_bytes`).
-- Assumes nothing.
use Rattle.std.specs.Prelude.{◌≡◌, ℕ, ◌≤◌, take}
use Rattle.std.proofs.Math.Path.{sym, ap}
use Rattle.std.proofs.Common.{◌∙◌, arith, length-take}
use Rattle.std.proofs.Math.ListN.{length}
use Rattle.theory.specs.Bytes.{Bytes}
use Rattle.shapes.specs.Questions.{Question}
use Rattle.listing.specs.Entries.{bytes_all}
use Rattle.entries.specs.Listing.{search_records, search_listing}
use Rattle.entries.specs.Listing.Length.{length_listing}
use Rattle.searched.specs.Search.{totalling, Searched, Lent, Done, done, search_of}
use Rattle.searched.specs.Search.Accepted.{Lists, lists}
use Rattle.searched.specs.Theorems.{first_bytes}

module _ (q : Question) (l after : Lent) (r : Searched) (found refused size : ℕ) (r_is : r ≡ totalling found refused size)
    (is : done r after ≡ search_of q l) where
  -- what an accepted search had, and what it says
  pub listed : Lists q l found refused size
  listed =
      lists q l found refused size (ap (λ (s : Searched). (done s after).said) (sym r_is)
      ∙ ap (λ (d : Done). d.said) is)

  -- the length answered finds room in the buffer
  pub listed_fits : size ≤ length l.listing
  listed_fits = omega (arith, listed.size_is, listed.fits)

  module _ (small : Bytes q.pattern.cells) where
    -- and its first bytes are then those of the records
    pub listed_bytes : take size after.listing ≡ bytes_all (search_records q)
    unfolding search_listing
    listed_bytes =
        rw (listed.size_is, ap (λ (d : Done). d.lent.listing) is) (first_bytes q l found refused size small listed)

    pub listed-length : length (take size after.listing) ≡ size
    unfolding search_listing
    listed-length = ap length listed_bytes ∙ length_listing q small ∙ sym listed.size_is

    pub listed_inside : size ≤ length after.listing
    listed_inside = omega (arith, listed-length, length-take size after.listing)
