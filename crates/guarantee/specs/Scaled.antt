-- DEMAND 3 at every scale (R-2 of document 02), from what the operations ensure alone (`scaled_demand_3`): of the
-- listing that the search at k writes, and of each k's listing by itself among those that the search at every k writes
-- one after the other, with the enlarged pattern and that listing's own counts. The check accepts each of them with the
-- enlarged pattern (`scaled_then_check`, `every_then_check`), and a window stands as found in it exactly if two columns
-- that agree carry the enlarged pattern onto it (`scaled_columns`, `every_columns`). Why it holds: where it is
-- accepted, the search at k is the search for the enlarged pattern, and each k's listing is the one that this search
-- writes.
-- Assumes nothing.
use Rattle.std.specs.Prelude.{◌≡◌, refl, List, ◌↔◌, ℕ, ◌+◌, ◌≤◌, take, drop}
use Rattle.std.proofs.Common.{sym, ◌∙◌, arith, take-append-drop}
use Rattle.theory.specs.Bytes.{Bytes}
use Rattle.theory.specs.Match.Bijections.{MatchesColumns}
use Rattle.shapes.specs.Questions.{Question}
use Rattle.listing.specs.declared.records.Record.{Record}
use Rattle.matching.specs.Compare.{pattern_of, window_in, positions, CornerIn}
use Rattle.flags.specs.Flags.{rooms_of}
use Rattle.entries.specs.Listing.{found_in, refused_in, needed_length}
use Rattle.searched.specs.Search.{totalling, Lent, done}
use Rattle.searched.specs.Search.Writes.{Writes}
use Rattle.scaled.specs.Scaled.{scaled, scaled_of, largest_of, found_to, refused_to, length_to, every_of, summed}
use Rattle.scaled.specs.Scaled.Fit.{scaled_posed, every_room}
use Rattle.scaled.specs.Scaled.Cells.{enlarged_bytes}
use Rattle.scaled.specs.Scaled.Listings.{scaled-length}
use Rattle.scaled.specs.Theorems.{scaled-part, every_listed_lem, every_part}
use Rattle.rules.specs.Check.{checked_said, check_of}
use Rattle.rules.proofs.Theorems.{accepts_all}
use Rattle.rules.specs.Check.{Checked}
use Rattle.rules.specs.Check.{kept}
use Rattle.guarantee.specs.Demand3.{times_found, records_of, Shows, ListsAnswers}
use Rattle.guarantee.specs.Corollaries.{found_columns}
use Rattle.guarantee.specs.Theorems.{search_entries, written_keeps, written_shows}

-- ---- what is claimed

-- of every listing that the search at k writes: demand 3 with the enlarged pattern, and each window's records list its
-- one-window answer
abbrev pub OfTheScaled : Type 0
OfTheScaled =
    (k : ℕ) (q : Question) (l after : Lent) (found refused size : ℕ)
    → done (totalling found refused size) after ≡ scaled_of k q l → Bytes q.pattern.cells
    → (entry : ℕ → ℕ → List Record) × Shows (scaled k q) (take size after.listing) found refused entry
    × ListsAnswers (scaled k q) entry

-- the listing behind those of the first k scales, which is that of scale k + 1: from where those end, as many bytes as
-- it has
abbrev pub listing_after : Question → ℕ → List ℕ → List ℕ
listing_after q k listings = take (needed_length (scaled (k + 1) q)) (drop (length_to q k) listings)

-- of the search at every k: it answers the sums over all k, and of every k's listing that it writes the same holds as
-- of the search at k, with that listing's own counts
abbrev pub OfEveryScale : Type 0
OfEveryScale =
    (q : Question) (l after : Lent) (found refused size : ℕ)
    → summed (totalling found refused size) after ≡ every_of q l → Bytes q.pattern.cells
    → (found ≡ found_to q (largest_of q)) × (refused ≡ refused_to q (largest_of q)) × (size ≡ length_to q (largest_of q))
    × ((k : ℕ) → k + 1 ≤ largest_of q
    → (entry : ℕ → ℕ → List Record)
    × Shows (scaled (k + 1) q) (listing_after q k after.listing) (found_in (scaled (k + 1) q))
    (refused_in (scaled (k + 1) q)) entry × ListsAnswers (scaled (k + 1) q) entry)

-- ---- each k's listing stands at the front of what begins at its place

module _ (q : Question) (l after : Lent) (found refused size : ℕ)
    (is : summed (totalling found refused size) after ≡ every_of q l) (bytes : Bytes q.pattern.cells)
    (k : ℕ) (high : k + 1 ≤ largest_of q) where
  part_writes : Writes (scaled (k + 1) q) (drop (length_to q k) after.listing) (drop (length_to q k) after.listing)
      (found_in (scaled (k + 1) q)) (refused_in (scaled (k + 1) q)) (needed_length (scaled (k + 1) q))
  part_writes =
      let e = every_part q l after found refused size is bytes k high in
      let room = (every_listed_lem q l after found refused size is).room in
      record {
        posed_is =
            scaled_posed (k + 1) q (every_room q (rooms_of l.work) room (k + 1) (omega arith) high).0;
        found_is = refl;
        refused_is = refl;
        size_is = refl;
        written =
            sym (take-append-drop (needed_length (scaled (k + 1) q)) (drop (length_to q k) after.listing))
            ∙ rw (e, scaled-length q bytes (k + 1));
      }

-- ---- demand 3 at every scale

pub scaled_demand_3 : OfTheScaled × OfEveryScale
scaled_demand_3 = (at_k, at_every)
  where
    at_k : OfTheScaled
    at_k k q l after found refused size is bytes =
        written_shows (scaled k q) l.listing after.listing found refused size
        (enlarged_bytes k q.pattern bytes) (scaled-part k q l after found refused size bytes is).0

    at_every : OfEveryScale
    at_every q l after found refused size is bytes =
        let lists = every_listed_lem q l after found refused size is in (
          lists.found_is,
          lists.refused_is,
          lists.size_is,
          λ k high.
              written_shows (scaled (k + 1) q) (drop (length_to q k) after.listing)
              (drop (length_to q k) after.listing) (found_in (scaled (k + 1) q)) (refused_in (scaled (k + 1) q))
              (needed_length (scaled (k + 1) q)) (enlarged_bytes (k + 1) q.pattern bytes)
              (part_writes q l after found refused size is bytes k high),
        )

-- ---- the check with the enlarged pattern accepts what each writes, with that listing's counts

pub scaled_then_check : (k : ℕ) (q : Question) (l after : Lent) (found refused size : ℕ)
    → done (totalling found refused size) after ≡ scaled_of k q l → Bytes q.pattern.cells
    → (r : Checked) → checked_said r ≡ check_of (scaled k q) (take size after.listing) → r ≡ kept found refused
scaled_then_check k q l after found refused size is bytes r checks =
    accepts_all (scaled k q) (take size after.listing) r checks (enlarged_bytes k q.pattern bytes) found refused (
      search_entries (scaled k q),
      written_keeps (scaled k q) l.listing after.listing found refused size
          (enlarged_bytes k q.pattern bytes) (scaled-part k q l after found refused size bytes is).0,
    )

pub every_then_check : (q : Question) (l after : Lent) (found refused size : ℕ)
    → summed (totalling found refused size) after ≡ every_of q l → Bytes q.pattern.cells
    → (k : ℕ) → k + 1 ≤ largest_of q
    → (r : Checked) → checked_said r ≡ check_of (scaled (k + 1) q) (listing_after q k after.listing)
    → r ≡ kept (found_in (scaled (k + 1) q)) (refused_in (scaled (k + 1) q))
every_then_check q l after found refused size is bytes k high r checks =
    accepts_all (scaled (k + 1) q) (listing_after q k after.listing) r checks
    (enlarged_bytes (k + 1) q.pattern bytes) (found_in (scaled (k + 1) q)) (refused_in (scaled (k + 1) q)) (
      search_entries (scaled (k + 1) q),
      written_keeps (scaled (k + 1) q) (drop (length_to q k) after.listing) (drop (length_to q k) after.listing)
          (found_in (scaled (k + 1) q)) (refused_in (scaled (k + 1) q)) (needed_length (scaled (k + 1) q))
          (enlarged_bytes (k + 1) q.pattern bytes)
          (part_writes q l after found refused size is bytes k high),
    )

-- ---- document 01's renaming at every scale, from what the operations ensure alone

pub scaled_columns : (k : ℕ) (q : Question) (l after : Lent) (found refused size : ℕ)
    (searches : done (totalling found refused size) after ≡ scaled_of k q l)
    (bytes : Bytes q.text.cells × Bytes q.pattern.cells)
    (row column : ℕ) → CornerIn (scaled k q) row column
    → (times_found
    (records_of (scaled k q) (scaled_demand_3.0 k q l after found refused size searches bytes.1).0 found refused)
    row column ≡ 1)
    ↔ MatchesColumns (pattern_of (scaled k q)) (window_in (scaled k q) row column) (positions (scaled k q))
scaled_columns k q l after found refused size searches bytes row column c =
    let d = scaled_demand_3.0 k q l after found refused size searches bytes.1 in
    found_columns (scaled k q) (take size after.listing) found refused (d.0, d.1) row column c bytes.0
    (enlarged_bytes k q.pattern bytes.1)

pub every_columns : (q : Question) (l after : Lent) (found refused size : ℕ)
    (searches : summed (totalling found refused size) after ≡ every_of q l)
    (bytes : Bytes q.text.cells × Bytes q.pattern.cells)
    (k : ℕ) (high : k + 1 ≤ largest_of q) (row column : ℕ) → CornerIn (scaled (k + 1) q) row column
    → (times_found
    (records_of (scaled (k + 1) q) ((scaled_demand_3.1 q l after found refused size searches bytes.1).3 k high).0
    (found_in (scaled (k + 1) q)) (refused_in (scaled (k + 1) q)))
    row column ≡ 1)
    ↔ MatchesColumns (pattern_of (scaled (k + 1) q)) (window_in (scaled (k + 1) q) row column)
    (positions (scaled (k + 1) q))
every_columns q l after found refused size searches bytes k high row column c =
    let d = (scaled_demand_3.1 q l after found refused size searches bytes.1).3 k high in
    found_columns (scaled (k + 1) q) (listing_after q k after.listing) (found_in (scaled (k + 1) q))
    (refused_in (scaled (k + 1) q)) (d.0, d.1) row column c bytes.0 (enlarged_bytes (k + 1) q.pattern bytes.1)
