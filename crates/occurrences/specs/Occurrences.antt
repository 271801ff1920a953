-- Document 01's running tally: how often each symbol stands in a list, and how many different ones do.
-- Assumes nothing.
pub mod Laws
use Rattle.std.specs.Prelude.{◌≡◌, Bool, true, false, List, ◌++◌, ℕ, ◌+◌, ◌≤◌, ◌<◌, length, get_or}
use Rattle.occurrences.specs.Distinct.{occurs, distinct}
use Rattle.occurrences.specs.declared.occurrences.Occurrences.{Occurrences}

-- a table of occurrences, and a number of different symbols
abbrev pub occurrences_of : List ℕ → ℕ → Occurrences
occurrences_of t n = record { of = t; size = n }

-- o has how often each symbol stands in xs, and how many different ones do
pub record Tracks (o : Occurrences) (xs : List ℕ) : Type 0 where
  pub long : length o.of ≡ 256
  pub each : (v : ℕ) → v < 256 → get_or o.of v 0 ≡ occurs v xs
  pub size_is : o.size ≡ distinct xs

-- o tracks a list that has room for n more symbols. No window has more than 65,025 cells, and none with one row more
-- has over 65,280, so every count fits 16 bits.
abbrev pub RoomToAdd : Occurrences → ℕ → Type 0
RoomToAdd o n = (xs : List ℕ) × Tracks o xs × (length xs + n ≤ 65535)

-- o tracks a list that starts with ys
abbrev pub Starts : Occurrences → List ℕ → Type 0
Starts o ys = (xs : List ℕ) × Tracks o (ys ++ xs)

-- whatever o tracks, r tracks with ys added at its end
abbrev pub Adds : Occurrences → List ℕ → Occurrences → Type 0
Adds o ys r = (xs : List ℕ) → Tracks o xs → Tracks r (xs ++ ys)

-- whatever o tracks that starts with ys, r tracks without it
abbrev pub Removes : Occurrences → List ℕ → Occurrences → Type 0
Removes o ys r = (xs : List ℕ) → Tracks o (ys ++ xs) → Tracks r xs

-- o tracks a list that starts with ys, and zs is as long and has room at the end of what follows ys
pub record RoomToReplace (o : Occurrences) (ys zs : List ℕ) : Type 0 where
  pub rest : List ℕ
  pub tracked : Tracks o (ys ++ rest)
  pub as_long : length ys ≡ length zs
  pub small : length rest + length zs ≤ 65535

-- whatever o tracks that starts with ys, r tracks with zs at its end instead
abbrev pub Replaces : Occurrences → List ℕ → List ℕ → Occurrences → Type 0
Replaces o ys zs r = (xs : List ℕ) → Tracks o (ys ++ xs) → Tracks r (xs ++ zs)

-- ---- a row, symbol by symbol

-- what o has to be where symbols enter (true), and where they leave
abbrev pub Changeable : Bool → Occurrences → List ℕ → Type 0
Changeable true o ys = RoomToAdd o (length ys)
Changeable false o ys = Starts o ys

-- r is what o becomes
abbrev pub Changed : Bool → Occurrences → List ℕ → Occurrences → Type 0
Changed true o ys r = Adds o ys r
Changed false o ys r = Removes o ys r

-- on the way from o to what a row makes of it: what is left of the row may be dealt with, and who has dealt with that
-- has dealt with the row
pub record Underway (b : Bool) (o : Occurrences) (row : List ℕ) (n : Occurrences) (rest : List ℕ) : Type 0 where
  pub changeable : Changeable b n rest
  pub whole : (r : Occurrences) → Changed b n rest r → Changed b o row r
