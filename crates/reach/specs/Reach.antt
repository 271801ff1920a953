-- How far one window of a strip agrees with a pattern: what `reach` asks, and what it ensures. It is given a place up
-- to which the window is known to agree, and goes on from there: the sweep, which inherits, knows such a place, and a
-- window of which nothing was read begins with none.
-- Assumes nothing.
pub mod Laws
use Rattle.std.specs.Prelude.{List, ℕ, ◌+◌, ◌-◌, ◌*◌, ◌≤◌, ◌<◌, length, get_or}
use Rattle.grid.specs.Strips.{StripOf, strip_symbols}
use Rattle.grid.specs.declared.strips.Strip.{Strip}
use Rattle.prefixes.specs.Prefixes.{suffix, EndIs}
use Rattle.prefixes.specs.State.{FirstPlaces, Swept}
use Rattle.reach.specs.declared.reach.Far.{Far}

-- what is asked: height rows of the strip from row top on, as many as the pattern has or fewer; the window agrees up to
-- column j of row line of the strip
pub record ReachAt (text : List ℕ) (s : Strip) (pattern first last : List ℕ) (top height line j : ℕ) : Type 0 where
  pub strip : StripOf s (length text)
  pub down : top + height ≤ s.rows
  pub cells : height * s.width ≤ length pattern
  pub places : FirstPlaces (λ k. get_or pattern k 0) (length pattern) first
  pub narrow : j < s.width
  pub within : line * s.width + j ≤ (top + height) * s.width
  pub swept : Swept (λ k. get_or pattern k 0) (strip_symbols text s) (top * s.width) (line * s.width + j) last

-- the window agrees up to a place, and there it ends, or there a mismatch ends first
pub record Reached (text : List ℕ) (s : Strip) (pattern : List ℕ) (top height : ℕ) (r : Far) (last : List ℕ) : Type 0
  where
    pub swept : Swept (λ k. get_or pattern k 0) (strip_symbols text s) (top * s.width) r.place last
    pub within : r.place ≤ (top + height) * s.width
    pub end : EndIs (λ k. get_or pattern k 0) (suffix (strip_symbols text s) (top * s.width)) (height * s.width)
        (r.place - top * s.width) r.earlier
