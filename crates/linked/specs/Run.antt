-- A run down a strip by its links: sizes first, then the pairs. A window of another count is 0 and is passed by. Of any
-- other, position by position, the nearest earlier position with its symbol is a link away, and counts only inside the
-- window; where there is none the pattern's symbol has to be new too. What agreed of the last window compared says how
-- a window further down begins, by crates/prefixes: so each place of a strip is looked at about once. What a step
-- ensures holds of whatever strip the links are of.
-- Assumes nothing.
pub mod Laws
use Rattle.std.specs.Prelude.{◌≡◌, Bool, true, false, List, ℕ, ◌+◌, ◌-◌, ◌*◌, ◌≤◌, ◌<◌, eqb, leb, ltb, length, get_or}
use Rattle.theory.specs.Test.{pick, both}
use Rattle.theory.specs.Match.{ends, first_end}
use Rattle.grid.specs.Strips.{link}
use Rattle.prefixes.specs.Prefixes.{suffix}
use Rattle.prefixes.specs.State.{FirstPlaces}
use Rattle.rows.specs.declared.run.FirstEnd.{FirstEnd}
use Rattle.rows.specs.declared.run.Run.{Run}
use Rattle.linked.specs.declared.run.RunEnd.{RunEnd}
use Rattle.linked.specs.declared.run.RunFlag.{RunFlag}

-- no mismatch of the window at place i ends before place e
abbrev pub ClearTo : List ℕ → (ℕ → ℕ) → ℕ → ℕ → Type 0
ClearTo pattern t i e = (k : ℕ) → i + k < e → ends (λ k. get_or pattern k 0) (suffix t i) k ≡ false

-- the links buffer has t's links of n places from place i on
abbrev pub LinksFrom : (ℕ → ℕ) → List ℕ → ℕ → ℕ → Type 0
LinksFrom t links i n = (p : ℕ) → p < n → get_or links (i + p) 0 ≡ link t (i + p)

-- the code's test: d is the link of the window's place, a the pattern's symbol at p
unfoldable pub linked_test : List ℕ → List ℕ → ℕ → ℕ → ℕ → Bool
linked_test pattern first p d a =
    pick (both (ltb 0 d) (leb d p)) (eqb (get_or pattern (p - d) 0) a) (eqb (get_or first a 0) p)

-- what a comparison asks: the window begins at start of its strip, and is compared from position from on
pub record CompareAt (pattern first links : List ℕ) (start from : ℕ) : Type 0 where
  pub some : 0 < length pattern
  pub places : FirstPlaces (λ k. get_or pattern k 0) (length pattern) first
  pub room : start + length pattern ≤ length links
  pub small : start + length pattern ≤ 65025
  pub within : from ≤ length pattern

-- p positions agree, whatever the strip
pub record Compared (pattern links : List ℕ) (start from p : ℕ) : Type 0 where
  pub within : p ≤ length pattern
  pub clear : (t : ℕ → ℕ) → LinksFrom t links start (length pattern) → ClearTo pattern t start (start + from)
      → ClearTo pattern t start (start + p)

-- and there a mismatch ends, or there the window ends
pub record EndsBy (pattern links : List ℕ) (start from p : ℕ) : Type 0 where
  pub compared : Compared pattern links start from p
  pub hit : (t : ℕ → ℕ) → LinksFrom t links start (length pattern) → ClearTo pattern t start (start + from)
      → p < length pattern → ends (λ k. get_or pattern k 0) (suffix t start) p ≡ true

-- own end k
abbrev pub end_at : List FirstEnd → ℕ → ℕ
end_at own k = (get_or own k (record { end = 0; earlier = 0 })).end

-- the first ends of the pattern's rows from row k on against the pattern, for each k below n
pub record OwnEnds (pattern : List ℕ) (width n : ℕ) (own : List FirstEnd) : Type 0 where
  pub long : length own ≡ 256
  pub each : (k : ℕ) → k < n → k * width < length pattern
      → end_at own k
      ≡ first_end (λ p. get_or pattern p 0) (suffix (λ p. get_or pattern p 0) (k * width)) (length pattern - k * width)

-- what is asked of the window at row top
pub record WindowAsked (pattern first : List ℕ) (own : List FirstEnd) (links : List ℕ) (width : ℕ) (run : Run)
    (top : ℕ) : Type 0 where
  pub some : 0 < length pattern
  pub places : FirstPlaces (λ k. get_or pattern k 0) (length pattern) first
  pub owns : OwnEnds pattern width (top + 1) own
  pub room : top * width + length pattern ≤ length links
  pub small : top * width + length pattern ≤ 65025
  pub top_small : top ≤ 255
  pub past : run.row ≤ top
  pub fits : run.reached ≤ run.row * width + length pattern

-- its first end, and where the run stands behind it
pub record WindowEnds (pattern links : List ℕ) (width : ℕ) (run : Run) (top : ℕ) (r : RunEnd) : Type 0 where
  pub past : r.run.row ≤ top
  pub fits : r.run.reached ≤ r.run.row * width + length pattern
  pub clear : (t : ℕ → ℕ) → LinksFrom t links (top * width) (length pattern)
      → ClearTo pattern t (run.row * width) run.reached → ClearTo pattern t (r.run.row * width) r.run.reached
  pub end_is : (t : ℕ → ℕ) → LinksFrom t links (top * width) (length pattern)
      → ClearTo pattern t (run.row * width) run.reached
      → r.end ≡ first_end (λ k. get_or pattern k 0) (suffix t (top * width)) (length pattern)

-- the flag by the count and the first end
unfoldable pub flag_by_end : List ℕ → ℕ → ℕ → (ℕ → ℕ) → ℕ
flag_by_end pattern symbols count w =
    pick (eqb count symbols)
    (pick (ltb (first_end (λ k. get_or pattern k 0) w (length pattern)) (length pattern)) 0 1) 0

-- the window's flag, and where the run stands behind it; links are asked for only where the counts are equal
pub record WindowFlagged (pattern : List ℕ) (symbols count : ℕ) (links : List ℕ) (width : ℕ) (run : Run) (top : ℕ)
    (r : RunFlag) : Type 0 where
  pub past : r.run.row ≤ top
  pub fits : r.run.reached ≤ r.run.row * width + length pattern
  pub clear : (t : ℕ → ℕ) → (count ≡ symbols → LinksFrom t links (top * width) (length pattern))
      → ClearTo pattern t (run.row * width) run.reached → ClearTo pattern t (r.run.row * width) r.run.reached
  pub flag_is : (t : ℕ → ℕ) → (count ≡ symbols → LinksFrom t links (top * width) (length pattern))
      → ClearTo pattern t (run.row * width) run.reached
      → r.flag ≡ flag_by_end pattern symbols count (suffix t (top * width))
