-- How long the bytes of many windows' records are: so many bytes for each window found, 7 for each refused
-- (`length-joined`), and 5 for the closing.
-- Assumes nothing.
use Rattle.std.specs.Prelude.{◌≡◌, refl, Bool, true, false, not, List, [], ◌∷◌, ℕ, zero, suc, ◌+◌, ◌*◌, ◌<◌, length}
use Rattle.std.proofs.Common.{suc-mul, add-one, arith, length-append}
use Rattle.theory.specs.Test.{pick}
use Rattle.theory.specs.Join.{joined}
use Rattle.theory.specs.Join.Laws.{joined-zero, joined-suc}
use Rattle.theory.specs.Count.{count}
use Rattle.listing.specs.Entries.{bytes_all}
use Rattle.listing.specs.Entries.Laws.{bytes_none, bytes_append}
use Rattle.listing.specs.declared.records.Record.{Record}
use Rattle.listing.specs.declared.records.Record.TheVariants.{Closing}

-- one window more
add-entry : (b : Bool) (found refused d all entry : ℕ) → all ≡ found * d + 7 * refused → entry ≡ pick b d 7
    → all + entry ≡ pick b (found + 1) found * d + 7 * pick (not b) (refused + 1) refused
add-entry true found refused d all entry e h = rw (add-one found) (omega (arith, suc-mul found d))
add-entry false found refused d all entry e h = omega arith

-- the bytes of n windows' records, where those that P says are found have d bytes and the others 7
pub length-joined : (f : ℕ → List Record) (P : ℕ → Bool) (d n : ℕ)
    → ((k : ℕ) → k < n → length (bytes_all (f k)) ≡ pick (P k) d 7)
    → length (bytes_all (joined f n)) ≡ count P n * d + 7 * count (λ k. not (P k)) n
unfolding count
length-joined f P d zero h = rw (joined-zero f, bytes_none) (omega arith)
length-joined f P d (suc n) h =
    rw (joined-suc f n, bytes_append (joined f n) (f n), length-append (bytes_all (joined f n)) (bytes_all (f n)))
    (add-entry (P n) (count P n) (count (λ k. not (P k)) n) d _ _ (length-joined f P d n (λ k l. h k (omega arith)))
    (h n (omega arith)))

-- the closing has five bytes
pub length_closing : (found refused : ℕ) → length (bytes_all (Closing found refused ∷ [])) ≡ 5
unfolding bytes_all
length_closing found refused = refl
