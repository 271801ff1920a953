-- A table of n entries has room for n: by the law of a repeated number, since to count 262,144 entries one by one would
-- take the prover seconds.
-- Assumes nothing.
use Rattle.std.proofs.Common.{◌≡◌, ◌∙◌, sym, ap, ℕ, List, length, replicate}
use Rattle.std.proofs.lemmas.List.{length-replicate}

pub long : (xs : List ℕ) (n : ℕ) → xs ≡ replicate n 0 → n ≡ length xs
long xs n e = sym (ap length e ∙ length-replicate {A = ℕ} n 0)
