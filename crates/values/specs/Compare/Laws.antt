-- What passes to Rust and C is what the one-window question says.
-- Assumes nothing.
use Rattle.std.specs.Prelude.{◌≡◌, refl, ℕ, List, Result}
use Rattle.std.proofs.Common.{◌∙◌, ap}
use Rattle.refusals.specs.declared.refusals.Refusal.{Refusal}
use Rattle.refusals.specs.Said.{Said, accepts, refuses, ◌then◌, said_number, new_by}
use Rattle.shapes.specs.Questions.{Question}
use Rattle.mapping.specs.Bijections.{empty_bijection}
use Rattle.mapping.specs.declared.bijections.Bijection.{Bijection}
use Rattle.matching.specs.Compare.{bijection_at, place_said, verdict_in, verdict_said, window_said, Told, told}
use Rattle.matching.specs.Compare.{one_window_of}
use Rattle.matching.specs.declared.compare.Verdict.{Verdict}
use Rattle.values.specs.Compare.{three_by, window_mismatch, window_bijection}

-- what a chain refuses, its first part may accept: the bijection beside it is not handed over
handed_over : (place answer : Said) (b other old : Bijection)
    → new_by (place then answer) (new_by place b other) old ≡ new_by (place then answer) b old
handed_over (accepts values) answer b other old = refl
handed_over (refuses number values) answer b other old = refl

module _ (q : Question) (row column : ℕ) (r : Result Verdict Refusal) (answers : told r ≡ one_window_of q row column)
  where
    pub window_number : said_number (told r).said ≡ said_number (window_said q row column)
    unfolding one_window_of
    window_number = ap (λ (t : Told). said_number t.said) answers

    pub mismatch_handed : (old : List ℕ) → three_by (told r).said old ≡ window_mismatch q row column old
    unfolding one_window_of window_mismatch
    mismatch_handed old = ap (λ (t : Told). three_by t.said old) answers

    pub bijection_handed : (old : Bijection)
        → new_by (told r).said (told r).bijection old ≡ window_bijection q row column old
    unfolding one_window_of window_said window_bijection
    bijection_handed old =
        ap (λ (t : Told). new_by t.said t.bijection old) answers
        ∙ handed_over (place_said q row column) (verdict_said (verdict_in q row column)) (bijection_at q row column)
        empty_bijection old
