-- DEMAND 2, its second half: the check accepts exactly the listings that keep document 01's rules (`accepts_iff`), with
-- the counts that they have. It needs only what the operation ensures (`check_of`), and that pattern and listing are
-- bytes, which they are wherever code holds them.
-- Assumes nothing.
use Rattle.std.proofs.Common.{◌≡◌, refl, ◌↔◌, get_or, sym, ap, subst, ◌∙◌, zero-add, arith, not, List, [], ◌∷◌, ◌++◌, ℕ}
use Rattle.std.proofs.Common.{◌+◌, ◌<◌, length, length-append, Ok, Err}
use Rattle.theory.specs.Bytes.{Bytes}
use Rattle.theory.specs.Count.{count}
use Rattle.theory.specs.Count.Laws.{count_ext}
use Rattle.theory.specs.Match.{is_match}
use Rattle.refusals.specs.Refusals.{number_of, values_of}
use Rattle.refusals.specs.Refusals.Laws.{number_positive}
use Rattle.refusals.specs.Said.{Said, accepts, refuses, ◌then◌, said_number, said_values}
use Rattle.refusals.specs.Said.Laws.{Proper, refused_by, not_accepted, then_both}
use Rattle.shapes.specs.Questions.Laws.{shape_proper, posed, posed_said}
use Rattle.rules.specs.Check.{checked_said, walk_said, listing_walk, listing_said, found_to, refused_to, windows_to}
use Rattle.rules.specs.Check.{stands_found, check_of}
use Rattle.shapes.specs.Questions.{Question, Posed, windows_of, shape_said}
use Rattle.listing.specs.Records.{bytes_of}
use Rattle.listing.specs.Entries.{bytes_all}
use Rattle.listing.specs.Entries.Laws.{bytes_append, bytes_one}
use Rattle.listing.specs.declared.records.Record.TheVariants.{Closing}
use Rattle.claims.specs.Claims.{Walk}
use Rattle.rules.specs.Rules.Bytes.{Holds, holds_all, holds_both, holds_first, holds_second, holds_whole}
use Rattle.rules.specs.Rules.{Entries, records_to, Keeps, KeepsRules}
use Rattle.rules.proofs.Windows.{onward_goes, closing_sound, closing_complete, entries_read, bytes_to}
use Rattle.rules.proofs.Windows.{windows_sound, windows_complete, kinds_complete}
use Rattle.rules.specs.Check.{Checked, kept}

-- an answer by what it says
kept_values : (a b c d : ℕ) → accepts (a ∷ b ∷ []) ≡ accepts (c ∷ d ∷ []) → (a ≡ c) × (b ≡ d)
kept_values a b c d e = (
  ap (λ (x : Said). get_or (said_values x) 0 0) e,
  ap (λ (x : Said). get_or (said_values x) 1
      0) e,
)

kept_is : (r : Checked) (found refused : ℕ) → checked_said r ≡ accepts (found ∷ refused ∷ []) → r ≡ kept found refused
kept_is (Ok t) found refused e = let k = kept_values t.found t.refused found refused e in rw (← k.0, ← k.1) refl
kept_is (Err why) found refused e = absurd (not_accepted (number_of why) (values_of why) (found ∷ refused ∷ []) e)

module _ (q : Question) (listing : List ℕ) where
  found_here : ℕ
  found_here = found_to q listing (windows_of q)

  refused_here : ℕ
  refused_here = refused_to q listing (windows_of q)

  -- the windows' bytes and the closing's
  whole_bytes : (e : Entries) (found refused : ℕ)
      → bytes_all (records_to q e (windows_of q) ++ (Closing found refused ∷ []))
      ≡ bytes_all (records_to q e (windows_of q)) ++ bytes_of (Closing found refused)
  whole_bytes e found refused =
      bytes_append (records_to q e (windows_of q)) (Closing found refused ∷ [])
      ∙ ap (λ (b : List ℕ). bytes_all (records_to q e (windows_of q)) ++ b) (bytes_one (Closing found refused))

  module _ (pattern_bytes : Bytes q.pattern.cells) (posed_is : Posed q) where
    some : 0 < q.pattern.columns
    some = let s = posed_is.shape.sized.sides.width_good in omega arith

    -- the walk reaches the end: its entries keep the rules
    keeps_sound : Bytes listing → (end : ℕ) → listing_walk q listing ≡ Ok end
        → KeepsRules q listing found_here refused_here
    unfolding listing_walk found_here refused_here found_to refused_to
    keeps_sound listing_bytes end e =
        let f = onward_goes (windows_to q listing (windows_of q)) _ end e in
        let r = windows_sound q listing pattern_bytes posed_is.size some (windows_of q) f.0 f.1 in
        let c = closing_sound listing found_here refused_here f.0 end listing_bytes f.2 in
        let front = holds_both listing 0 (bytes_all (records_to q entries (windows_of q)))
        (bytes_of (Closing found_here refused_here)) r.there
        (rw (zero-add (length (bytes_all (records_to q entries (windows_of q)))), ← r.at_is) c.0) in
        let long = length-append (bytes_all (records_to q entries (windows_of q)))
        (bytes_of (Closing found_here refused_here)) in (
          entries,
          record {
            posed_is = posed_is;
            each_true = r.trues;
            found_is =
                count_ext (stands_found q listing) (λ k. is_match (entries.answer k)) (windows_of q)
                (λ k h. sym (r.kinds k h));
            refused_is =
                count_ext (λ k. not (stands_found q listing k)) (λ k. not (is_match (entries.answer k))) (windows_of q)
                (λ k h. ap not (sym (r.kinds k h)));
            bytes_are =
                holds_whole listing _ front (omega (arith, long, r.at_is, c.1))
                ∙ sym (whole_bytes entries found_here refused_here);
          },
        )
      where
        entries : Entries
        entries = entries_read q listing pattern_bytes posed_is.size some

    -- entries that keep the rules: the walk reaches the end, with their counts
    keeps_complete : (found refused : ℕ) (e : Entries) → Keeps q listing found refused e
        → listing_said q listing ≡ accepts (found ∷ refused ∷ [])
    unfolding listing_said listing_walk found_to refused_to
    keeps_complete found refused e k =
        let whole = subst (Holds listing 0) (k.bytes_are ∙ whole_bytes e found refused) (holds_all listing) in
        let front : Holds listing 0 windows_bytes = holds_first listing 0 windows_bytes
        (bytes_of (Closing found refused)) whole in
        let last : Holds listing (length windows_bytes) (bytes_of (Closing found refused)) = rw
        (zero-add (length windows_bytes)) at
        (holds_second listing 0 windows_bytes (bytes_of (Closing found refused)) whole) in
        let long : length windows_bytes + 5
        ≡ length listing = sym (ap length (k.bytes_are ∙ whole_bytes e found refused)
        ∙ length-append windows_bytes (bytes_of (Closing found refused))) in
        let kinds = kinds_complete q listing pattern_bytes posed_is.size some e (windows_of q) front k.each_true in
        let found_same : count (stands_found q listing) (windows_of q) ≡ found =
        count_ext (stands_found q listing) (λ j. is_match (e.answer j)) (windows_of q) kinds ∙ sym k.found_is in
        let refused_same : count (λ j. not (stands_found q listing j)) (windows_of q) ≡ refused =
        count_ext (λ j. not (stands_found q listing j)) (λ j. not (is_match (e.answer j))) (windows_of q)
        (λ j h. ap not (kinds j h)) ∙ sym k.refused_is in
        rw (
          windows_complete q listing pattern_bytes posed_is.size some e (windows_of q) front k.each_true
              (windows_of q) (omega arith),
          found_same,
          refused_same,
          closing_complete listing found refused (length windows_bytes) last long,
        )
      where
        windows_bytes : List ℕ
        windows_bytes = bytes_to q listing pattern_bytes posed_is.size some e (windows_of q)

    -- where the walk accepts, it reached the end
    reached_end : (c : Walk) (a b found refused : ℕ) → walk_said c a b ≡ accepts (found ∷ refused ∷ [])
        → ((end : ℕ) × (c ≡ Ok end)) × (a ≡ found) × (b ≡ refused)
    reached_end (Ok at) a b found refused e = let t = kept_values a b found refused e in ((at, refl), t.0, t.1)
    reached_end (Err why) a b found refused e =
        absurd (not_accepted (number_of why) (values_of why) (found ∷ refused ∷ []) e)

    listing_sound : Bytes listing → (found refused : ℕ) → listing_said q listing ≡ accepts (found ∷ refused ∷ [])
        → KeepsRules q listing found refused
    unfolding listing_said found_here refused_here
    listing_sound listing_bytes found refused e =
        let r = reached_end (listing_walk q listing) found_here refused_here found refused e in
        rw (← r.1, ← r.2) (keeps_sound listing_bytes r.0.0 r.0.1)

  -- ---- the operation

  module _ (r : Checked) (checks : checked_said r ≡ check_of q listing) (pattern_bytes : Bytes q.pattern.cells) where
    -- a listing that keeps the rules is accepted, with its counts
    pub accepts_all : (found refused : ℕ) → KeepsRules q listing found refused → r ≡ kept found refused
    unfolding check_of
    accepts_all found refused (e, k) =
        kept_is r found refused (checks ∙ rw (posed_said q k.posed_is)
        (keeps_complete pattern_bytes k.posed_is found refused e k))

    -- and nothing else is
    pub accepts_only : Bytes listing → (found refused : ℕ) → r ≡ kept found refused → KeepsRules q listing found refused
    unfolding check_of
    accepts_only listing_bytes found refused e =
        let a = then_both (shape_said q) (listing_said q listing) (found ∷ refused ∷ []) (sym checks
        ∙ ap checked_said e)
        in
        listing_sound pattern_bytes (posed q a.0.0 a.0.1) listing_bytes found refused a.1

    -- DEMAND 2: the check accepts exactly the listings that keep the rules
    pub accepts_iff : Bytes listing → (found refused : ℕ) → (r ≡ kept found refused)
        ↔ KeepsRules q listing found refused
    accepts_iff listing_bytes found refused = (accepts_only listing_bytes found refused, accepts_all found refused)

-- a walk whose number is 0 went on to the end
walked_zero : (w : Walk) (found refused : ℕ) → said_number (walk_said w found refused) ≡ 0
    → accepts (found ∷ refused ∷ []) ≡ walk_said w found refused
walked_zero (Ok at) found refused e = refl
walked_zero (Err why) found refused e = absurd (omega (arith, number_positive why, e))

-- where the check's number is 0, it is accepted, with two counts
pub check_zero : (q : Question) (listing : List ℕ) → said_number (check_of q listing) ≡ 0
    → (found : ℕ) × (refused : ℕ) × (checked_said (kept found refused) ≡ check_of q listing)
unfolding check_of listing_said
check_zero q listing e = go (shape_said q) (shape_proper q) e
  where
    go : (a : Said) → Proper a → said_number (a then listing_said q listing) ≡ 0
        → (found : ℕ) × (refused : ℕ) × (accepts (found ∷ refused ∷ []) ≡ a then listing_said q listing)
    go (accepts values) p e = (
      found_to q listing (windows_of q),
      refused_to q listing (windows_of q),
      walked_zero (listing_walk q listing) (found_to q listing (windows_of q)) (refused_to q listing (windows_of q)) e,
    )
    go (refuses number values) (refused_by n v h) e = absurd (omega (arith, h, e))
