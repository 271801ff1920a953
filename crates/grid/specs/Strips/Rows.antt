-- How the code makes a strip's links, position by position and row by row: what its proofs cite.
-- Assumes nothing.
use Rattle.std.specs.Prelude.{◌≡◌, Ok, refl, List, [], ℕ, suc, ◌+◌, ◌-◌, ◌*◌, ◌/◌, ◌%◌, ◌≤◌, ◌<◌, eqb, length, get_or, set, replicate}
use Rattle.std.proofs.Common.{sym, ◌∙◌, ap, subst, add-zero, add-suc, suc-mul, mul-le-mul_right, mod-lt, div-lt_iff_lt-mul, div-add-mod', add-one, arith, length-set, get_or-set_same, get_or-set_other, ne_eqb}
use Rattle.std.proofs.lemmas.List.{length-replicate, get_or-replicate}
use Rattle.std.proofs.Math.Decide.{ℕ_discrete}
use Rattle.theory.specs.Test.{pick}
use Rattle.theory.specs.Store.{stored, stored_rows, Covers}
use Rattle.theory.specs.Store.Laws.{stored_none, stored_more, rows_more, rows_all}
use Rattle.shapes.specs.Shapes.Laws.{product_le}
use Rattle.cells.specs.Windows.{cells_of_row}
use Rattle.cells.specs.Windows.Laws.{row_inside, length_row, row_at, window_strip}
use Rattle.refusals.specs.Said.{accepts, filled}
use Rattle.grid.specs.Strips.{link, links_said, strip_symbols, StripOf, Latest, never, latest, links_of, strip_size}
use Rattle.grid.specs.Strips.{LastPlaces, RowFrom, Linkable, LinkedRow}
use Rattle.grid.specs.Strips.Laws.{links_passed, links_new}
use Rattle.grid.specs.Strips.Links.{none, back, linked_is}
use Rattle.grid.specs.declared.strips.Strip.{Strip}

-- ---- the last place of each symbol, as the code keeps it

module _ (s : ℕ → ℕ) where
  pub latest_le : {p v x : ℕ} → Latest s p v x → x ≤ p
  latest_le (never n) = omega arith
  latest_le (latest q h e later) = h

  -- the link of p from the last place of its symbol
  pub latest_link : (p : ℕ) {x : ℕ} → Latest s p (s p) x → link s p ≡ pick (eqb x 0) 0 (p + 1 - x)
  latest_link p (never n) = linked_is s p (none n)
  latest_link p (latest q h e later) =
      let gap : p + 1 - suc q ≡ p - q = omega arith in
      let same : p - (p - q) ≡ q = omega arith in
      linked_is s p (rw (ne_eqb (suc q) 0 (omega arith), gap)
      (back (p - q) (omega arith) (omega arith) (ap s same ∙ e) (λ k a b. later k (omega arith) b)))

  pub last_places_none : (t : List ℕ) → t ≡ replicate 256 0 → LastPlaces s 0 t
  last_places_none t e =
      rw e (record {
        long = length-replicate {A = ℕ} 256 0;
        each = λ v h. rw (get_or-replicate {A = ℕ} 256 v 0 0 h) (never (λ q b. absurd (below q b)));
      })
    where
      below : (q : ℕ) → q < 0 → ⊥
      below q b = omega arith

  -- one position more
  pub last_places_more : (p : ℕ) (t : List ℕ) → s p < 256 → LastPlaces s p t
      → LastPlaces s (suc p) (set t (s p) (suc p))
  last_places_more p t small l = record { long = rw length-set l.long; each = λ v h. go v h (ℕ_discrete v (s p)) }
    where
      grow : (v : ℕ) → (v ≡ s p → ⊥) → {x : ℕ} → Latest s p v x → Latest s (suc p) v x
      grow v d (never n) = never (λ q h e. n q (omega (arith, other q e)) e)
        where
          other : (q : ℕ) → s q ≡ v → q ≡ p → ⊥
          other q e i = d (sym e ∙ ap s i)
      grow v d (latest q h e later) = latest q (omega arith) e (λ k a b i. later k a (omega (arith, other k i)) i)
        where
          other : (k : ℕ) → s k ≡ v → k ≡ p → ⊥
          other k i j = d (sym i ∙ ap s j)

      go : (v : ℕ) → v < 256 → Dec (v ≡ s p) → Latest s (suc p) v (get_or (set t (s p) (suc p)) v 0)
      go v h (yes e) =
          rw (e, get_or-set_same t (s p) (suc p) 0 (omega (arith, l.long)))
          (latest p (omega arith) refl (λ k a b. absurd (between k a b)))
        where
          between : (k : ℕ) → p < k → k < suc p → ⊥
          between k a b = omega arith
      go v h (no d) = rw (get_or-set_other t (s p) v (suc p) 0 d) (grow v d (l.each v h))

  -- ---- one row, position by position

  module _ (base : ℕ) (links₀ : List ℕ) where
    pub linked_row_none : (last : List ℕ) → LastPlaces s base last → LinkedRow s base 0 links₀ last links₀
    linked_row_none last l =
        record { places = rw add-zero l; written = sym (stored_none (link s) (λ j. base + j) links₀) }

    pub linked_row_more : (j : ℕ) (last links : List ℕ) (v d : ℕ) → LinkedRow s base j links₀ last links
        → v ≡ s (base + j) → v < 256
        → d ≡ pick (eqb (get_or last v 0) 0) 0 (base + j + 1 - get_or last v 0)
        → LinkedRow s base (j + 1) links₀ (set last v (base + j + 1)) (set links (base + j) d)
    linked_row_more j last links v d l e small q =
        record {
          places =
              rw (e, add-one (base + j), add-one j, add-suc base j)
              (last_places_more (base + j) last (subst (λ (x : ℕ). x < 256) e small) l.places);
          written =
              rw (add-one j) (stored_more (link s) (λ j. base + j) j links₀ links d l.written (q ∙ sym linked));
        }
      where
        linked : link s (base + j) ≡ pick (eqb (get_or last v 0) 0) 0 (base + j + 1 - get_or last v 0)
        linked =
            latest_link (base + j) (subst (λ (x : ℕ). Latest s (base + j) x (get_or last v 0)) e
            (l.places.each v small))

-- ---- a strip, row by row

module _ (text : List ℕ) (t : Strip) (strip : StripOf t (length text)) (i : ℕ) (inside : i < t.rows) (row : List ℕ)
    (is_row : row ≡ cells_of_row text t.columns i t.left t.width) where
  fits_row : i * t.columns + t.left + t.width ≤ length text
  fits_row =
      row_inside (length text) t.rows t.columns t.rows t.width t.left i strip.shape strip.inside
      inside

  pub length_strip_row : length row ≡ t.width
  length_strip_row = rw is_row (length_row text t.columns i t.left t.width fits_row)

  -- row i of the text is row i of the strip
  pub strip_row_at : RowFrom (strip_symbols text t) (i * t.width) row
  strip_row_at j h =
      let j_lt : j < t.width = omega (arith, length_strip_row) in
      rw is_row (row_at text t.columns i t.left t.width j j_lt
      ∙ window_strip text t.columns i t.left t.width j (omega arith))

  row_ends : i * t.width + length row ≤ t.rows * t.width
  row_ends = omega (arith, length_strip_row, suc-mul i t.width, mul-le-mul_right t.width inside)

  pub linkable_row : (last : List ℕ) (room : ℕ) → LastPlaces (strip_symbols text t) (i * t.width) last
      → t.rows * t.width ≤ room → Linkable (i * t.width) row last room
  linkable_row last room l h =
      record {
        symbols = strip_symbols text t;
        row_is = strip_row_at;
        places = l;
        small = omega (arith, row_ends, product_le t.rows t.width 255 255 (omega arith) (omega arith));
        fitting = omega (arith, row_ends);
      }

  -- the last places before the next row, and the links of one row more
  pub next_places : (links₀ last links : List ℕ)
      → LinkedRow (strip_symbols text t) (i * t.width) (length row) links₀ last links
      → LastPlaces (strip_symbols text t) ((i + 1) * t.width) last
  next_places links₀ last links l =
      subst (λ (p : ℕ). LastPlaces (strip_symbols text t) p last)
      (ap (λ (n : ℕ). i * t.width + n) length_strip_row ∙ sym (suc-mul i t.width)
      ∙ ap (λ (n : ℕ). n * t.width) (sym (add-one i))) l.places

  pub next_links : (links links₀ last r : List ℕ)
      → links ≡ stored_rows (link (strip_symbols text t)) (λ i j. i * t.width + j) i t.width links₀
      → LinkedRow (strip_symbols text t) (i * t.width) (length row) links last r
      → r ≡ stored_rows (link (strip_symbols text t)) (λ i j. i * t.width + j) (i + 1) t.width links₀
  next_links links links₀ last r e l =
      rw (add-one i)
      (rows_more (link (strip_symbols text t)) (λ i j. i * t.width + j) t.width i links₀ links r e
      (l.written ∙ ap (λ (n : ℕ). stored (link (strip_symbols text t)) (λ j. i * t.width + j) n links)
      length_strip_row))

-- every position lies in one row
pub positions_covered : (rows width : ℕ) → 0 < width → Covers (λ i j. i * width + j) rows width (rows * width)
positions_covered rows width pos =
    record {
      row = λ k. k / width;
      column = λ k. k % width;
      place = λ k h. ((div-lt_iff_lt-mul pos).1 h, mod-lt k pos, div-add-mod' k width);
      inside = λ i j a b. omega (arith, suc-mul i width, mul-le-mul_right width a);
    }

-- all rows linked are what an accepted call leaves
pub links_written : (text : List ℕ) (t : Strip) (links r : List ℕ) → links_said text t (length links) ≡ accepts []
    → r ≡ stored_rows (link (strip_symbols text t)) (λ i j. i * t.width + j) t.rows t.width links
    → filled (Ok tt) r ≡ links_of text t links
links_written text t links r z e =
    let p = links_passed text t (length links) [] z in
    links_new text t links r z
    (e
    ∙ rows_all (link (strip_symbols text t)) (λ i j. i * t.width + j) t.width t.rows (strip_size t) links
    (positions_covered t.rows t.width p.0.shape.sized.sides.width_good.positive) p.1)
