-- One pass over pivots: what is known of the whole table by what is left of it.
use Rattle.std.specs.Prelude.{Result, Ok, Err}
use Rattle.model.specs.declared.Refusal.{Refusal}
use mathlib.Core.Path.{◌≡◌, refl, ◌∙◌}
use mathlib.Core.Bool.{Bool, true, false, not, ◌&&◌, and-true, and_assoc, or-true}
use mathlib.Core.List.{List, []}
use Prim.Native.Nat.{ℕ, suc, ◌+◌, ◌-◌, ◌/◌, ◌%◌, ◌≤◌, ◌<◌}
use native.Mathlib.Numerals.{add-one}
use native.Mathlib.Omega.{arith}
use borrow.Author.Tests.{eqb-true, eqb-false, ne_eqb, leb-true, not-true, not-false}
use lib.Dec.{eqb, leb}
use lib.ListN.{length, drop, get_or, drop_of_length-le}
use lib.Seq.{drop-cons}
use mir.Syntax.{w64}
use mir.Val.{Fits}
use Rattle.std.specs.Ordering.{is_lt}
use Rattle.std.specs.declared.cmp.Ordering.{Ordering}
use Rattle.model.specs.declared.Reading.{Reading}
use Rattle.model.specs.declared.Reading.TheVariants as reads
use Rattle.model.specs.declared.Refusal.TheVariants.{Shape, Malformed, Unsorted}
use Rattle.model.specs.keys.Order.{max, lt, sign}
use Rattle.model.specs.records.Record.{record_size, reading, allowed, key_reading, element_reading, records, element, elements}
use Rattle.model.specs.inner.Places.{record_at}
use Rattle.model.specs.tables.Tables.{PivotTable, min_pivots, max_pivots, pivot_at, rises_from, IsStrictlySorted}
use Rattle.model.specs.calls.Refusals.{outcome, answer}
use Rattle.model.specs.calls.TableCalls.{not_pivot_count, pivots_read, pivot_causes}
use Rattle.model.proofs.keys.Key.{both}
use Rattle.keys.specs.Padded.{padded_order}
use Rattle.keys.proofs.Padded.{padded_below}
use Rattle.model.proofs.calls.TableCalls.{length_records, length_elements, record_length, element_at}

-- ---- a list of records, and of pivots, from a place on

-- a record that isn't the last must be read as a key
read_on : (rs : List (List ℕ)) (i : ℕ) → i + 1 < length rs
    → pivots_read (drop i rs) ≡ (key_reading (reading (get_or rs i [])) && pivots_read (drop (i + 1) rs))
unfolding pivots_read
read_on rs i h = rw (drop-cons rs i [] (omega arith), add-one, drop-cons rs (suc i) [] (omega arith))

-- the last one as an element
read_last : (rs : List (List ℕ)) (i : ℕ) → length rs ≡ i + 1 → pivots_read (drop i rs) ≡ element_reading (reading (get_or rs i []))
unfolding pivots_read
read_last rs i h =
    let q : length rs ≤ suc i = omega arith in
    let e : drop (suc i) rs ≡ [] = drop_of_length-le rs q in
    rw (drop-cons rs i [] (omega arith), e) (and-true (element_reading (reading (get_or rs i []))))

-- pivots rise where the first is below the second and those after the first rise
rise_on : (pt : PivotTable) (i : ℕ) → i + 1 < length pt
    → IsStrictlySorted (drop i pt) ≡ (lt (pivot_at pt i) (pivot_at pt (i + 1)) && IsStrictlySorted (drop (i + 1) pt))
unfolding IsStrictlySorted rises_from
rise_on pt i h = rw (drop-cons pt i max (omega arith), add-one, drop-cons pt (suc i) max (omega arith))

-- one pivot alone rises
rise_last : (pt : PivotTable) (i : ℕ) → length pt ≡ i + 1 → IsStrictlySorted (drop i pt) ≡ true
unfolding IsStrictlySorted rises_from
rise_last pt i h =
    let q : length pt ≤ suc i = omega arith in
    let e : drop (suc i) pt ≡ [] = drop_of_length-le pt q in
    rw (drop-cons pt i max (omega arith), e)

-- ---- the pass

-- all before the place i is read, and what isn't last as a key; whether it rises up to there is `rises`
pub record Pass (p : List ℕ) (i : ℕ) (rises : Bool) : Type 0 where
  pub begun : 1 ≤ i
  pub inside : i ≤ length p / 66
  pub here : element_reading (reading (record_at p (i - 1))) ≡ true
  pub not_last : i < length p / 66 → key_reading (reading (record_at p (i - 1))) ≡ true
  pub read : pivots_read (records p) ≡ pivots_read (drop (i - 1) (records p))
  pub sorted : IsStrictlySorted (elements p) ≡ (rises && IsStrictlySorted (drop (i - 1) (elements p)))

-- a key may stand where an element may
element_too : (last : Bool) (w : Reading) → allowed false last w ≡ true → element_reading w ≡ true
element_too last (reads.Key n) h = refl
element_too last reads.Malformed h = h
element_too last reads.NoEdge h = h
element_too last reads.Max h = refl

module _ (p : List ℕ) (counted : not_pivot_count p ≡ false) where
  misread : pivots_read (records p) ≡ false → Err Malformed ≡ answer (pivot_causes false false p) (length p / 66)
  unfolding outcome pivot_causes
  misread h = rw (counted, h)

  unsorted : pivots_read (records p) ≡ true → IsStrictlySorted (elements p) ≡ false → Err Unsorted ≡ answer (pivot_causes false false p) (length p / 66)
  unfolding outcome pivot_causes
  unsorted h k = rw (counted, h, k)

  well_formed : pivots_read (records p) ≡ true → IsStrictlySorted (elements p) ≡ true → Ok (length p / 66) ≡ answer (pivot_causes false false p) (length p / 66)
  unfolding outcome pivot_causes
  well_formed h k = rw (counted, h, k)

  two : 2 ≤ length p / 66
  unfolding not_pivot_count
  two =
      let c = both _ (leb (length p / record_size) max_pivots) (not-false _ counted) in
      leb-true min_pivots (length p / record_size) (both (eqb (length p % record_size) 0) _ c.0).1

  -- the first record
  module _ (a : List ℕ) (t : Bool) (e : a ≡ record_at p 0) (f : t ≡ key_reading (reading a)) where
    first_read : key_reading (reading (record_at p 0)) ≡ t
    first_read = rw (f, e)

    pub first_wrong : not t ≡ true → Err Malformed ≡ answer (pivot_causes false false p) (length p / 66)
    first_wrong h = misread (read_on (records p) 0 (omega (arith, two, length_records p)) ∙ rw (first_read, not-true t h))

    pub start : not t ≡ false → Pass p 1 true
    start h =
        let k = first_read ∙ not-false t h in
        record { begun = omega arith; inside = omega (arith, two); here = element_too false (reading (record_at p 0)) k; not_last = λ _. k; read = refl; sorted = refl }

module _ (p : List ℕ) (i : ℕ) (rises : Bool) (w : Pass p i rises) where
  pub next_fits : Fits w64 (length p) → i < length p / 66 → Fits w64 (i + 1)
  next_fits f h = record { fits = omega (arith, f.fits) }

  before : i - 1 + 1 ≡ i
  before = omega (arith, w.begun)

  -- the record at it, which may be max where it is last
  module _ (more : i < length p / 66) (a : List ℕ) (t : Bool) (e : a ≡ record_at p i) (f : t ≡ allowed false (eqb (i + 1) (length p / 66)) (reading a)) where
    next_read : allowed false (eqb (i + 1) (length p / 66)) (reading (record_at p i)) ≡ t
    next_read = rw (f, e)

    on : pivots_read (records p) ≡ pivots_read (drop i (records p))
    on = w.read ∙ (rw before at (read_on (records p) (i - 1) (omega (arith, length_records p, w.begun)))) ∙ rw (w.not_last more)

    pub next_wrong : not_pivot_count p ≡ false → not t ≡ true → Err Malformed ≡ answer (pivot_causes false false p) (length p / 66)
    next_wrong counted h = misread p counted (on ∙ go (eqb (i + 1) (length p / 66)) refl (next_read ∙ not-true t h))
      where
        go : (last : Bool) → eqb (i + 1) (length p / 66) ≡ last → allowed false last (reading (record_at p i)) ≡ false → pivots_read (drop i (records p)) ≡ false
        go true q r = read_last (records p) i (omega (arith, length_records p, eqb-true (i + 1) (length p / 66) q)) ∙ r
        go false q r =
            let m = eqb-false (i + 1) (length p / 66) q in
            read_on (records p) i (omega (arith, length_records p, m)) ∙ rw r

    module _ (h : not t ≡ false) where
      stands : allowed false (eqb (i + 1) (length p / 66)) (reading (record_at p i)) ≡ true
      stands = next_read ∙ not-false t h

      pub after_read : element_reading (reading (record_at p i)) ≡ true
      after_read = element_too (eqb (i + 1) (length p / 66)) (reading (record_at p i)) stands

      rise : IsStrictlySorted (drop (i - 1) (elements p)) ≡ (lt (pivot_at (elements p) (i - 1)) (pivot_at (elements p) i) && IsStrictlySorted (drop i (elements p)))
      rise = rw before at (rise_on (elements p) (i - 1) (omega (arith, length_elements p, w.begun)))

      pub turn : (u : Bool) → u ≡ (rises && lt (element (record_at p (i - 1))) (element (record_at p i))) → Pass p (i + 1) u
      turn u g =
          let c : i + 1 - 1 ≡ i = omega arith in
          record {
            begun = omega arith;
            inside = omega arith;
            here = rw c after_read;
            not_last = λ m.
                let z : i + 1 ≡ length p / 66 → ⊥ = λ q. omega arith in
                rw c (rw (ne_eqb (i + 1) (length p / 66) z) at stands);
            read = rw c on;
            sorted = rw (c, g, ← element_at p (i - 1) (omega (arith, w.begun)), ← element_at p i more, and_assoc, ← rise) w.sorted;
          }

  -- the last record
  module _ (counted : not_pivot_count p ≡ false) (over : length p / 66 ≤ i) where
    all_read : pivots_read (records p) ≡ true
    all_read = w.read ∙ read_last (records p) (i - 1) (omega (arith, length_records p, w.inside, w.begun)) ∙ w.here

    all_sorted : IsStrictlySorted (elements p) ≡ rises
    all_sorted = w.sorted ∙ rw (rise_last (elements p) (i - 1) (omega (arith, length_elements p, w.inside, w.begun))) (and-true rises)

    pub falls : not rises ≡ true → Err Unsorted ≡ answer (pivot_causes false false p) (length p / 66)
    falls k = unsorted p counted all_read (all_sorted ∙ not-true rises k)

    pub all_rise : not rises ≡ false → Ok (length p / 66) ≡ answer (pivot_causes false false p) (length p / 66)
    all_rise k = well_formed p counted all_read (all_sorted ∙ not-false rises k)

-- one comparison more
module _ (p a b : List ℕ) (i : ℕ) (e : a ≡ record_at p (i - 1)) (f : b ≡ record_at p i) where
  pub one_more : (rises : Bool) (o : Ordering) → rises ≡ true → i < length p / 66 → element_reading (reading (record_at p (i - 1))) ≡ true → element_reading (reading (record_at p i)) ≡ true
      → sign o ≡ padded_order a b → is_lt o ≡ (rises && lt (element (record_at p (i - 1))) (element (record_at p i)))
  one_more rises o h n r s g =
      let w = padded_below (record_at p (i - 1)) (record_at p i) (record_length p (i - 1) (omega arith), r) (record_length p i n, s) o in
      rw h (w (rw (e, f) at g))

-- ---- with the causes 1 and 2 of another argument

module _ (p : List ℕ) (shape wrong : Bool) (n : ℕ) where
  pub shape_refused : shape ≡ true → Err Shape ≡ answer (pivot_causes shape wrong p) n
  unfolding outcome pivot_causes
  shape_refused h = rw h

  module _ (t : Bool) (e : t ≡ not_pivot_count p) where
    pub count_refused : t ≡ true → Err Shape ≡ answer (pivot_causes shape wrong p) n
    unfolding outcome pivot_causes
    count_refused h = rw (← e, h, or-true shape)

    pub wrong_refused : shape ≡ false → t ≡ false → wrong ≡ true → Err Malformed ≡ answer (pivot_causes shape wrong p) n
    unfolding outcome pivot_causes
    wrong_refused h k w = rw (← e, h, k, w)

  -- where none has one, those of the pivots decide
  pub alone : (x : Result ℕ Refusal) → shape ≡ false → wrong ≡ false → x ≡ answer (pivot_causes false false p) n → x ≡ answer (pivot_causes shape wrong p) n
  alone x h k e = rw (h, k) e
