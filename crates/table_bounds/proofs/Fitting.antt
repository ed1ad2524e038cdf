-- A key at a place between two pivots.
use mathlib.Core.Path.{◌≡◌, sym, ◌∙◌}
use mathlib.Core.Bool.{Bool, true, false, not, ◌||◌, true≢false}
use mathlib.Core.List.{List}
use mathlib.Core.Logic.{⊎_elim}
use Prim.Native.Nat.{ℕ, ◌-◌, ◌/◌, ◌≤◌, ◌<◌}
use native.Mathlib.Omega.{arith}
use borrow.Author.Tests.{ne_eqb, le-leb, lt-leb, not-true, not-false}
use lib.Dec.{eqb, leb}
use lib.ListN.{length}
use Rattle.model.specs.keys.Key.{Key}
use Rattle.model.specs.keys.Order.{key, lt, passes}
use Rattle.model.specs.records.Record.{record_size, element, elements}
use Rattle.model.specs.inner.Places.{record_at}
use Rattle.model.specs.tables.Tables.{pivot_at, WFPivots, PivotInsertable}
use Rattle.model.proofs.Lists.{le_or_lt}
use Rattle.model.proofs.keys.Order.{refuted}
use Rattle.model.proofs.tables.Insertable.{Gap, gap_insertable, insertable_gap}
use Rattle.model.proofs.tables.Routing.{wf_sorted, wf_count}
use Rattle.model.proofs.calls.TableCalls.{length_elements, element_at}

-- ---- beside one pivot

module _ (p : List ℕ) (i : ℕ) (k : Key) where
  pub no_pivot_before : i ≡ 0 → true ≡ (eqb i 0 || lt (element (record_at p (i - 1))) (key k))
  no_pivot_before h = rw h

  pub pivot_before : (a : List ℕ) (t : Bool) → (i ≡ 0 → ⊥) → a ≡ record_at p (i - 1) → t ≡ passes true (key k) (element a)
      → t ≡ (eqb i 0 || lt (element (record_at p (i - 1))) (key k))
  pivot_before a t h e f = rw (ne_eqb i 0 h, ← e) f

  pub no_pivot_at : length p / 66 ≤ i → true ≡ (leb (length p / record_size) i || lt (key k) (element (record_at p i)))
  no_pivot_at h = rw (le-leb (length p / 66) i h)

  pub pivot_at_lem : (a : List ℕ) (t : Bool) → i < length p / 66 → a ≡ record_at p i → t ≡ passes false (key k) (element a)
      → not t ≡ (leb (length p / record_size) i || lt (key k) (element (record_at p i)))
  pivot_at_lem a t h e f = rw (lt-leb (length p / 66) i h, ← e, ← f)

-- ---- between both

or_right : (a b : Bool) → a ≡ false → (a || b) ≡ true → b ≡ true
or_right a b h e = rw h at e

module _ (p : List ℕ) (i : ℕ) (k : Key) (wf : WFPivots (elements p) ≡ true) where
  pub past_count : length p / 66 < i → false ≡ PivotInsertable (elements p) i k
  past_count h =
      sym (refuted _ (λ e.
      let g = insertable_gap (elements p) i k (wf_sorted (elements p) wf) (wf_count (elements p) wf) e in
      omega (arith, g.inside, length_elements p)))

  gap : PivotInsertable (elements p) i k ≡ true → Gap (elements p) i k
  gap = insertable_gap (elements p) i k (wf_sorted (elements p) wf) (wf_count (elements p) wf)

  module _ (n : i ≤ length p / 66) where
    before_is : 0 < i → pivot_at (elements p) (i - 1) ≡ element (record_at p (i - 1))
    before_is h = element_at p (i - 1) (omega arith)

    -- the pivot before the place is below the key, if there is one
    gap_follows : Gap (elements p) i k → (eqb i 0 || lt (element (record_at p (i - 1))) (key k)) ≡ true
    gap_follows g =
        ⊎_elim (λ h. let z : i ≡ 0 = omega arith in rw z)
        (λ h. rw (ne_eqb i 0 (λ z. omega arith), ← before_is h) (g.left h))
        (le_or_lt i 0)

    follows_gap : (eqb i 0 || lt (element (record_at p (i - 1))) (key k)) ≡ true → 0 < i → lt (pivot_at (elements p) (i - 1)) (key k) ≡ true
    follows_gap e h = rw (before_is h) (or_right _ _ (ne_eqb i 0 (λ z. omega arith)) e)

    -- and the one at the place above it
    gap_precedes : Gap (elements p) i k → (leb (length p / record_size) i || lt (key k) (element (record_at p i))) ≡ true
    gap_precedes g =
        ⊎_elim (λ h. rw (le-leb (length p / record_size) i h))
        (λ h. rw (lt-leb (length p / record_size) i h, ← element_at p i h) (g.right (omega (arith, length_elements p))))
        (le_or_lt (length p / record_size) i)

    precedes_gap : (leb (length p / record_size) i || lt (key k) (element (record_at p i))) ≡ true → i < length (elements p)
        → lt (key k) (pivot_at (elements p) i) ≡ true
    precedes_gap e h =
        let q : i < length p / record_size = omega (arith, length_elements p) in
        rw (element_at p i q) (or_right _ _ (lt-leb (length p / record_size) i q) e)

    module _ (t : Bool) (f : t ≡ (eqb i 0 || lt (element (record_at p (i - 1))) (key k))) where
      pub not_after : not t ≡ true → false ≡ PivotInsertable (elements p) i k
      not_after h = sym (refuted _ (λ e. true≢false (sym (f ∙ gap_follows (gap e)) ∙ not-true t h)))

      pub between : (u : Bool) → not t ≡ false → u ≡ (leb (length p / record_size) i || lt (key k) (element (record_at p i)))
          → u ≡ PivotInsertable (elements p) i k
      between u h g = go u g
        where
          go : (v : Bool) → v ≡ (leb (length p / record_size) i || lt (key k) (element (record_at p i))) → v ≡ PivotInsertable (elements p) i k
          go true e =
              sym (gap_insertable (elements p) i k (wf_sorted (elements p) wf) (wf_count (elements p) wf)
              (record {
                inside = omega (arith, length_elements p);
                left = follows_gap (sym f ∙ not-false t h);
                right = precedes_gap (sym e);
              }))
          go false e = sym (refuted _ (λ w. true≢false (sym (gap_precedes (gap w)) ∙ sym e)))
