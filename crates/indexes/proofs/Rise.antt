-- The two ends of a bucket that rises.
use mathlib.Core.Path.{◌≡◌, refl, sym, ◌∙◌}
use mathlib.Core.Bool.{Bool, true, false, not, ◌&&◌, true≢false}
use mathlib.Core.List.{List}
use mathlib.Core.Logic.{⊎_elim}
use Prim.Native.Nat.{ℕ, zero, suc, ◌-◌, ◌/◌, ◌<◌}
use native.Mathlib.Nat.{eq-or-lt_of_le}
use native.Mathlib.Omega.{arith}
use borrow.Author.Tests.{not-true, not-false}
use lib.ListN.{length, get_or}
use Rattle.model.specs.keys.Order.{key, lte, lt}
use Rattle.model.specs.records.Record.{element, elements}
use Rattle.model.specs.tables.Tables.{PivotTable, pivot_at, last_pivot, all, WFPivots, BoundedKey}
use Rattle.model.specs.inner.Places.{record_at, entry_at}
use Rattle.model.specs.buckets.Bucket.{Entry, Bucket, entry_size, entry_record, entry_bytes, entries, entries_rise}
use Rattle.model.specs.calls.BucketCalls.{entries_read}
use Rattle.model.specs.calls.IndexCalls.{entries_inside}
use Rattle.model.proofs.Lists.{inside_all, all_inside}
use Rattle.model.proofs.keys.Key.{both}
use Rattle.model.proofs.keys.Order.{lte_trans, lte_trans_lt, lt_lte, lte_refl, refuted}
use Rattle.model.proofs.calls.TableCalls.{length_elements, element_at}
use Rattle.model.proofs.calls.BucketCalls.{bucket_read}
use Rattle.model.proofs.buckets.Below.{rise_at}
use Rattle.model.proofs.tables.Routing.{wf_count}
use Rattle.entries.proofs.Places.{length_entries}
use Rattle.entry_order.specs.Rising.{Rising}
use Rattle.entry_order.proofs.Entries.{none_such, key_here}

-- entries that rise are inside where the first isn't below the first pivot, and the last is below the last
module _ (pt : PivotTable) (b : Bucket) (h : entries_rise b ≡ true) (n : 0 < length b) (d : Entry) where
  from_first : (i : ℕ) → i < length b → lte (key (get_or b 0 d).key) (key (get_or b i d).key) ≡ true
  from_first zero k = lte_refl (key (get_or b 0 d).key)
  from_first (suc i) k = lt_lte (key (get_or b 0 d).key) (key (get_or b (suc i) d).key) (rise_at b h 0 (suc i) d (omega arith) k)

  to_last : (i : ℕ) → i < length b → lte (key (get_or b i d).key) (key (get_or b (length b - 1) d).key) ≡ true
  to_last i k =
      ⊎_elim (λ (e : i ≡ length b - 1). rw e (lte_refl (key (get_or b (length b - 1) d).key)))
      (λ (m : i < length b - 1). lt_lte (key (get_or b i d).key) (key (get_or b (length b - 1) d).key) (rise_at b h i (length b - 1) d m (omega arith)))
      (eq-or-lt_of_le (omega arith))

  pub inside_ends : entries_inside pt b ≡ (lte (pivot_at pt 0) (key (get_or b 0 d).key) && lt (key (get_or b (length b - 1) d).key) (last_pivot pt))
  unfolding entries_inside BoundedKey
  inside_ends = go (lte (pivot_at pt 0) (key (get_or b 0 d).key)) (lt (key (get_or b (length b - 1) d).key) (last_pivot pt)) refl refl
    where
      each : lte (pivot_at pt 0) (key (get_or b 0 d).key) ≡ true → lt (key (get_or b (length b - 1) d).key) (last_pivot pt) ≡ true → (i : ℕ) → i < length b
          → (lte (pivot_at pt 0) (key (get_or b i d).key) && lt (key (get_or b i d).key) (last_pivot pt)) ≡ true
      each f g i k =
          rw (lte_trans (pivot_at pt 0) (key (get_or b 0 d).key) (key (get_or b i d).key) f (from_first i k), lte_trans_lt (key (get_or b i d).key) (key (get_or b (length b - 1) d).key) (last_pivot pt) (to_last i k) g)

      at : all (λ (e : Entry). lte (pivot_at pt 0) (key e.key) && lt (key e.key) (last_pivot pt)) b ≡ true → (i : ℕ) → i < length b
          → (lte (pivot_at pt 0) (key (get_or b i d).key) ≡ true) × (lt (key (get_or b i d).key) (last_pivot pt) ≡ true)
      at u i k =
          both (lte (pivot_at pt 0) (key (get_or b i d).key)) (lt (key (get_or b i d).key) (last_pivot pt))
          (all_inside (λ (e : Entry). lte (pivot_at pt 0) (key e.key) && lt (key e.key) (last_pivot pt)) b i d k u)

      go : (s t : Bool) → lte (pivot_at pt 0) (key (get_or b 0 d).key) ≡ s → lt (key (get_or b (length b - 1) d).key) (last_pivot pt) ≡ t
          → all (λ (e : Entry). lte (pivot_at pt 0) (key e.key) && lt (key e.key) (last_pivot pt)) b ≡ (s && t)
      go true true f g = inside_all (λ (e : Entry). lte (pivot_at pt 0) (key e.key) && lt (key e.key) (last_pivot pt)) b d (each f g)
      go false t f g = refuted _ (λ u. true≢false (sym (at u 0 n).0 ∙ f))
      go true false f g = refuted _ (λ u. true≢false (sym (at u (length b - 1) (omega arith)).1 ∙ g))

module _ (p l : List ℕ) (v : WFPivots (elements p) ≡ true) (w : Rising l) where
  read : entries_read (entry_bytes l) ≡ true
  read = bucket_read false l w.read

  -- a bucket without entries is inside
  pub none_outside : length l / entry_size ≡ 0 → false ≡ not (entries_inside (elements p) (entries l))
  unfolding entries_inside
  none_outside h = rw (inside_all (λ (e : Entry). BoundedKey (elements p) e.key) (entries l) none_such (λ i k. absurd (omega (arith, length_entries l))))

  module _ (z : length l / entry_size ≡ 0 → ⊥) (a c : List ℕ) (f : a ≡ entry_record (entry_at l 0)) (g : c ≡ record_at p 0) (s : Bool)
      (e : s ≡ lt (element a) (element c)) where
    ends : entries_inside (elements p) (entries l)
        ≡ (lte (pivot_at (elements p) 0) (key (get_or (entries l) 0 none_such).key) && lt (key (get_or (entries l) (length (entries l) - 1) none_such).key) (last_pivot (elements p)))
    ends = inside_ends (elements p) (entries l) w.rise (omega (arith, z, length_entries l)) none_such

    first_told : s ≡ not (lte (pivot_at (elements p) 0) (key (get_or (entries l) 0 none_such).key))
    first_told =
        e
        ∙ rw (f, g, key_here l read 0 (omega (arith, z)) none_such, ← element_at p 0 (omega (arith, length_elements p, wf_count (elements p) v)))

    -- the first entry is below the first pivot
    pub first_outside : s ≡ true → true ≡ not (entries_inside (elements p) (entries l))
    first_outside h = rw (ends, not-true (lte (pivot_at (elements p) 0) (key (get_or (entries l) 0 none_such).key)) (sym first_told ∙ h))

    -- or the last isn't below the last
    pub last_outside : s ≡ false → (b d : List ℕ) → b ≡ entry_record (entry_at l (length l / entry_size - 1)) → d ≡ record_at p (length p / 66 - 1) → (t : Bool) → t ≡ lt (element b) (element d)
        → not t ≡ not (entries_inside (elements p) (entries l))
    last_outside h b d i j t k =
        let m : lte (pivot_at (elements p) 0) (key (get_or (entries l) 0 none_such).key) ≡ true = not-false _ (sym first_told ∙ h) in
        let x = length_entries l in
        let y = length_elements p in
        let q : length (entries l) - 1 ≡ length l / entry_size - 1 = omega arith in
        let r : length (elements p) - 1 ≡ length p / 66 - 1 = omega arith in
        rw (ends, m, q, r, k, i, j, key_here l read (length l / entry_size - 1) (omega (arith, z)) none_such, ← element_at p (length p / 66 - 1) (omega (arith, length_elements p, wf_count (elements p) v)))
