-- The index of a translated bucket by the places of the old one: each is the number of entries before the old place that are kept.
use mathlib.Core.Path.{◌≡◌, refl, ap, ◌∙◌}
use mathlib.Core.Bool.{true}
use mathlib.Core.List.{[], ◌∷◌, map}
use Prim.Native.Nat.{ℕ, ◌+◌, ◌-◌, ◌≤◌, ◌<◌}
use native.Mathlib.Omega.{arith}
use lib.ListN.{length, take, drop, length-append}
use lib.Seq.{take-add}
use Rattle.model.specs.keys.Key.{Key}
use Rattle.model.specs.keys.Order.{Element}
use Rattle.model.specs.tables.Tables.{PivotTable, IsStrictlySorted}
use Rattle.model.specs.buckets.Bucket.{Bucket, TranslateBucket, entries_rise}
use Rattle.model.specs.buckets.Index.{entries_below, Index, place_at, TranslateIndex}
use Rattle.model.proofs.Lists.{get_d_map}
use Rattle.model.proofs.buckets.Renamed.{renamed_append}
use Rattle.model.proofs.buckets.Below.{below_take}
use Rattle.model.proofs.buckets.IndexBytes.{index_count}
use Rattle.model.proofs.buckets.Index.{index_rises}

-- of the entries below an element as many are kept as of those before its place
below_kept : (x : Element) (b : Bucket) (p q : Key) → entries_rise b ≡ true
    → length (TranslateBucket (entries_below x b) p q) ≡ length (TranslateBucket (take (length (entries_below x b)) b) p q)
below_kept x b p q h = ap (λ (a : Bucket). length (TranslateBucket a p q)) (below_take x b h)

-- the translated index has for each place of the old one the number of entries before it that are kept
pub translated_index : (pt : PivotTable) (b : Bucket) (p q : Key) → entries_rise b ≡ true
    → TranslateIndex pt b p q ≡ map (λ (n : ℕ). length (TranslateBucket (take n b) p q)) (Index pt b)
unfolding TranslateIndex Index
translated_index [] b p q h = refl
translated_index (x ∷ pt) b p q h =
    rw (below_kept x b p q h) (ap (◌∷◌ (length (TranslateBucket (take (length (entries_below x b)) b) p q))) (translated_index pt b p q h))

translated_at : (pt : PivotTable) (b : Bucket) (p q : Key) (i : ℕ) → entries_rise b ≡ true → i < length pt
    → place_at (TranslateIndex pt b p q) i ≡ length (TranslateBucket (take (place_at (Index pt b) i) b) p q)
translated_at pt b p q i h l =
    rw (translated_index pt b p q h) (get_d_map (λ (n : ℕ). length (TranslateBucket (take n b) p q)) (Index pt b) i 0 0 (omega (arith, index_count pt b)))

-- up to a later place as many more are kept as are between the two
translated_step : (b : Bucket) (p q : Key) (m n : ℕ) → m ≤ n
    → length (TranslateBucket (take n b) p q) ≡ length (TranslateBucket (take m b) p q) + length (TranslateBucket (take (n - m) (drop m b)) p q)
translated_step b p q m n h =
    let e : n ≡ m + (n - m) = omega arith in
    ap (λ (k : ℕ). length (TranslateBucket (take k b) p q)) e
    ∙ rw (take-add m (n - m) b, renamed_append p q (take m b) (take (n - m) (drop m b)), length-append)

-- the translated places rise, weakly
pub translated_rises : (pt : PivotTable) (b : Bucket) (p q : Key) → entries_rise b ≡ true → IsStrictlySorted pt ≡ true → (i j : ℕ) → i ≤ j → j < length pt
    → place_at (TranslateIndex pt b p q) i ≤ place_at (TranslateIndex pt b p q) j
translated_rises pt b p q r s i j h l =
    let m = place_at (Index pt b) i in
    let n = place_at (Index pt b) j in
    let e = translated_step b p q m n (index_rises pt b s i j h l) in
    omega (arith, translated_at pt b p q i r (omega arith), translated_at pt b p q j r l)
