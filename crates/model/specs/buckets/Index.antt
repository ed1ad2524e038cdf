-- An index beside a bucket whose entries rise: the place where the entries of each slot begin, and the total (W5).
use Rattle.std.specs.Prelude.{Bool, true, false, cond, not, List, [], ◌∷◌, ◌++◌, map, ℕ, zero, suc, ◌+◌, ◌-◌, ◌/◌, ◌%◌, length, take, drop, get_or}
use Rattle.model.specs.keys.Key.{Key}
use Rattle.model.specs.keys.Order.{Element, key, lt}
use Rattle.model.specs.records.Record.{length_field, pieces, joined}
use Rattle.model.specs.tables.Tables.{PivotTable, NumBuckets}
use Rattle.model.specs.buckets.Bucket.{Entry, Bucket, TranslateBucket}

-- the entries that pass a test, in order
unfoldable pub only : (Entry → Bool) → Bucket → Bucket
only test [] = []
only test (e ∷ b) = cond (test e) (e ∷ only test b) (only test b)

-- "whose key is below it"
abbrev pub is_below : Element → Entry → Bool
is_below p e = lt (key e.key) p

-- the entries below an element, and those that aren't
unfoldable pub entries_below : Element → Bucket → Bucket
entries_below p b = only (is_below p) b

unfoldable pub entries_from : Element → Bucket → Bucket
entries_from p b = only (λ (e : Entry). not (is_below p e)) b

-- "the entries on its side of the key": the first argument says whether the left is meant
abbrev pub entries_beside : Bool → Key → Bucket → Bucket
entries_beside true k b = entries_below (key k) b
entries_beside false k b = entries_from (key k) b

-- ---- the index

-- "for each slot, the place of its first entry, and the total at the end": for each pivot the number of entries whose key is below it
unfoldable pub Index : PivotTable → Bucket → List ℕ
Index pt b = map (λ (p : Element). length (entries_below p b)) pt

-- the place of a slot; asked only inside the index
abbrev pub place_at : List ℕ → ℕ → ℕ
place_at ns i = get_or ns i 0

-- "A shelf's drawer is the part of the bucket between two places"
unfoldable pub slot_entries : PivotTable → Bucket → ℕ → Bucket
slot_entries pt b i = take (place_at (Index pt b) (i + 1) - place_at (Index pt b) i) (drop (place_at (Index pt b) i) b)

-- ---- the slots' entries as a list of buckets, the source's BucketList

-- those of n slots, from slot i on
unfoldable pub slots_from : PivotTable → Bucket → ℕ → ℕ → List Bucket
slots_from pt b i zero = []
slots_from pt b i (suc n) = slot_entries pt b i ∷ slots_from pt b (suc i) n

-- one for each slot
unfoldable pub slot_buckets : PivotTable → Bucket → List Bucket
slot_buckets pt b = slots_from pt b 0 (NumBuckets pt)

-- buckets one after the other in one
unfoldable pub together : List Bucket → Bucket
together [] = []
together (b ∷ blist) = b ++ together blist

-- the places where each then begins, the first at n, and the total
unfoldable pub places_from : ℕ → List Bucket → List ℕ
places_from n [] = n ∷ []
places_from n (b ∷ blist) = n ∷ places_from (n + length b) blist

-- "translate all drawers in turn .. into one bucket, with the places where each then begins and the total": for each pivot the number of entries below it that are kept
unfoldable pub TranslateIndex : PivotTable → Bucket → Key → Key → List ℕ
TranslateIndex pt b p q = map (λ (x : Element). length (TranslateBucket (entries_below x b) p q)) pt

-- ---- as bytes

-- "two bytes each, high byte first"
abbrev pub place_size : ℕ
place_size = 2

unfoldable pub encode_place : ℕ → List ℕ
encode_place n = n / 256 ∷ n % 256 ∷ []

unfoldable pub encode_index : List ℕ → List ℕ
encode_index ns = joined (map encode_place ns)

-- the places that the bytes of an index say
unfoldable pub places : List ℕ → List ℕ
places x = map length_field (pieces place_size (length x / place_size) x)
