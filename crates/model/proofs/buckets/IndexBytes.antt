-- An index as bytes: two for each place, which read back.
use mathlib.Core.Path.{◌≡◌, refl, ◌∙◌}
use mathlib.Core.Bool.{Bool, true}
use mathlib.Core.List.{List, [], ◌∷◌}
use Prim.Native.Nat.{ℕ, ◌*◌, ◌/◌, ◌<◌}
use native.Mathlib.Omega.{arith}
use lib.ListN.{length, take, drop, length-map}
use Rattle.model.specs.keys.Key.{Bytes}
use Rattle.model.specs.keys.Order.{Element}
use Rattle.model.specs.records.Record.{length_field, pieces}
use Rattle.model.specs.tables.Tables.{PivotTable, all, pivot_at}
use Rattle.model.specs.buckets.Bucket.{Bucket}
use Rattle.model.specs.buckets.Index.{entries_below, Index, place_at, place_size, encode_place, encode_index, places}
use Rattle.model.proofs.Lists.{get_d_map}
use Rattle.model.proofs.keys.Key.{bytes_take, bytes_drop}
use Rattle.model.proofs.records.Records.{length_joined, read_joined, piece_at, length_pieces}

-- any number is a place
abbrev pub a_place : ℕ → Bool
a_place n = true

pub all_places : (ns : List ℕ) → all a_place ns ≡ true
unfolding all
all_places [] = refl
all_places (n ∷ ns) = all_places ns

-- a place has two bytes
pub length_place : (n : ℕ) → a_place n ≡ true → length (encode_place n) ≡ place_size
unfolding encode_place
length_place n h = refl

-- a place reads back
pub place_encode : (n : ℕ) → a_place n ≡ true → length_field (encode_place n) ≡ n
unfolding encode_place length_field
place_encode n h = omega arith

-- an index has two for each
pub length-encode_index : (ns : List ℕ) → length (encode_index ns) ≡ length ns * place_size
unfolding encode_index
length-encode_index ns = length_joined place_size a_place encode_place length_place ns (all_places ns)

-- an index reads back
pub places-encode_index : (ns : List ℕ) → places (encode_index ns) ≡ ns
unfolding places encode_index
places-encode_index ns = read_joined place_size a_place encode_place length_place length_field place_encode (omega arith) ns (all_places ns)

-- two bytes say a number below 65536
field_small : (r : List ℕ) → Bytes r → length_field r < 65536
unfolding length_field
field_small [] b = omega arith
field_small (a ∷ []) b = omega (arith, b.0)
field_small (a ∷ c ∷ r) b = omega (arith, b.0, b.1.0)

module _ (x : List ℕ) where
  -- bytes hold a place for each two of them
  pub length_places : length (places x) ≡ length x / place_size
  unfolding places
  length_places = length-map (pieces place_size (length x / place_size) x) length_field ∙ length_pieces place_size (length x / place_size) x

  -- each below 65536
  pub place_small : (i : ℕ) → i < length x / place_size → Bytes x → place_at (places x) i < 65536
  unfolding places
  place_small i h b =
      let n = length_pieces place_size (length x / place_size) x in
      rw (get_d_map length_field (pieces place_size (length x / place_size) x) i 0 [] (omega arith), piece_at place_size (length x / place_size) i x h)
      (field_small (take place_size (drop (i * place_size) x)) (bytes_take place_size (drop (i * place_size) x) (bytes_drop (i * place_size) x b)))

-- ---- the index of a table and a bucket

-- it has a place for each pivot
pub index_count : (pt : PivotTable) (b : Bucket) → length (Index pt b) ≡ length pt
unfolding Index
index_count pt b = length-map pt (λ (p : Element). length (entries_below p b))

-- the number of entries below it
pub index_at : (pt : PivotTable) (b : Bucket) (i : ℕ) → i < length pt → place_at (Index pt b) i ≡ length (entries_below (pivot_at pt i) b)
unfolding Index
index_at pt b i h = get_d_map (λ (p : Element). length (entries_below p b)) pt i 0 _ h
