-- The pass over pivots and entries together: what is written so far, and that no entry is passed over.
use mathlib.Core.Path.{◌≡◌, refl, sym, ◌∙◌}
use mathlib.Core.Bool.{false}
use mathlib.Core.List.{List, []}
use Prim.Native.Nat.{ℕ, ◌+◌, ◌*◌, ◌-◌, ◌/◌, ◌≤◌, ◌<◌}
use native.Mathlib.Omega.{arith}
use borrow.Rule.Slice.PartMut.{put_mid}
use lib.ListN.{length, take, drop, length-append, length-drop}
use lib.Seq.{length-take-le}
use mir.Syntax.{w16}
use mir.Val.{Fits}
use Rattle.model.specs.records.Record.{reading, element_reading, records, element, elements}
use Rattle.model.specs.tables.Tables.{pivot_at}
use Rattle.model.specs.inner.Places.{record_at}
use Rattle.model.specs.inner.Written.{into}
use Rattle.model.specs.buckets.Bucket.{entries}
use Rattle.model.specs.buckets.Index.{entries_below, Index, place_at, encode_place, encode_index}
use Rattle.model.specs.calls.Refusals.{over}
use Rattle.model.specs.calls.IndexCalls.{index_bytes}
use Rattle.model.proofs.Lists.{all_inside, into_over, length_over, lent_on, rest}
use Rattle.model.proofs.records.InTurn.{written, turn_start, turn_end, turn_next}
use Rattle.model.proofs.tables.Places.{sorted_lte}
use Rattle.model.proofs.tables.Routing.{wf_count, wf_sorted}
use Rattle.model.proofs.calls.TableCalls.{length_records, length_elements, record_length, element_at, causes_read, read_elements, causes_wf}
use Rattle.model.proofs.calls.BucketCalls.{bucket_most, bucket_count}
use Rattle.model.proofs.buckets.Below.{below_most}
use Rattle.model.proofs.buckets.Index.{below_rises}
use Rattle.model.proofs.buckets.IndexBytes.{a_place, all_places, length_place, index_count, index_at}
use Rattle.keys.specs.Padded.{Padded}
use Rattle.entry_order.specs.Rising.{Rising, CheckedBoth}

-- the places before i are written, and no entry that is passed is at or behind the pivot i
pub record Merged (p l d₀ d : List ℕ) (below i : ℕ) : Type 0 where
  pub within : i ≤ length p / 66
  pub long : length d ≡ length d₀
  pub near : i < length p / 66 → below ≤ length (entries_below (pivot_at (elements p) i) (entries l))
  pub bytes : d ≡ over (written encode_place (Index (elements p) (entries l)) i) d₀

-- a pass that ends one pivot early has each step's facts, so what it doesn't have is the end
pub sooner : (i n : ℕ) → i < n → i < n + 1
sooner i n h = omega arith

-- a checked bucket rises
pub checked_rising : (p l : List ℕ) → CheckedBoth p l → Rising l
checked_rising p l h = h.bucket

module _ (p l d₀ : List ℕ) (h : CheckedBoth p l) (m : length (elements p) * 2 ≤ length d₀) where
  count : length (Index (elements p) (entries l)) ≡ length p / 66
  count = index_count (elements p) (entries l) ∙ length_elements p

  -- there is a pivot
  pub some_pivot : 1 ≤ length p / 66
  some_pivot = omega (arith, length_elements p, wf_count (elements p) (causes_wf false false p h.pivots))

  pub merge_start : Merged p l d₀ d₀ 0 0
  merge_start = record { within = omega arith; long = refl; near = λ k. omega arith; bytes = turn_start encode_place (Index (elements p) (entries l)) d₀ }

  module _ (d : List ℕ) (below i : ℕ) (w : Merged p l d₀ d below i) where
    -- at the end the index is written
    pub merge_end : length p / 66 - 1 + 1 ≤ i → d ≡ over (index_bytes p l) d₀
    unfolding encode_index
    merge_end k = turn_end encode_place (Index (elements p) (entries l)) i d₀ d (omega (arith, count)) w.bytes

    module _ (j : i < length p / 66 - 1 + 1) where
      k : i < length p / 66
      k = omega (arith, some_pivot)

      -- the next place has room
      pub place_room : i * 2 ≤ length d
      place_room = omega (arith, k, w.long, length_elements p)

      module _ (r : List ℕ) (g : r ≡ record_at p i) where
        pub pivot_padded : Padded r
        pivot_padded =
            rw g
            (record_length p i k, all_inside (λ (x : List ℕ). element_reading (reading x)) (records p) i [] (omega (arith, k, length_records p)) (read_elements (records p) (causes_read false false p h.pivots)))

        same : element r ≡ pivot_at (elements p) i
        same = rw (g, element_at p i k)

        -- the entries passed are below it
        pub still_below : below ≤ length (entries_below (element r) (entries l))
        still_below = rw same (w.near k)

        module _ (n : ℕ) (e : n ≡ length (entries_below (element r) (entries l))) where
          -- a place is at most 512
          pub place_most : n ≤ 512
          place_most =
              omega (arith, below_most (element r) (entries l), bucket_most false l h.bucket.read, bucket_count false l h.bucket.read)

          pub place_fits : Fits w16 n
          place_fits = record { fits = omega (arith, place_most) }

          -- it is written, and no entry below the next pivot is passed over
          pub merge_next : (v : List ℕ) → v ≡ into (encode_place n) (take (length d - i * 2) (drop (i * 2) d))
              → Merged p l d₀ (put_mid (i * 2) (length d - i * 2) d v) n (i + 1)
          merge_next v f =
              let c = length_elements p in
              let o : i < length p / 66 = k in
              let q : place_at (Index (elements p) (entries l)) i ≡ n = index_at (elements p) (entries l) i (omega arith) ∙ (rw same at (sym e)) in
              let z : 2 ≤ length (take (length d - i * 2) (drop (i * 2) d)) = rw (rest, length-drop) (omega (arith, w.long, m)) in
              let u : v ≡ over (encode_place n) (take (length d - i * 2) (drop (i * 2) d)) = f ∙ into_over (encode_place n) (take (length d - i * 2) (drop (i * 2) d)) (omega (arith, z, length_place n refl)) in
              record {
                within = omega arith;
                long = rw (lent_on, u, length-append, length_over (encode_place n) (take (length d - i * 2) (drop (i * 2) d)) (omega (arith, z, length_place n refl)), rest, length-drop, length-take-le (i * 2) d place_room) (omega (arith, w.long, place_room));
                near = λ u'. rw (e, same) (below_rises (pivot_at (elements p) i) (pivot_at (elements p) (i + 1)) (sorted_lte (elements p) i (i + 1) (wf_sorted (elements p) (causes_wf false false p h.pivots)) (omega arith) (omega arith)) (entries l));
                bytes = turn_next encode_place (Index (elements p) (entries l)) 2 a_place length_place (all_places (Index (elements p) (entries l))) i (omega (arith, count)) 0 d₀ d v w.bytes (rw q u);
              }
