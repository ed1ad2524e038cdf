-- The places of an index on one side of a cut, written one after the other.
use mathlib.Core.Path.{◌≡◌, refl, sym, ap, ◌∙◌}
use mathlib.Core.Bool.{Bool, true, false}
use mathlib.Core.List.{List, map}
use Prim.Native.Nat.{ℕ, ◌+◌, ◌*◌, ◌-◌, ◌/◌, ◌≤◌, ◌<◌, min}
use native.Mathlib.Omega.{arith}
use mir.Syntax.{w8, w16}
use mir.Val.{Fits}
use lib.ListN.{length, take, drop, get_or, length-map, length-drop}
use borrow.Rule.Slice.PartMut.{put_mid}
use Rattle.model.specs.inner.Written.{into}
use Rattle.model.specs.buckets.Index.{place_at, place_size, encode_place, encode_index, places}
use Rattle.model.specs.calls.Refusals.{over}
use Rattle.model.proofs.Lists.{rest, into_over, get_d_map}
use Rattle.model.proofs.keys.Key.{bytes_of}
use Rattle.model.proofs.records.InTurn.{turn_start, turn_next, turn_end}
use Rattle.model.proofs.buckets.IndexBytes.{a_place, all_places, length_place}
use Rattle.model.proofs.buckets.IndexBytes.{length_places, place_small}
use Rattle.index_writes.specs.Beside.{place_beside}

module _ (left : Bool) (m n w : ℕ) (e : w ≡ min m n) where
  pub place_left : left ≡ true → w ≡ place_beside left n m
  place_left h = rw h e

  pub place_right : left ≡ false → m - w ≡ place_beside left n m
  place_right h = rw h (omega arith)

module _ (left : Bool) (n : ℕ) (x : List ℕ) where
  abbrev pub places_beside : List ℕ
  places_beside = map (place_beside left n) (places x)

  beside_count : length places_beside ≡ length x / place_size
  beside_count = length-map (places x) (place_beside left n) ∙ length_places x

  -- a place fits its two bytes
  pub place_fits : (i m z : ℕ) → ((j : ℕ) → Fits w8 (get_or x j 0)) → i < length x / 2 → m ≡ place_at (places x) i → z ≤ m → Fits w16 z
  place_fits i m z b h e g = record { fits = omega (arith, place_small x i h (bytes_of x b)) }

  -- at first nothing is written
  pub places_start : (d : List ℕ) → d ≡ over (encode_index (take 0 places_beside)) d
  unfolding encode_index
  places_start d = turn_start encode_place places_beside d

  -- one place more
  pub places_next : (i m z : ℕ) (d v w : List ℕ) → i < length x / 2 → length x ≤ length d → length v ≡ length d → m ≡ place_at (places x) i → z ≡ place_beside left n m
      → v ≡ over (encode_index (take i places_beside)) d → w ≡ into (encode_place z) (take (length v - i * 2) (drop (i * 2) v))
      → put_mid (i * 2) (length v - i * 2) v w ≡ over (encode_index (take (i + 1) places_beside)) d
  unfolding encode_index
  places_next i m z d v w h k s e f g u =
      turn_next encode_place places_beside place_size a_place length_place (all_places places_beside) i (omega (arith, beside_count)) 0 d v w g
      (u ∙ into_over (encode_place z) (take (length v - i * 2) (drop (i * 2) v)) room ∙ rw value)
    where
      room : length (encode_place z) ≤ length (take (length v - i * 2) (drop (i * 2) v))
      room = rw rest (omega (arith, length_place z refl, length-drop (i * 2) v))

      value : z ≡ get_or places_beside i 0
      value = f ∙ ap (place_beside left n) e ∙ sym (get_d_map (place_beside left n) (places x) i 0 0 (omega (arith, length_places x)))

  -- after the last everything is
  pub places_end : (i : ℕ) (d v : List ℕ) → length x / 2 ≤ i → v ≡ over (encode_index (take i places_beside)) d → v ≡ over (encode_index places_beside) d
  unfolding encode_index
  places_end i d v h e = turn_end encode_place places_beside i d v (omega (arith, beside_count)) e
