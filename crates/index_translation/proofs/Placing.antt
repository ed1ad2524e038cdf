-- The pass over an index that writes the new one: for each place how many entries before it are kept.
use mathlib.Core.Path.{◌≡◌, refl, sym, ◌∙◌}
use mathlib.Core.List.{List}
use Prim.Native.Nat.{ℕ, ◌+◌, ◌*◌, ◌-◌, ◌/◌, ◌≤◌, ◌<◌}
use native.Mathlib.Omega.{arith}
use borrow.Rule.Slice.PartMut.{put_mid}
use lib.ListN.{length, take, drop, get_or, length-map, length-drop}
use lib.Seq.{length-take-le}
use mir.Syntax.{w16, w64}
use mir.Val.{Fits}
use Rattle.model.specs.keys.Key.{Key}
use Rattle.model.specs.inner.Written.{into}
use Rattle.model.specs.buckets.Bucket.{entry_size, max_entries}
use Rattle.model.specs.buckets.Index.{place_at, place_size, encode_place, encode_index, places}
use Rattle.model.specs.calls.Refusals.{over}
use Rattle.model.proofs.Lists.{get_d_map, rest, into_over, length_over}
use Rattle.model.proofs.records.InTurn.{turn_start, turn_next, turn_end}
use Rattle.model.proofs.buckets.IndexBytes.{a_place, all_places, length_place, length-encode_index}
use Rattle.model.proofs.buckets.IndexBytes.{length_places}
use Rattle.index_translation.specs.Kept.{kept_before, new_places, Placed}
use Rattle.index_translation.proofs.Counting.{kept_none, kept_most}

-- the places before i are passed, the last of them `from`, before which `kept` entries are kept
pub record Placing (l : List ℕ) (p : Key) (x d₀ d : List ℕ) (i from kept : ℕ) : Type 0 where
  pub within : i ≤ length x / place_size
  pub long : length d ≡ length d₀
  pub ahead : (j : ℕ) → i ≤ j → j < length x / place_size → from ≤ place_at (places x) j
  pub inside : from ≤ length l / entry_size
  pub counted : kept ≡ kept_before l p from
  pub bytes : d ≡ over (encode_index (take i (new_places l p x))) d₀

module _ (l : List ℕ) (p : Key) (x : List ℕ) where
  -- there are as many new places as old ones
  length_new : length (new_places l p x) ≡ length x / place_size
  length_new = length-map (places x) (kept_before l p) ∙ length_places x

  -- each the number of entries before the old one that are kept
  new_at : (i : ℕ) → i < length x / place_size → get_or (new_places l p x) i 0 ≡ kept_before l p (place_at (places x) i)
  new_at i h = get_d_map (kept_before l p) (places x) i 0 0 (omega (arith, length_places x))

  module _ (d₀ : List ℕ) (o : Placed l x) (r : length x ≤ length d₀) where
    -- at first nothing is written
    pub place_start : Placing l p x d₀ d₀ 0 0 0
    place_start =
        record {
          within = omega arith;
          long = refl;
          ahead = λ j _ _. omega arith;
          inside = omega arith;
          counted = sym (kept_none l p);
          bytes = unfold encode_index in turn_start encode_place (new_places l p x) d₀;
        }

    module _ (d : List ℕ) (i from kept : ℕ) (w : Placing l p x d₀ d i from kept) where
      -- at the end every place is
      pub place_end : length x / place_size ≤ i → d ≡ over (encode_index (new_places l p x)) d₀
      place_end h = unfold encode_index in turn_end encode_place (new_places l p x) i d₀ d (omega (arith, length_new)) (unfold encode_index in w.bytes)

      module _ (h : i < length x / place_size) (to : ℕ) (e : to ≡ place_at (places x) i) where
        -- the next place is no earlier
        pub place_after : from ≤ to
        place_after = rw e (w.ahead i (omega arith) h)

        -- and inside the bucket
        pub place_inside : to ≤ length l / entry_size
        place_inside = rw e (o.inside i h)

        module _ (n : ℕ) (g : kept_before l p from + n ≡ kept_before l p to) where
          kept_here : kept + n ≡ kept_before l p to
          kept_here = omega (arith, w.counted)

          kept_few : kept + n ≤ max_entries
          kept_few = omega (arith, kept_here, kept_most l p to place_inside, place_inside, o.most)

          -- the new place is a number of the code, and of two bytes
          pub place_fits : Fits w64 (kept + n)
          place_fits = record { fits = omega (arith, kept_few) }

          pub place_narrow : Fits w16 (kept + n)
          place_narrow = record { fits = omega (arith, kept_few) }

          module _ (v : List ℕ) (f : v ≡ into (encode_place (kept + n)) (take (length d - i * place_size) (drop (i * place_size) d))) where
            -- there is room for it
            place_over : v ≡ over (encode_place (get_or (new_places l p x) i 0)) (take (length d - i * place_size) (drop (i * place_size) d))
            place_over =
                let s : length (take (length d - i * place_size) (drop (i * place_size) d)) ≡ length d - i * place_size = rw (rest, length-drop) in
                let z = into_over (encode_place (kept + n)) (take (length d - i * place_size) (drop (i * place_size) d)) (omega (arith, length_place (kept + n) refl, w.long)) in
                rw (new_at i h, ← e, ← kept_here) (f ∙ z)

            place_bytes : put_mid (i * place_size) (length d - i * place_size) d v ≡ over (encode_index (take (i + 1) (new_places l p x))) d₀
            place_bytes =
                unfold encode_index in
                turn_next encode_place (new_places l p x) place_size a_place length_place (all_places (new_places l p x)) i (omega (arith, length_new)) 0 d₀ d v
                (unfold encode_index in w.bytes) place_over

            -- it is written at its place
            pub place_turn : Placing l p x d₀ (put_mid (i * place_size) (length d - i * place_size) d v) (i + 1) to (kept + n)
            place_turn =
                let s : length (encode_index (take (i + 1) (new_places l p x))) ≤ length d₀ =
                rw (length-encode_index (take (i + 1) (new_places l p x)), length-take-le (i + 1) (new_places l p x) (omega (arith, length_new))) (omega arith) in
                record {
                  within = omega arith;
                  long = rw place_bytes (length_over (encode_index (take (i + 1) (new_places l p x))) d₀ s);
                  ahead = λ j a b. rw e (o.rise i j (omega arith) b);
                  inside = place_inside;
                  counted = kept_here;
                  bytes = place_bytes;
                }
