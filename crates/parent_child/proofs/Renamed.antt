-- The bounds of a slot under its edge, made as two records: of the causes of the change only 8 may apply.
use Rattle.std.specs.Prelude.{Result, Ok, Err}
use mathlib.Core.Path.{◌≡◌, refl, sym, ap, ◌∙◌}
use mathlib.Core.Bool.{Bool, true, false}
use mathlib.Core.List.{List, [], append-nil}
use Prim.Native.Nat.{ℕ, ◌*◌, ◌/◌, ◌≤◌}
use native.Mathlib.Omega.{arith}
use borrow.Author.Tests.{eq-eqb, le-ltb, not-false}
use lib.ListN.{length, take, drop_of_length-le}
use Rattle.model.specs.declared.Refusal.{Refusal}
use Rattle.model.specs.declared.Refusal.TheVariants.{TooLong}
use Rattle.model.specs.keys.Key.{max_len, IsPrefix}
use Rattle.model.specs.keys.Order.{key, lte}
use Rattle.model.specs.records.Record.{record_size, key_bytes, element, elements, encode_all}
use Rattle.model.specs.inner.Places.{record_at}
use Rattle.model.specs.ranges.RangePrefix.{PivotLcp}
use Rattle.model.specs.tables.Tables.{all, short_element, ContainsRange}
use Rattle.model.specs.translation.Renaming.{Bounds}
use Rattle.model.specs.translation.ParentChild.{bounds_under}
use Rattle.model.specs.calls.Refusals.{outcome, answer, over}
use Rattle.model.specs.calls.RenamingCalls.{new_bounds, both_bounds, long_bounds, pivot_pair_causes, pivot_pair_answer, pivot_pair_leaves}
use Rattle.model.proofs.keys.Key.{both, prefix_length, prefix_is_take}
use Rattle.model.proofs.keys.Order.{lt_false}
use Rattle.model.proofs.records.Records.{length-encode_all, elements-encode_all}
use Rattle.model.proofs.ranges.RangePrefix.{prefix_of_left}
use Rattle.model.proofs.calls.Refusals.{refused_by, passed, none_here, accepted, refused}
use Rattle.model.proofs.calls.TableCalls.{not_too_long, element_at}
use Rattle.parent_child.specs.Under.{Slot, new_range, long_range_causes}

-- ---- bounds that are written over as many bytes

module _ (b : Bounds) (h : long_bounds b ≡ false) (d w : List ℕ) (z : length d ≡ 132) (e : w ≡ over (encode_all (both_bounds b)) d) where
  -- both are short
  short : all short_element (both_bounds b) ≡ true
  unfolding all
  short = let s = both (short_element b.left) (short_element b.right) (not-false _ h) in rw (s.0, s.1)

  -- they have 132 bytes
  size : length (encode_all (both_bounds b)) ≡ 132
  size = length-encode_all (both_bounds b) short

  -- which are all that is left
  whole : w ≡ encode_all (both_bounds b)
  unfolding over
  whole =
      let l : length d ≤ length (encode_all (both_bounds b)) = omega (arith, size) in
      e ∙ rw (drop_of_length-le d l, append-nil)

  -- two records
  count : length w / record_size ≡ 2
  count = omega (arith, ap length whole, size)

  -- that stand for the bounds
  read : elements w ≡ both_bounds b
  read = rw whole (elements-encode_all (both_bounds b) short)

  -- the first for the left one
  left_read : element (record_at w 0) ≡ b.left
  left_read = rw (← element_at w 0 (omega (arith, count)), read)

  -- the second for the right one
  right_read : element (record_at w 1) ≡ b.right
  right_read = rw (← element_at w 1 (omega (arith, count)), read)

-- ---- the change of a slot's prefix to its edge

module _ (l r x k q d : List ℕ) (n : ℕ) (a : Result ℕ Refusal) (e : a ≡ pivot_pair_answer k r (take n k) q d) (f : k ≡ key_bytes l)
    (g : n ≡ length (PivotLcp (key k) (element r))) (h : q ≡ key_bytes x) (s : Slot l r x) (z : length d ≡ 132) where
  -- the prefix is the range's
  prefix : take n k ≡ PivotLcp (key k) (element r)
  prefix = rw g (prefix_is_take (PivotLcp (key k) (element r)) k (prefix_of_left k (element r)))

  -- the left pivot begins with it
  begins : IsPrefix (take n k) k ≡ true
  begins = rw prefix (prefix_of_left k (element r))

  -- the bounds are the slot's
  bounds : new_bounds k r (take n k) q ≡ new_range l r x
  unfolding new_range bounds_under
  bounds = rw (prefix, f, h)

  -- and is short
  left_short : length k ≤ max_len
  left_short = rw f s.left

  -- only 8 may apply
  only_long : {A : Type 0} (t : Refusal → A) (v : A) → outcome t (pivot_pair_causes k r (take n k) q d) v ≡ outcome t (long_range_causes (new_range l r x)) v
  unfolding outcome
  only_long t v =
      let p : length (take n k) ≤ max_len = omega (arith, left_short, prefix_length (take n k) k begins) in
      let u : length q ≤ max_len = rw h s.edge in
      let m : 2 * record_size ≤ length d = omega arith in
      let y : lte (element r) (key k) ≡ false = lt_false (key k) (element r) (rw f s.rises) in
      rw (
        bounds,
        eq-eqb (length r) record_size s.size,
        not_too_long k left_short,
        s.right,
        not_too_long (take n k) p,
        not_too_long q u,
        begins,
        y,
        le-ltb (length d) 132 m,
      )

  -- so it alone makes the answer
  made : a ≡ answer (long_range_causes (new_range l r x)) 2
  made = e ∙ only_long Err (Ok 2)

  -- its refusal is handed on
  pub long_told : (y : Refusal) (v : Bool) (z : Result Bool Refusal) → a ≡ Err y → z ≡ Err y → z ≡ answer (long_range_causes (new_range l r x)) v
  long_told y v z i o = refused_by Err (Ok v) z _ y (refused (long_range_causes (new_range l r x)) 2 a made y i) o

  -- else the new bounds stand in the two records
  pub short_told : (c w : List ℕ) (m : ℕ) (y : Bool) → y ≡ ContainsRange (elements c) (element (record_at w 0)) (element (record_at w 1))
      → w ≡ pivot_pair_leaves k r (take n k) q d → a ≡ Ok m
      → Ok y ≡ answer (long_range_causes (new_range l r x)) (ContainsRange (elements c) (new_range l r x).left (new_range l r x).right)
  short_told c w m y o j i =
      let none_long = accepted (long_range_causes (new_range l r x)) 2 a made m i in
      let short-both = none_here (long_bounds (new_range l r x)) TooLong [] none_long in
      let old = over (encode_all (both_bounds (new_bounds k r (take n k) q))) d in
      let leaves-old : w ≡ old = j ∙ only_long (λ (_ : Refusal). d) old ∙ sym (passed (λ (_ : Refusal). d) old old (long_range_causes (new_range l r x)) none_long refl) in
      let leaves-both : w ≡ over (encode_all (both_bounds (new_range l r x))) d = leaves-old ∙ ap (λ (b : Bounds). over (encode_all (both_bounds b)) d) bounds in
      passed Err _ (Ok y) _ none_long
      (ap Ok (rw (left_read (new_range l r x) short-both d w z leaves-both, right_read (new_range l r x) short-both d w z leaves-both) at o))
