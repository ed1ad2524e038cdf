-- What is read of a pair's record.
use mathlib.Core.Path.{◌≡◌, sym, ◌∙◌}
use mathlib.Core.Bool.{true, false}
use mathlib.Core.List.{List, append-nil}
use mathlib.Core.Option.{none}
use Prim.Native.Nat.{ℕ, ◌+◌, ◌-◌, ◌≤◌, ◌<◌}
use native.Mathlib.Omega.{arith}
use borrow.Author.Tests.{ne_eqb, le-ltb, lt-ltb}
use lib.Dec.{eqb}
use lib.ListN.{length, take, drop, get_or, length-drop}
use lib.Seq.{length-take-le, take_all}
use Rattle.model.specs.keys.Key.{max_len}
use Rattle.model.specs.records.Record.{length_field, padded}
use Rattle.model.specs.inner.Written.{clipped}
use Rattle.model.specs.translation.PairState.{PairState, not_pair, state_of}
use Rattle.model.specs.translation.PairRecord.{head_size, pair_size, state_at, wrong_pair}
use Rattle.model.specs.calls.PairRecordCalls.{not_pair_size}
use Rattle.model.proofs.Lists.{rest, clipped_all}
use Rattle.pair_bytes.specs.Placed.{state_read}

-- 64 bytes need no zeros
padded_whole : (k : List ℕ) → length k ≡ 64 → padded (clipped k) ≡ k
padded_whole k h =
    let i : length k ≤ 64 = omega arith in
    let e : 64 - length k ≡ 0 = omega arith in
    rw (clipped_all k i, e, append-nil)

module _ (b : List ℕ) (h : length b ≡ pair_size) where
  -- it is of the right size
  pub sized : not_pair_size b ≡ false
  sized = rw h

  -- so that its state is read
  pub record_read : state_read b ≡ state_at b
  unfolding state_read
  record_read = rw sized

  -- the fields of a record
  pub read_is : (x y n m : ℕ) (v w : List ℕ) → x ≡ length_field (take (length b - 1) (drop 1 b)) → n ≡ x
      → y ≡ length_field (take (length b - 3) (drop 3 b)) → m ≡ y → v ≡ padded (clipped (take max_len (drop head_size b)))
      → w ≡ padded (clipped (take (length b - (head_size + max_len)) (drop (head_size + max_len) b)))
      → ◌≡◌ {A = PairState} (record { there = eqb (get_or b 0 0) 1; old_length = n; new_length = m; old_bytes = v; new_bytes = w }) (state_read b)
  unfolding state_at
  read_is x y n m v w e f g i j k =
      let p : length (take 64 (drop 5 b)) ≡ 64 = length-take-le 64 (drop 5 b) (omega (arith, length-drop 5 b)) in
      let q : length (drop 69 b) ≡ 64 = omega (arith, length-drop 69 b) in
      let u : drop 69 b ≡ take 64 (drop 69 b) = sym (take_all 64 (drop 69 b) (omega arith)) in
      let s : v ≡ take 64 (drop 5 b) = j ∙ padded_whole (take 64 (drop 5 b)) p in
      let t : w ≡ take 64 (drop 69 b) = k ∙ rw rest (padded_whole (drop 69 b) q ∙ u) in
      let c : n ≡ length_field (drop 1 b) = f ∙ e ∙ rw rest in
      let d : m ≡ length_field (drop 3 b) = i ∙ g ∙ rw rest in
      let z = record_read in
      cc

-- a slice of another size holds no pair
pub read_absent : (b : List ℕ) (s : PairState) → (length b ≡ pair_size → ⊥) → s ≡ state_of none → s ≡ state_read b
unfolding state_read
read_absent b s h e = rw (ne_eqb (length b) pair_size h) e

-- with a flag of 0 or 1 the state alone says whether a record is malformed
pub flagged : (b : List ℕ) → get_or b 0 0 ≤ 1 → wrong_pair b ≡ not_pair (state_at b)
unfolding wrong_pair
flagged b h = rw (le-ltb 1 (get_or b 0 0) h)

-- any other flag does
pub wrong_flag : (b : List ℕ) → 1 < get_or b 0 0 → wrong_pair b ≡ true
unfolding wrong_pair
wrong_flag b h = rw (lt-ltb 1 (get_or b 0 0) h)
