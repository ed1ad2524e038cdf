-- A pair applied from its record: a change of prefix, by the record's own bytes.
use Rattle.std.specs.Prelude.{Result}
use Rattle.model.specs.declared.Refusal.{Refusal}
use mathlib.Core.Path.{◌≡◌, refl, sym, ◌∙◌}
use mathlib.Core.Bool.{true, false}
use mathlib.Core.List.{List}
use Prim.Native.Nat.{ℕ, ◌+◌, ◌-◌, ◌≤◌, ◌<◌}
use native.Mathlib.Omega.{arith}
use borrow.Author.Tests.{lt-ltb, le-ltb}
use lib.ListN.{length, take, drop, get_or}
use lib.Seq.{take-take}
use Rattle.model.specs.keys.Key.{Key, max_len}
use Rattle.model.specs.records.Record.{length_field}
use Rattle.model.specs.translation.PairState.{not_pair}
use Rattle.model.specs.translation.PairRecord.{head_size, pair_size, state_at, wrong_pair}
use Rattle.model.specs.calls.Refusals.{outcome}
use Rattle.model.specs.calls.KeyCalls.{change_prefix_answer, change_prefix_leaves}
use Rattle.model.specs.calls.PairCalls.{apply_answer, apply_leaves}
use Rattle.model.specs.calls.PairRecordCalls.{apply_pair_answer, apply_pair_leaves}
use Rattle.model.proofs.Lists.{rest}
use Rattle.pairs.proofs.States.{long_old, long_new, not_there}
use Rattle.pairs.proofs.Results.{apply_absent, keep_absent, apply_there, change_there}
use Rattle.pair_bytes.proofs.Reading.{sized, flagged}

-- with a flag of 0 or 1 it is the pair's own call
module _ (b d : List ℕ) (k : Key) (h : length b ≡ pair_size) (i : get_or b 0 0 ≤ 1) where
  answered : (x : Result ℕ Refusal) → x ≡ apply_answer (state_at b) k d → x ≡ apply_pair_answer b k d
  unfolding outcome
  answered x y = rw (sized b h, flagged b i) y

  written : (w : List ℕ) → w ≡ apply_leaves (state_at b) k d → w ≡ apply_pair_leaves b k d
  unfolding outcome
  written w y = rw (sized b h, flagged b i) y

-- with a flag of 0 the pair is absent
module _ (b d : List ℕ) (k : Key) (h : length b ≡ pair_size) (z : get_or b 0 0 ≡ 0) where
  no_pair : (state_at b).there ≡ false
  unfolding state_at
  no_pair = rw z

  pub absent_answered : (x : Result ℕ Refusal) → x ≡ change_prefix_answer k (take 0 k) (take 0 k) d → x ≡ apply_pair_answer b k d
  absent_answered x y =
      answered b d k h (omega arith) x (apply_absent (state_at b) false (not_there (state_at b) no_pair) refl k d (rw no_pair) x y)

  pub absent_written : (w : List ℕ) → w ≡ change_prefix_leaves k (take 0 k) (take 0 k) d → w ≡ apply_pair_leaves b k d
  absent_written w y =
      written b d k h (omega arith) w (keep_absent (state_at b) false (not_there (state_at b) no_pair) refl k d (rw no_pair) w y)

-- with a flag of 1 it is there
module _ (b : List ℕ) (i : get_or b 0 0 ≤ 1) (z : get_or b 0 0 ≡ 0 → ⊥) where
  is_there : (state_at b).there ≡ true
  unfolding state_at
  is_there = let e : get_or b 0 0 ≡ 1 = omega arith in rw e

  module _ (n : ℕ) (e : n ≡ length_field (take (length b - 1) (drop 1 b))) where
    old_length_lem : n ≡ (state_at b).old_length
    unfolding state_at
    old_length_lem = e ∙ rw rest

    -- it is malformed by its first length
    pub wrong_old : 64 < n → wrong_pair b ≡ true
    wrong_old l = flagged b i ∙ sym (long_old (state_at b) is_there (rw old_length_lem at l))

    module _ (m : ℕ) (g : m ≡ length_field (take (length b - 3) (drop 3 b))) (l : n ≤ 64) where
      new_length_lem : m ≡ (state_at b).new_length
      unfolding state_at
      new_length_lem = g ∙ rw rest

      -- or by its second
      pub wrong_new : 64 < m → wrong_pair b ≡ true
      wrong_new o =
          flagged b i
          ∙ sym (long_new (state_at b) true is_there (rw old_length_lem at l) (rw (← new_length_lem) (sym (lt-ltb 64 m o))))

      -- with both at most 64 its prefixes are parts of the record
      module _ (o : m ≤ 64) where
        right : false ≡ not_pair (state_at b)
        right = long_new (state_at b) false is_there (rw old_length_lem at l) (rw (← new_length_lem) (sym (le-ltb 64 m o)))

        old_part_lem : take (head_size + n - head_size) (drop head_size b) ≡ take (state_at b).old_length (state_at b).old_bytes
        unfolding state_at
        old_part_lem = let e : head_size + n - head_size ≡ n = omega arith in rw (← old_length_lem, take-take n 64 (drop head_size b) l, e)

        new_part_lem : take ((head_size + max_len) + m - (head_size + max_len)) (drop (head_size + max_len) b) ≡ take (state_at b).new_length (state_at b).new_bytes
        unfolding state_at
        new_part_lem = let e : (head_size + max_len) + m - (head_size + max_len) ≡ m = omega arith in rw (← new_length_lem, take-take m 64 (drop (head_size + max_len) b) o, e)

        module _ (k d : List ℕ) (h : length b ≡ pair_size) where
          pub changed_answered : (a : Result ℕ Refusal) → a ≡ change_prefix_answer k (take (head_size + n - head_size) (drop head_size b)) (take ((head_size + max_len) + m - (head_size + max_len)) (drop (head_size + max_len) b)) d
              → a ≡ apply_pair_answer b k d
          changed_answered a u =
              answered b d k h i a (apply_there (state_at b) false right refl k d (rw is_there) a (rw (old_part_lem, new_part_lem) at u))

          pub changed_written : (w : List ℕ) → w ≡ change_prefix_leaves k (take (head_size + n - head_size) (drop head_size b)) (take ((head_size + max_len) + m - (head_size + max_len)) (drop (head_size + max_len) b)) d
              → w ≡ apply_pair_leaves b k d
          changed_written w u =
              written b d k h i w (change_there (state_at b) false right refl k d (rw is_there) w (rw (old_part_lem, new_part_lem) at u))
