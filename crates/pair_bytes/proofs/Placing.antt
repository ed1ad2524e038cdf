-- A result's record in its destination.
use Rattle.std.specs.Prelude.{Result, Ok, Err}
use mathlib.Core.Path.{◌≡◌, refl, ◌∙◌}
use mathlib.Core.Bool.{Bool, true, false, or-false}
use mathlib.Core.List.{List, [], ◌∷◌, ◌++◌, map, append_assoc}
use mathlib.Core.Option.{Option}
use Prim.Native.Nat.{ℕ, ◌+◌, ◌-◌, ◌/◌, ◌%◌, ◌≤◌, ◌<◌, min}
use native.Mathlib.Omega.{arith}
use borrow.Author.Rules.{length_unmapped}
use borrow.Author.Tests.{le-ltb, lt-ltb}
use borrow.Rule.Slice.PartMut.{put_mid}
use lib.ListN.{length, take, drop, length-append}
use Rattle.model.specs.declared.Refusal.{Refusal}
use Rattle.model.specs.declared.Refusal.TheVariants.{NoRoom}
use Rattle.model.specs.keys.Key.{max_len}
use Rattle.model.specs.inner.Written.{into}
use Rattle.model.specs.translation.PrefixSet.{PrefixSet}
use Rattle.model.specs.translation.PairState.{PairState, state_of}
use Rattle.model.specs.translation.PairRecord.{head_size, pair_size, flag, encode_state}
use Rattle.model.specs.calls.Refusals.{Cause, ◌⇒◌, outcome, answer, leaves, over}
use Rattle.model.specs.calls.KeyCalls.{no_room}
use Rattle.model.specs.calls.PairCalls.{there_number, pair_answer, pair_beside}
use Rattle.model.specs.calls.PairRecordCalls.{pair_room, pair_leaves}
use Rattle.model.proofs.Lists.{into_over, written_on}
use Rattle.pair_bytes.specs.Placed.{state_put, placed_answer, placed_leaves}
use Rattle.pair_bytes.proofs.Lengths.{Fitting}

-- ---- writing

-- the header and the two arrays are the record
pub record_written : (y : Bool) (n m : ℕ) (o q d h v w : List ℕ) → length (map (λ (v : ℕ). v) o) ≡ 64 → length (map (λ (v : ℕ). v) q) ≡ 64
    → pair_size ≤ length d → h ≡ flag y ∷ n / 256 ∷ n % 256 ∷ m / 256 ∷ m % 256 ∷ [] → v ≡ into (h ++ o) d
    → w ≡ into q (take (length v - (head_size + max_len)) (drop (head_size + max_len) v))
    → put_mid (head_size + max_len) (length v - (head_size + max_len)) v w
    ≡ over (encode_state (record { there = y; old_length = n; new_length = m; old_bytes = o; new_bytes = q })) d
unfolding encode_state
record_written y n m o q d h v w a b c e f g =
    let i = length_unmapped ℕ o 64 a in
    let j = length_unmapped ℕ q 64 b in
    let k : length h ≡ 5 = rw e in
    let l : length (h ++ o) ≡ 69 = rw length-append (omega arith) in
    let x : 69 ≡ min (length (h ++ o)) (length d) = omega arith in
    let z : length ((h ++ o) ++ q) ≤ length d = rw (length-append (h ++ o) q) (omega arith) in
    written_on 69 (h ++ o) q d v w x f g ∙ into_over ((h ++ o) ++ q) d z ∙ rw (append_assoc h o q, e)

-- it is written where there is room and no length passes 64
module _ (y : Bool) (n m : ℕ) (o q d : List ℕ) where
  pub put_crowded : length d < pair_size → d ≡ state_put (record { there = y; old_length = n; new_length = m; old_bytes = o; new_bytes = q }) d
  unfolding state_put
  put_crowded c = rw (lt-ltb (length d) pair_size c)

  module _ (c : pair_size ≤ length d) where
    pub put_old_long : max_len < n → d ≡ state_put (record { there = y; old_length = n; new_length = m; old_bytes = o; new_bytes = q }) d
    unfolding state_put
    put_old_long l = rw (le-ltb (length d) pair_size c, lt-ltb max_len n l)

    module _ (l : n ≤ max_len) where
      pub put_new_long : max_len < m → d ≡ state_put (record { there = y; old_length = n; new_length = m; old_bytes = o; new_bytes = q }) d
      unfolding state_put
      put_new_long i = rw (le-ltb (length d) pair_size c, le-ltb max_len n l, lt-ltb max_len m i)

      pub put_written : (w : List ℕ) → m ≤ max_len → w ≡ over (encode_state (record { there = y; old_length = n; new_length = m; old_bytes = o; new_bytes = q })) d
          → w ≡ state_put (record { there = y; old_length = n; new_length = m; old_bytes = o; new_bytes = q }) d
      unfolding state_put
      put_written w i e = rw (le-ltb (length d) pair_size c, le-ltb max_len n l, le-ltb max_len m i) e

-- a result's lengths never do
put_fitting : (s : PairState) (d : List ℕ) → Fitting s → state_put s d ≡ leaves (pair_room d) (encode_state s) d
unfolding state_put outcome
put_fitting s d f = rw (le-ltb max_len s.old_length f.old, le-ltb max_len s.new_length f.new, or-false (no_room pair_size d), or-false (no_room pair_size d))

-- ---- an answer and its pair

module _ (a : Result ℕ Refusal) (d : List ℕ) where
  -- a refusal is handed on
  module _ (r : Refusal) (h : a ≡ Err r) where
    pub refused_placed : (x : Result ℕ Refusal) → x ≡ Err r → x ≡ placed_answer a d
    unfolding placed_answer
    refused_placed x e = rw h e

    pub refused_kept : (s : PairState) → d ≡ placed_leaves a s d
    unfolding placed_leaves
    refused_kept s = rw h

  module _ (n : ℕ) (h : a ≡ Ok n) where
    -- without room it is 10
    module _ (c : length d < pair_size) where
      pub crowded_placed : Err NoRoom ≡ placed_answer a d
      unfolding placed_answer outcome
      crowded_placed = rw (h, lt-ltb (length d) pair_size c)

      pub crowded_kept : (s : PairState) → d ≡ placed_leaves a s d
      unfolding placed_leaves state_put
      crowded_kept s = rw (h, lt-ltb (length d) pair_size c)

    -- with room the record is written
    module _ (c : pair_size ≤ length d) where
      pub roomy_placed : a ≡ placed_answer a d
      unfolding placed_answer outcome
      roomy_placed = rw (h, le-ltb (length d) pair_size c)

      pub roomy_written : (s : PairState) (w : List ℕ) → w ≡ state_put s d → w ≡ placed_leaves a s d
      unfolding placed_leaves
      roomy_written s w e = rw h e

pub ruleset placing = (refused_placed, refused_kept, crowded_placed, crowded_kept, roomy_placed, roomy_written)

-- ---- by the causes of the answer

-- cause 10 comes after the call's own causes
placed_outcome : (cs : List Cause) (n : ℕ) (d : List ℕ) → placed_answer (answer cs n) d ≡ answer (cs ++ pair_room d) n
unfolding placed_answer outcome
placed_outcome [] n d = refl
placed_outcome ((true ⇒ r) ∷ cs) n d = refl
placed_outcome ((false ⇒ r) ∷ cs) n d = placed_outcome cs n d

-- the record of a pair is written where neither the call's causes nor 10 applies
placed_leaves_lem : (cs : List Cause) (n : ℕ) (o : Option PrefixSet) (d : List ℕ) → Fitting (pair_beside cs o)
    → placed_leaves (answer cs n) (pair_beside cs o) d ≡ pair_leaves (cs ++ pair_room d) o d
unfolding placed_leaves outcome
placed_leaves_lem [] n o d f = put_fitting (state_of o) d f
placed_leaves_lem ((true ⇒ r) ∷ cs) n o d f = refl
placed_leaves_lem ((false ⇒ r) ∷ cs) n o d f = placed_leaves_lem cs n o d f

module _ (cs : List Cause) (o : Option PrefixSet) (d : List ℕ) (a : Result ℕ Refusal) (h : a ≡ pair_answer cs o) where
  -- so it is of a call that answers a pair
  pub placed_answer_lem : (x : Result ℕ Refusal) → x ≡ placed_answer a d → x ≡ pair_answer (cs ++ pair_room d) o
  placed_answer_lem x e = e ∙ rw h (placed_outcome cs (there_number o) d)

  pub placed_written : (z : PairState) (w : List ℕ) → Fitting (pair_beside cs o) → z ≡ pair_beside cs o → w ≡ placed_leaves a z d
      → w ≡ pair_leaves (cs ++ pair_room d) o d
  placed_written z w f g e = e ∙ rw (h, g) (placed_leaves_lem cs (there_number o) o d f)

-- putting a pair, by its tests
pub ruleset putting = (put_crowded, put_old_long, put_new_long, put_written)
