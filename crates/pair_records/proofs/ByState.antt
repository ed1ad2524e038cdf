-- What the calls on pairs as records answer and leave, by the calls on the pairs that they hold.
use Rattle.std.specs.Prelude.{Result, Err}
use mathlib.Core.Path.{◌≡◌, ◌∙◌}
use mathlib.Core.List.{List, ◌++◌}
use Prim.Native.Nat.{ℕ, ◌≤◌}
use lib.ListN.{length, get_or}
use Rattle.model.specs.declared.Refusal.{Refusal}
use Rattle.model.specs.translation.PrefixSet.{RevPrefixSet, ComposePrefixSet}
use Rattle.model.specs.translation.PairState.{PairState}
use Rattle.model.specs.translation.PairRecord.{pair_size, state_at, pair_at}
use Rattle.model.specs.calls.Refusals.{outcome}
use Rattle.model.specs.calls.PairCalls.{reverse_causes, reverse_answer, reverse_pair, compose_causes, compose_answer, compose_pair}
use Rattle.model.specs.calls.PairRecordCalls.{pair_room, reverse_pair_causes, reverse_pair_answer, reverse_pair_leaves, compose_pairs_causes, compose_pairs_answer, compose_pairs_leaves}
use Rattle.pair_bytes.specs.Placed.{state_read, placed_answer, placed_leaves}
use Rattle.pair_bytes.proofs.Reading.{sized, flagged, record_read}
use Rattle.pair_bytes.proofs.Lengths.{reverse_fits, compose_fits}
use Rattle.pair_bytes.proofs.Placing.{placed_answer_lem, placed_written}

-- one record, whose flag is 0 or 1
module _ (b d : List ℕ) (s : PairState) (e : s ≡ state_read b) (h : length b ≡ pair_size) (i : get_or b 0 0 ≤ 1) where
  -- reverse: the causes of the pair's call, and 10
  reverse_causes_lem : {A : Type 0} (f : Refusal → A) (v : A) → outcome f (reverse_causes (state_at b) ++ pair_room d) v ≡ outcome f (reverse_pair_causes b d) v
  unfolding outcome
  reverse_causes_lem f v = rw (sized b h, flagged b i)

  module _ (a : Result ℕ Refusal) (y : a ≡ reverse_answer s) where
    at_record : a ≡ reverse_answer (state_at b)
    at_record = rw (e, record_read b h) at y

    pub reverse_placed : (x : Result ℕ Refusal) → x ≡ placed_answer a d → x ≡ reverse_pair_answer b d
    reverse_placed x u = placed_answer_lem (reverse_causes (state_at b)) (RevPrefixSet (pair_at b)) d a at_record x u ∙ reverse_causes_lem Err _

    pub reverse_written : (z : PairState) (w : List ℕ) → z ≡ reverse_pair s → w ≡ placed_leaves a z d → w ≡ reverse_pair_leaves b d
    reverse_written z w g u =
        placed_written (reverse_causes (state_at b)) (RevPrefixSet (pair_at b)) d a at_record z w (reverse_fits (state_at b)) (rw (e, record_read b h) at g) u ∙ reverse_causes_lem (λ (_ : Refusal). d) _

-- two such records
module _ (b c d : List ℕ) (s t : PairState) (e : s ≡ state_read b) (f : t ≡ state_read c) (h : length b ≡ pair_size) (j : length c ≡ pair_size)
    (i : get_or b 0 0 ≤ 1) (l : get_or c 0 0 ≤ 1) where
  -- compose: the causes of the pairs' call, and 10
  compose_causes_lem : {A : Type 0} (f : Refusal → A) (v : A)
      → outcome f (compose_causes (state_at b) (state_at c) ++ pair_room d) v ≡ outcome f (compose_pairs_causes b c d) v
  unfolding outcome
  compose_causes_lem f v = rw (sized b h, sized c j, flagged b i, flagged c l)

  module _ (a : Result ℕ Refusal) (y : a ≡ compose_answer s t) where
    at_records : a ≡ compose_answer (state_at b) (state_at c)
    at_records = rw (e, f, record_read b h, record_read c j) at y

    pub compose_placed : (x : Result ℕ Refusal) → x ≡ placed_answer a d → x ≡ compose_pairs_answer b c d
    compose_placed x u =
        placed_answer_lem (compose_causes (state_at b) (state_at c)) (ComposePrefixSet (pair_at b) (pair_at c)) d a at_records x u
        ∙ compose_causes_lem Err _

    pub compose_written : (z : PairState) (w : List ℕ) → z ≡ compose_pair s t → w ≡ placed_leaves a z d → w ≡ compose_pairs_leaves b c d
    compose_written z w g u =
        placed_written (compose_causes (state_at b) (state_at c)) (ComposePrefixSet (pair_at b) (pair_at c)) d a at_records z w (compose_fits (state_at b) (state_at c)) (rw (e, f, record_read b h, record_read c j) at g) u
        ∙ compose_causes_lem (λ (_ : Refusal). d) _
