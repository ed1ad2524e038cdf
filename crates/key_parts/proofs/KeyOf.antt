-- What a record's reading says of its key and of the causes.
use Rattle.std.specs.Prelude.{Result, Ok}
use mathlib.Core.Path.{◌≡◌, sym, ◌∙◌}
use mathlib.Core.Bool.{true, false, not}
use mathlib.Core.List.{List}
use Prim.Native.Nat.{ℕ, ◌+◌, ◌-◌, ◌≤◌}
use native.Mathlib.Nat.{add-sub_cancel_left}
use native.Mathlib.Omega.{arith}
use borrow.Author.Tests.{eqb-true, not-false}
use lib.Dec.{eqb}
use mir.Val.{Fits}
use mir.Syntax.{w64}
use lib.ListN.{length, take, drop, length-take, length-drop}
use lib.Seq.{length-take-le}
use Rattle.model.specs.declared.Reading.{Reading}
use Rattle.model.specs.declared.Reading.TheVariants.{Key, Malformed, NoEdge, Max}
use Rattle.model.specs.records.Record.{record_size, reading, key_reading, key_bytes}
use Rattle.model.specs.declared.Refusal.{Refusal}
use Rattle.model.specs.buckets.Bucket.{entry_size}
use Rattle.model.specs.calls.Refusals.{outcome, answer, part}
use Rattle.model.specs.calls.KeyCalls.{not_record, pivot_key_causes, pivot_key_answer, pivot_key_part, entry_key_causes, entry_key_answer, entry_key_part}
use Rattle.model.proofs.calls.Refusals.{passed, accepted, value_is, none_here}
use Rattle.model.proofs.Lists.{take_min}
use Rattle.model.proofs.records.Record.{key_read}

module _ (r : List ℕ) (w : Reading) (e : w ≡ reading r) where
  pub key_holds : (n : ℕ) → w ≡ Key n → key_reading (reading r) ≡ true
  key_holds n p = rw (← e, p)

  pub key_malformed : w ≡ Malformed → key_reading (reading r) ≡ false
  key_malformed p = rw (← e, p)

  pub key_none : w ≡ NoEdge → key_reading (reading r) ≡ false
  key_none p = rw (← e, p)

  pub key_max : w ≡ Max → key_reading (reading r) ≡ false
  key_max p = rw (← e, p)

  pub key_length_lem : (n : ℕ) → w ≡ Key n → length r ≡ record_size → n ≡ length (key_bytes r)
  unfolding key_bytes
  key_length_lem n p h =
      let k = key_read r n (sym e ∙ p) in
      rw k.field (sym (length-take-le n (drop 2 r) (omega (arith, length-drop 2 r))))

pub ruleset key_cases = (key_holds, key_malformed, key_none, key_max, key_length_lem)

-- ---- the part of a record that its key fills

bytes_short : (r : List ℕ) → length r ≡ record_size → length (key_bytes r) ≤ 64
unfolding key_bytes
bytes_short r h = rw (length-take, length-drop) (omega arith)

module _ (r : List ℕ) (a : Result ℕ Refusal) (m : ℕ) (e : a ≡ answer (pivot_key_causes r) (length (key_bytes r))) (h : a ≡ Ok m) where
  size : length r ≡ record_size
  size =
      let n = accepted (pivot_key_causes r) (length (key_bytes r)) a e m h in
      eqb-true (length r) record_size (not-false (eqb (length r) record_size) (none_here _ _ _ n))

  filled : m ≡ length (key_bytes r)
  filled = value_is (pivot_key_causes r) (length (key_bytes r)) a e m h

  pub end_inside : 2 + m ≤ length r
  end_inside = omega (arith, size, filled, bytes_short r size)

  pub end_fits : Fits w64 (2 + m)
  end_fits = record { fits = omega (arith, filled, bytes_short r size) }

  pub key_fills : take (2 + m - 2) (drop 2 r) ≡ part (pivot_key_causes r) (key_bytes r)
  unfolding key_bytes
  key_fills =
      passed _ (key_bytes r) (take (2 + m - 2) (drop 2 r)) (pivot_key_causes r) (accepted (pivot_key_causes r) (length (key_bytes r)) a e m h)
      (rw (add-sub_cancel_left 2 m, filled, length-take, take_min))

-- ---- the record at the head of an entry

module _ (e : List ℕ) (h : length e ≡ entry_size) where
  pub entry_room : 66 ≡ length (take 66 e)
  entry_room = sym (length-take-le 66 e (omega arith))

  -- the record at its head has the same outcome
  same_outcome : {A : Type 0} (f : Refusal → A) (v : A) → outcome f (pivot_key_causes (take 66 e)) v ≡ outcome f (entry_key_causes e) v
  unfolding outcome
  same_outcome f v =
      let p : not (eqb (length e) entry_size) ≡ false = rw h in
      let q : not_record (take 66 e) ≡ false = rw (← entry_room) in
      rw (p, q)

  pub entry_answer : (a : Result ℕ Refusal) → a ≡ pivot_key_answer (take 66 e) → a ≡ entry_key_answer e
  entry_answer a q = q ∙ same_outcome _ _

  pub entry_part : (x : List ℕ) → x ≡ pivot_key_part (take 66 e) → x ≡ entry_key_part e
  entry_part x q = q ∙ same_outcome _ _
