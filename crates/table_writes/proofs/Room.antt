-- Parts written one after the other: whether there is room for them, and what is left where there is.
use Rattle.std.specs.Prelude.{Result, Ok, Err}
use mathlib.Core.Path.{◌≡◌, refl, ap, ◌∙◌}
use mathlib.Core.Bool.{Bool, true, false, ◌||◌}
use mathlib.Core.List.{List, [], ◌∷◌, ◌++◌}
use Prim.Native.Nat.{ℕ, ◌+◌, ◌-◌, ◌/◌, ◌≤◌, ◌<◌}
use native.Mathlib.Omega.{arith}
use borrow.Author.Tests.{le-ltb, lt-ltb, ltb-false}
use lib.Dec.{ltb}
use lib.ListN.{length, length-append}
use Rattle.model.specs.declared.Refusal.{Refusal}
use Rattle.model.specs.declared.Refusal.TheVariants.{NoRoom}
use Rattle.model.specs.inner.Written.{into}
use Rattle.model.specs.calls.Refusals.{Cause, ◌⇒◌, outcome, answer, leaves}
use Rattle.model.specs.calls.KeyCalls.{no_room}
use Rattle.model.specs.calls.CutCalls.{room_causes}
use Rattle.model.proofs.Lists.{into_over}
use Rattle.model.proofs.calls.Refusals.{here, later, value_done, handed_on, handed_on-first, call_passed, call_passed_first, none_here, accepted, value_is}

-- ---- three parts

-- there is no room for x
abbrev lacking : List ℕ → ℕ → List Cause
lacking x room = (ltb room (length x) ⇒ NoRoom) ∷ []

module _ (a b c : List ℕ) (room : ℕ) where
  parts_length : length (a ++ (b ++ c)) ≡ length a + length b + length c
  parts_length = rw (length-append, length-append) (omega arith)

  lacks : room < length (a ++ (b ++ c)) → Err NoRoom ≡ answer (lacking (a ++ (b ++ c)) room) (length (a ++ (b ++ c)))
  lacks h = here Err _ _ _ NoRoom [] (lt-ltb room (length (a ++ (b ++ c))) h) refl

  pub first_lacks : room < length a → Err NoRoom ≡ answer (lacking (a ++ (b ++ c)) room) (length (a ++ (b ++ c)))
  first_lacks h = lacks (omega (arith, parts_length))

  pub second_lacks : length a ≤ room → room - length a < length b
      → Err NoRoom ≡ answer (lacking (a ++ (b ++ c)) room) (length (a ++ (b ++ c)))
  second_lacks h i = lacks (omega (arith, parts_length))

  pub third_lacks : length a ≤ room → length b ≤ room - length a → room - length a - length b < length c
      → Err NoRoom ≡ answer (lacking (a ++ (b ++ c)) room) (length (a ++ (b ++ c)))
  third_lacks h i j = lacks (omega (arith, parts_length))

  pub parts_measured : length a ≤ room → length b ≤ room - length a → length c ≤ room - length a - length b
      → Ok (room - (room - length a - length b - length c)) ≡ answer (lacking (a ++ (b ++ c)) room) (length (a ++ (b ++ c)))
  parts_measured h i j =
      let k : length (a ++ (b ++ c)) ≤ room = omega (arith, parts_length) in
      later Err _ _ _ NoRoom [] (le-ltb room (length (a ++ (b ++ c))) k) (value_done Err _ _ (omega (arith, parts_length)))

-- ---- both destinations: x is written to dp and y to de

-- a cause for either reason is that of the one and then of the other
either_cause : {A : Type 0} (f : Refusal → A) (v : A) (s t : Bool) (r : Refusal)
    → outcome f ((s || t ⇒ r) ∷ []) v ≡ outcome f ((s ⇒ r) ∷ (t ⇒ r) ∷ []) v
unfolding outcome
either_cause f v true t r = refl
either_cause f v false t r = refl

module _ (x dp : List ℕ) (p : Result ℕ Refusal) (g : p ≡ answer (lacking x (length dp)) (length x)) (y de : List ℕ) where
  pub pivots_lack : {A : Type 0} (f : Refusal → A) (v u : A) (r : Refusal) → p ≡ Err r → u ≡ f r
      → u ≡ outcome f (room_causes (length x) (length y) dp de) v
  pivots_lack f v u r h w =
      rw (either_cause f v (no_room (length x) dp) (no_room (length y) de) NoRoom)
      (handed_on-first (lacking x (length dp)) (length x) p g f v u (lacking y (length de)) r h w)

  module _ (m : ℕ) (h : p ≡ Ok m) (q : Result ℕ Refusal) (k : q ≡ answer (lacking y (length de)) (length y)) where
    pub edges_lack : {A : Type 0} (f : Refusal → A) (v u : A) (r : Refusal) → q ≡ Err r → u ≡ f r
        → u ≡ outcome f (room_causes (length x) (length y) dp de) v
    edges_lack f v u r i w =
        rw (either_cause f v (no_room (length x) dp) (no_room (length y) de) NoRoom)
        (call_passed_first (lacking x (length dp)) (length x) p g f v u (lacking y (length de)) m h
        (handed_on (lacking y (length de)) (length y) q k f v u r i w))

    module _ (n : ℕ) (i : q ≡ Ok n) where
      roomy : {A : Type 0} (f : Refusal → A) (v u : A) → u ≡ v → u ≡ outcome f (room_causes (length x) (length y) dp de) v
      roomy f v u w =
          rw (either_cause f v (no_room (length x) dp) (no_room (length y) de) NoRoom)
          (call_passed_first (lacking x (length dp)) (length x) p g f v u (lacking y (length de)) m h
          (call_passed (lacking y (length de)) (length y) q k f v u n i w))

      pub table_counted : Ok (m / 66) ≡ answer (room_causes (length x) (length y) dp de) (length x / 66)
      table_counted = roomy Err _ _ (ap (λ (l : ℕ). Ok (l / 66)) (value_is (lacking x (length dp)) (length x) p g m h))

      pub pivots_written : (w : List ℕ) → w ≡ into x dp → w ≡ leaves (room_causes (length x) (length y) dp de) x dp
      pivots_written w j =
          let o = ltb-false (length dp) (length x) (none_here _ NoRoom [] (accepted (lacking x (length dp)) (length x) p g m h)) in
          roomy (λ (_ : Refusal). dp) _ w (j ∙ into_over x dp o)

      pub edges_written : (w : List ℕ) → w ≡ into y de → w ≡ leaves (room_causes (length x) (length y) dp de) y de
      edges_written w j =
          let o = ltb-false (length de) (length y) (none_here _ NoRoom [] (accepted (lacking y (length de)) (length y) q k n i)) in
          roomy (λ (_ : Refusal). de) _ w (j ∙ into_over y de o)
