-- The slot of a key to be inserted, by the number of the pivots that are not above it.
use Rattle.std.specs.Prelude.{Ok, Err}
use mathlib.Core.Path.{◌≡◌, refl, sym, ◌∙◌}
use mathlib.Core.Bool.{Bool, true, false, not}
use mathlib.Core.List.{List, [], ◌∷◌}
use Prim.Native.Nat.{ℕ, ◌+◌, ◌-◌, ◌/◌, ◌≤◌, ◌<◌}
use native.Mathlib.Omega.{arith}
use borrow.Author.Tests.{not-true, not-false, lt-ltb, le-ltb}
use lib.ListN.{length}
use Rattle.model.specs.declared.Refusal.{Refusal}
use Rattle.model.specs.declared.Refusal.TheVariants.{OutOfRange, AlreadyPivot, TooManyPivots}
use Rattle.model.specs.keys.Key.{Key}
use Rattle.model.specs.keys.Order.{key, lt, passes, last_place}
use Rattle.model.specs.records.Record.{element, elements}
use Rattle.model.specs.inner.Places.{record_at}
use Rattle.model.specs.tables.Tables.{pivot_at, WFPivots, ContainsRange, Route, is_pivot}
use Rattle.model.specs.calls.Refusals.{Cause, ◌⇒◌, outcome, answer}
use Rattle.model.specs.calls.InsertionCalls.{inserted_pivots, too_many_pivots}
use Rattle.model.proofs.calls.Refusals.{here, later, value_done}
use Rattle.model.proofs.tables.Places.{place_most}
use Rattle.model.proofs.tables.NewPivot.{Strictly, before_range, at_pivot, at_pivot_contained, past_range, in_slot, strictly_route, strictly_contained, strictly_new}
use Rattle.model.proofs.calls.TableCalls.{length_elements, element_at}
use Rattle.model.proofs.cuts.Insertion.{insert_length}

module _ (p : List ℕ) (k : Key) (n : ℕ) (wf : WFPivots (elements p) ≡ true) (e : n ≡ last_place (passes false (key k)) (elements p)) where
  abbrev causes : List Cause
  causes =
      (not (ContainsRange (elements p) (key k) (key k)) ⇒ OutOfRange) ∷
      (is_pivot (elements p) k ⇒ AlreadyPivot) ∷
      (too_many_pivots (inserted_pivots p k) ⇒ TooManyPivots) ∷ []

  pub below_all : n ≡ 0 → Err OutOfRange ≡ answer causes (Route (elements p) k)
  below_all h = here Err _ _ _ OutOfRange _ (rw (before_range (elements p) k wf n e h)) refl

  module _ (h : n ≡ 0 → ⊥) (a : List ℕ) (t : Bool) (f : a ≡ record_at p (n - 1)) (g : t ≡ passes true (key k) (element a)) where
    some : 0 < n
    some = omega arith

    most : n ≤ length p / 66
    most = rw (e, ← length_elements p) (place_most (passes false (key k)) (elements p))

    last_below : lt (pivot_at (elements p) (n - 1)) (key k) ≡ t
    last_below = let m = most in let s = some in rw (element_at p (n - 1) (omega arith), ← f, ← g)

    pub a_pivot : not t ≡ true → Err AlreadyPivot ≡ answer causes (Route (elements p) k)
    a_pivot i =
        let u = last_below ∙ not-true t i in
        later Err _ _ _ OutOfRange _ (rw (at_pivot_contained (elements p) k wf n e some u))
        (here Err _ _ _ AlreadyPivot _ (at_pivot (elements p) k wf n e some u) refl)

    module _ (i : not t ≡ false) where
      pub above_all : n ≡ length p / 66 → Err OutOfRange ≡ answer causes (Route (elements p) k)
      above_all j =
          let z : n ≡ length (elements p) = j ∙ sym (length_elements p) in
          here Err _ _ _ OutOfRange _ (rw (past_range (elements p) k wf n e some (last_below ∙ not-false t i) z)) refl

      module _ (j : n ≡ length p / 66 → ⊥) where
        slot : Strictly (elements p) (n - 1) k
        slot = in_slot (elements p) k wf n e some (last_below ∙ not-false t i) (λ z. j (z ∙ length_elements p))

        -- with the key there is one pivot more
        count : length (inserted_pivots p k) ≡ length p / 66 + 1
        count =
            let r = strictly_route (elements p) k wf (n - 1) slot in
            rw (← r) (insert_length (elements p) k (n - 1) (omega (arith, slot.slot)) ∙ rw (length_elements p))

        -- 5 and 11 don't apply
        past : {A : Type 0} (f : Refusal → A) (v x : A) → x ≡ outcome f ((too_many_pivots (inserted_pivots p k) ⇒ TooManyPivots) ∷ []) v → x ≡ outcome f causes v
        past f v x q =
            later f v x _ OutOfRange _ (rw (strictly_contained (elements p) k wf (n - 1) slot))
            (later f v x _ AlreadyPivot _ (strictly_new (elements p) k wf (n - 1) slot) q)

        pub full_table : 64 ≤ length p / 66 → Err TooManyPivots ≡ answer causes (Route (elements p) k)
        full_table m = past Err _ _ (here Err _ _ _ TooManyPivots [] (lt-ltb 64 (length (inserted_pivots p k)) (omega (arith, count))) refl)

        pub strictly_in : length p / 66 < 64 → Ok (n - 1) ≡ answer causes (Route (elements p) k)
        strictly_in m =
            past Err _ _ (later Err _ _ _ TooManyPivots [] (le-ltb 64 (length (inserted_pivots p k)) (omega (arith, count)))
            (value_done Err (n - 1) _ (strictly_route (elements p) k wf (n - 1) slot)))

-- `new_slot_of`, by its tests
pub ruleset inserting = (below_all, a_pivot, above_all, full_table)
