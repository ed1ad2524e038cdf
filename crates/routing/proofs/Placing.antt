-- The slot by the number of pivots that pass.
use Rattle.std.specs.Prelude.{Ok, Err}
use mathlib.Core.Path.{◌≡◌, refl}
use mathlib.Core.Bool.{Bool, true, false, not, ◌&&◌}
use mathlib.Core.List.{List, [], ◌∷◌}
use Prim.Native.Nat.{ℕ, ◌-◌, ◌/◌, ◌≤◌}
use native.Mathlib.Omega.{arith}
use borrow.Author.Tests.{lt-ltb, le-ltb}
use lib.Dec.{ltb}
use lib.ListN.{length}
use Rattle.model.specs.declared.Refusal.TheVariants.{OutOfRange}
use Rattle.model.specs.keys.Key.{Key}
use Rattle.model.specs.keys.Order.{key, passes, last_place, LargestLte, LargestLt}
use Rattle.model.specs.records.Record.{elements}
use Rattle.model.specs.tables.Tables.{PivotTable, WFPivots, Route, CutoffForLeft, CutoffForRight}
use Rattle.model.specs.calls.Refusals.{◌⇒◌, answer}
use Rattle.model.proofs.calls.Refusals.{here, later, value_done}
use Rattle.model.proofs.tables.Places.{place_most, bounded_place, valid_place}
use Rattle.model.proofs.tables.Routing.{wf_sorted, wf_count}
use Rattle.model.proofs.calls.TableCalls.{length_elements}
use Rattle.model.specs.cuts.Sides.{inside, cutoff}

module _ (p : List ℕ) (k : Key) (strict : Bool) where
  slot_is : (s : Bool) (pt : PivotTable) → cutoff s pt k ≡ last_place (passes s (key k)) pt - 1
  unfolding Route LargestLte CutoffForLeft CutoffForRight LargestLt
  slot_is true pt = refl
  slot_is false pt = refl

  inside_is : (s : Bool) (pt : PivotTable) → WFPivots pt ≡ true
      → inside s pt k ≡ (ltb 0 (last_place (passes s (key k)) pt) && ltb (last_place (passes s (key k)) pt) (length pt))
  inside_is true pt wf = valid_place pt k (wf_sorted pt wf) (wf_count pt wf)
  inside_is false pt wf = bounded_place pt k (wf_sorted pt wf) (wf_count pt wf)

  module _ (n : ℕ) (wf : WFPivots (elements p) ≡ true) (e : n ≡ last_place (passes strict (key k)) (elements p)) where
    inside_by : inside strict (elements p) k ≡ (ltb 0 n && ltb n (length p / 66))
    inside_by = rw (inside_is strict (elements p) wf, ← e, length_elements p)

    pub before_first : n ≡ 0 → Err OutOfRange ≡ answer ((not (inside strict (elements p) k) ⇒ OutOfRange) ∷ []) (cutoff strict (elements p) k)
    before_first h = here Err _ _ _ OutOfRange [] (rw (inside_by, h)) refl

    pub past_last : n ≡ length p / 66 → Err OutOfRange ≡ answer ((not (inside strict (elements p) k) ⇒ OutOfRange) ∷ []) (cutoff strict (elements p) k)
    past_last h = here Err _ _ _ OutOfRange [] (rw (inside_by, le-ltb n (length p / 66) (omega arith)) (no_more (ltb 0 n))) refl
      where
        no_more : (b : Bool) → not (b && false) ≡ true
        no_more true = refl
        no_more false = refl

    pub between : (n ≡ 0 → ⊥) → (n ≡ length p / 66 → ⊥) → Ok (n - 1) ≡ answer ((not (inside strict (elements p) k) ⇒ OutOfRange) ∷ []) (cutoff strict (elements p) k)
    between h g =
        let m : n ≤ length p / 66 = rw (e, ← length_elements p) (place_most (passes strict (key k)) (elements p)) in
        later Err _ _ _ OutOfRange []
        (rw (inside_by, lt-ltb 0 n (omega arith), lt-ltb n (length p / 66) (omega arith)))
        (value_done Err (n - 1) _ (rw (e, slot_is strict (elements p))))
