-- Where two tables meet, by their records: causes 13 and 12.
use mathlib.Core.Path.{◌≡◌, refl, sym, ap}
use mathlib.Core.Bool.{Bool, true, false, cond, not, ◌&&◌, or-false, true≢false}
use mathlib.Core.List.{List}
use Prim.Native.Nat.{ℕ, ◌+◌, ◌-◌, ◌/◌}
use native.Mathlib.Omega.{arith}
use lib.Dec.{ltb}
use lib.IntN.{pos, negsuc}
use lib.ListN.{length}
use lib.Signed.{lt_z}
use Rattle.std.specs.Ordering.{is_ne}
use Rattle.std.specs.declared.cmp.Ordering.{Ordering}
use Rattle.std.specs.declared.cmp.Ordering.TheVariants.{Less, Equal, Greater}
use Rattle.model.specs.keys.Order.{Element, lte, same, cmp, sign}
use Rattle.model.specs.records.Record.{element, elements}
use Rattle.model.specs.inner.Places.{record_at}
use Rattle.model.specs.tables.Tables.{WFPivots}
use Rattle.model.specs.cuts.Join.{not_meeting}
use Rattle.model.specs.calls.InsertionCalls.{too_many_pivots}
use Rattle.model.specs.calls.JoinCalls.{joined_pivots}
use Rattle.model.proofs.tables.Routing.{wf_keys, wf_count}
use Rattle.model.proofs.calls.TableCalls.{length_elements, element_at}
use Rattle.model.proofs.calls.PivotKeys.{last_counted, last_element}
use Rattle.model.proofs.cuts.Join.{join_count}

-- an order other than equal says that two elements differ
differs : (a b : Element) (o : Ordering) → sign o ≡ cmp a b → is_ne o ≡ not (same a b)
unfolding cmp
differs a b o e = go o (lte a b) (lte b a) e
  where
    go : (o : Ordering) (s t : Bool) → sign o ≡ cond (not t) (negsuc 0) (cond (not s) (pos 1) (pos 0)) → is_ne o ≡ not (s && t)
    go Less true true e = absurd (true≢false (ap (λ z. lt_z z (pos 0)) e))
    go Less true false e = refl
    go Less false t e = refl
    go Equal true true e = refl
    go Equal true false e = absurd (true≢false (sym (ap (λ z. lt_z z (pos 0)) e)))
    go Equal false true e = absurd (true≢false (sym (ap (λ z. lt_z (pos 0) z) e)))
    go Equal false false e = absurd (true≢false (sym (ap (λ z. lt_z z (pos 0)) e)))
    go Greater true true e = absurd (true≢false (ap (λ z. lt_z (pos 0) z) e))
    go Greater true false e = refl
    go Greater false t e = refl

module _ (p q : List ℕ) (w : WFPivots (elements q) ≡ true) where
  -- the last record of the one and the first of the other tell whether they meet: the second begins with a key
  pub apart_told : (a b : List ℕ) (o : Ordering) → WFPivots (elements p) ≡ true → a ≡ record_at p (length p / 66 - 1) → b ≡ record_at q 0
      → sign o ≡ cmp (element a) (element b) → is_ne o ≡ not_meeting (elements p) (elements q)
  unfolding not_meeting
  apart_told a b o v e f h =
      let k = wf_keys (elements q) w 0 (omega (arith, wf_count (elements q) w)) in
      rw (differs (element a) (element b) o h, e, f, ← last_element p v, ← element_at q 0 (omega (arith, last_counted q w)), k, or-false)

  -- the counts of the records tell how many pivots there are together
  pub many_told : ltb 64 (length p / 66 + (length q / 66 - 1)) ≡ too_many_pivots (joined_pivots p q)
  many_told =
      let c = last_counted q w in
      let m = length_elements p in
      let n = length_elements q in
      let j = join_count (elements p) (elements q) (omega arith) in
      let l : length (joined_pivots p q) ≡ length p / 66 + (length q / 66 - 1) = omega arith in
      rw l
