-- Whether a table holds the range between two elements, by its first and its last record.
use mathlib.Core.Path.{◌≡◌, sym, ◌∙◌}
use mathlib.Core.Bool.{Bool, true, false, not, not-not}
use mathlib.Core.List.{List}
use Prim.Native.Nat.{ℕ, ◌-◌, ◌/◌}
use native.Mathlib.Omega.{arith}
use borrow.Author.Tests.{not-true, not-false}
use lib.ListN.{length}
use Rattle.model.specs.keys.Order.{Element, lte, lt}
use Rattle.model.specs.records.Record.{element, elements}
use Rattle.model.specs.inner.Places.{record_at}
use Rattle.model.specs.tables.Tables.{pivot_at, last_pivot, WFPivots, ContainsRange}
use Rattle.model.proofs.calls.TableCalls.{element_at}
use Rattle.model.proofs.calls.PivotKeys.{last_counted, last_element}

module _ (c : List ℕ) (wf : WFPivots (elements c) ≡ true) where
  module _ (l r : Element) (a : List ℕ) (t : Bool) (e : a ≡ record_at c 0) (f : t ≡ lt l (element a)) where
    -- the table begins with its first record
    begins_at : lte (pivot_at (elements c) 0) l ≡ lte (element a) l
    begins_at = rw (e, element_at c 0 (omega (arith, last_counted c wf)))

    -- the range begins before the table
    pub begins_before : t ≡ true → false ≡ ContainsRange (elements c) l r
    unfolding ContainsRange
    begins_before h = rw (begins_at, not-true (lte (element a) l) (sym f ∙ h))

    module _ (b : List ℕ) (u : Bool) (h : t ≡ false) (g : b ≡ record_at c (length c / 66 - 1)) (w : u ≡ lt (element b) r) where
      -- the range does not begin before it
      begins_in : lte (pivot_at (elements c) 0) l ≡ true
      begins_in = begins_at ∙ not-false (lte (element a) l) (sym f ∙ h)

      -- the table ends with its last record
      last_is : last_pivot (elements c) ≡ element b
      last_is = rw g (last_element c wf)

      -- it lies in the table where it doesn't end after it
      pub lies_in : not u ≡ ContainsRange (elements c) l r
      unfolding ContainsRange
      lies_in = rw (begins_in, last_is, w, not-not (lte r (element b)))
