-- The pivots of a table by its bytes: each but the last is the key that its record holds, and the last is what the last record stands for.
use mathlib.Core.Path.{◌≡◌, refl, ◌∙◌}
use mathlib.Core.Bool.{Bool, true, false, cond, false≢true}
use mathlib.Core.List.{List}
use Prim.Native.Nat.{ℕ, ◌+◌, ◌-◌, ◌/◌, ◌<◌, ◌≤◌}
use native.Mathlib.Omega.{arith}
use borrow.Author.Tests.{leb-true}
use lib.Dec.{eqb}
use lib.ListN.{length}
use Rattle.model.specs.keys.Key.{max_len}
use Rattle.model.specs.keys.Order.{key, max, is_key}
use Rattle.model.specs.records.Record.{record_size, max_mark, length_field, key_bytes, element, elements}
use Rattle.model.specs.inner.Places.{record_at}
use Rattle.model.specs.tables.Tables.{pivot_at, last_pivot, WFPivots}
use Rattle.model.proofs.tables.Routing.{wf_keys, wf_short, wf_count}
use Rattle.model.proofs.calls.TableCalls.{length_elements, element_at}

-- a record that stands for a key stands for its key bytes
pub key_element : (r : List ℕ) → is_key (element r) ≡ true → element r ≡ key (key_bytes r)
unfolding element
key_element r = go (eqb (length_field r) max_mark)
  where
    go : (t : Bool) → is_key (cond t max (key (key_bytes r))) ≡ true → cond t max (key (key_bytes r)) ≡ key (key_bytes r)
    go true h = absurd (false≢true h)
    go false h = refl

module _ (p : List ℕ) (wf : WFPivots (elements p) ≡ true) where
  -- there is a last record
  pub last_counted : 1 ≤ length p / record_size
  last_counted = omega (arith, wf_count (elements p) wf, length_elements p)

  -- the last pivot is what it stands for
  pub last_element : last_pivot (elements p) ≡ element (record_at p (length p / record_size - 1))
  last_element = rw (length_elements p) (element_at p (length p / record_size - 1) (omega (arith, last_counted)))

module _ (p : List ℕ) (wf : WFPivots (elements p) ≡ true) (i : ℕ) (h : i + 1 < length p / record_size) where
  -- a pivot but the last is the key of its record
  pub key_at : pivot_at (elements p) i ≡ key (key_bytes (record_at p i))
  key_at =
      let r = element_at p i (omega arith) in
      r ∙ key_element (record_at p i) (rw r at (wf_keys (elements p) wf i (omega (arith, length_elements p))))

  -- the key of the record of a pivot but the last has at most 64 bytes
  pub key_at_short : length (key_bytes (record_at p i)) ≤ max_len
  key_at_short = leb-true _ max_len (rw key_at at (wf_short (elements p) wf i (omega (arith, length_elements p))))
