-- The pass over entries that compares each with the next.
use mathlib.Core.Path.{◌≡◌, refl, sym, ◌∙◌}
use mathlib.Core.Bool.{Bool, true, false, not, ◌&&◌}
use mathlib.Core.List.{List, [], ◌∷◌}
use Prim.Native.Nat.{ℕ, suc, ◌+◌, ◌-◌, ◌/◌, ◌≤◌, ◌<◌}
use native.Mathlib.Numerals.{add-one}
use native.Mathlib.Omega.{arith}
use borrow.Author.Tests.{not-true, not-false}
use lib.ListN.{length, drop, get_or, length-drop}
use lib.Seq.{drop-cons}
use Rattle.model.specs.keys.Order.{key, lt}
use Rattle.model.specs.records.Record.{element}
use Rattle.model.specs.tables.Tables.{rises_from, IsStrictlySorted}
use Rattle.model.specs.inner.Places.{entry_at}
use Rattle.model.specs.buckets.Bucket.{Entry, Bucket, entry_size, entry_record, entry_bytes, entries, entries_rise}
use Rattle.model.specs.calls.BucketCalls.{entries_read}
use Rattle.entries.proofs.Places.{length_entries}
use Rattle.entry_order.proofs.Entries.{none_such, key_here}

-- one entry, or none, rises
rise_short : (b : Bucket) → length b ≤ 1 → entries_rise b ≡ true
unfolding entries_rise IsStrictlySorted rises_from
rise_short [] h = refl
rise_short (e ∷ []) h = refl
rise_short (e ∷ x ∷ b) h = absurd (omega arith)

rise_on : (b : Bucket) (i : ℕ) (d : Entry) → i + 1 < length b
    → entries_rise (drop i b) ≡ (lt (key (get_or b i d).key) (key (get_or b (i + 1) d).key) && entries_rise (drop (i + 1) b))
unfolding entries_rise IsStrictlySorted rises_from
rise_on b i d h = rw (drop-cons b i d (omega arith), add-one i, drop-cons b (suc i) d (omega arith))

-- the entries rise if those from i on do
module _ (l : List ℕ) (w : entries_read (entry_bytes l) ≡ true) (i : ℕ) (r : entries_rise (entries l) ≡ entries_rise (drop i (entries l))) where
  -- at the end they do
  pub rise_over : (n : ℕ) → n ≡ length l / entry_size - 1 → n ≤ i → true ≡ entries_rise (entries l)
  rise_over n e h = rw r (sym (rise_short (drop i (entries l)) (omega (arith, length-drop i (entries l), length_entries l))))

  module _ (n : ℕ) (e : n ≡ length l / entry_size - 1) (before : i < n) (t : Bool)
      (g : t ≡ lt (element (entry_record (entry_at l i))) (element (entry_record (entry_at l (i + 1))))) where
    h : i + 1 < length l / entry_size
    h = omega arith

    here_rises : (d : Entry) → entries_rise (entries l) ≡ (t && entries_rise (drop (i + 1) (entries l)))
    here_rises d =
        r
        ∙ rise_on (entries l) i d (omega (arith, length_entries l))
        ∙ rw (g, key_here l w i (omega arith) d, key_here l w (i + 1) h d)

    -- an entry that isn't below the next makes the answer
    pub falls : not t ≡ true → false ≡ entries_rise (entries l)
    falls k = sym (rw (not-true t k) at (here_rises none_such))

    -- else those after it do
    pub rises_on : not t ≡ false → entries_rise (entries l) ≡ entries_rise (drop (i + 1) (entries l))
    rises_on k = rw (not-false t k) at (here_rises none_such)
