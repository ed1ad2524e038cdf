-- What one entry leaves in a renamed bucket: its translation where its key begins with the prefix, else nothing.
use Rattle.std.specs.Prelude.{Ok, Err}
use mathlib.Core.Path.{◌≡◌, sym, ◌∙◌}
use mathlib.Core.Bool.{Bool, true, false, cond, not}
use mathlib.Core.List.{List, [], ◌∷◌}
use Prim.Native.Nat.{ℕ, ◌+◌, ◌-◌, ◌≤◌, ◌<◌, min}
use native.Mathlib.Omega.{arith}
use borrow.Author.Tests.{not-true, not-false, le-leb, lt-leb}
use lib.ListN.{length, length-take, length-drop}
use mir.Syntax.{w64}
use mir.Val.{Fits}
use Rattle.model.specs.declared.Refusal.TheVariants.{TooLong}
use Rattle.model.specs.keys.Key.{Key, max_len, IsPrefix, change_prefix}
use Rattle.model.specs.records.Record.{record_size, key_bytes}
use Rattle.model.specs.tables.Tables.{all}
use Rattle.model.specs.buckets.Bucket.{entry_of, translate_entry, TranslateBucket}
use Rattle.model.specs.calls.Refusals.{outcome, answer}
use Rattle.model.proofs.keys.Key.{prefix_length, length_change}
use Rattle.model.proofs.buckets.Bucket.{translated_wft}
use Rattle.bucket_measures.specs.Kept.{kept_of, long_kept}

-- it leaves at most one entry
pub one_left : (e : List ℕ) (p q : Key) → length (kept_of e p q) ≤ 1
unfolding kept_of
one_left e p q = (translated_wft (entry_of e ∷ []) p q 0 (omega arith)).at_most

-- its key lies within a record
key_within : (e : List ℕ) → length (entry_of e).key ≤ record_size
unfolding entry_of key_bytes
key_within e = rw (length-take, length-drop, length-take) (omega arith)

module _ (e : List ℕ) (p q : Key) (t : Bool) (g : t ≡ IsPrefix p (entry_of e).key) where
  pub kept_is : kept_of e p q ≡ cond t (translate_entry p q (entry_of e) ∷ []) []
  unfolding kept_of TranslateBucket
  kept_is = rw g

  -- without the prefix it leaves nothing
  pub none_counted : not t ≡ true → Ok 0 ≡ answer (long_kept (kept_of e p q)) (length (kept_of e p q))
  unfolding outcome all
  none_counted h = rw (kept_is, not-true t h)

  module _ (h : not t ≡ false) where
    -- with it, its key begins so
    pub begins : IsPrefix p (entry_of e).key ≡ true
    begins = sym g ∙ not-false t h

    -- and it leaves one entry
    pub one_is : kept_of e p q ≡ translate_entry p q (entry_of e) ∷ []
    one_is = kept_is ∙ rw (not-false t h)

    changed_length : length (change_prefix p q (entry_of e).key) ≡ length q + (length (entry_of e).key - length p)
    changed_length = length_change p q (entry_of e).key

    changed_long : max_len < length (change_prefix p q (entry_of e).key) → Err TooLong ≡ answer (long_kept (kept_of e p q)) (length (kept_of e p q))
    unfolding outcome all
    changed_long j = rw (one_is, lt-leb (length (change_prefix p q (entry_of e).key)) max_len j)

    module _ (n : ℕ) (j : n ≡ min (length q) (max_len + 1)) (k : Key) (f : k ≡ (entry_of e).key) where
      -- the key is no shorter than the prefix
      pub beyond_prefix : length p ≤ length k
      beyond_prefix = rw f (prefix_length p (entry_of e).key begins)

      -- the length of its changed key, up to a limit, is a number of the code
      pub changed_fits : Fits w64 (n + (length k - length p))
      changed_fits = record { fits = omega (arith, j, rw (← f) at (key_within e)) }

      changed_is : length (change_prefix p q (entry_of e).key) ≡ length q + (length k - length p)
      changed_is = rw f changed_length

      -- which is refused where it passes 64 bytes
      pub long_refused : max_len < n + (length k - length p) → Err TooLong ≡ answer (long_kept (kept_of e p q)) (length (kept_of e p q))
      long_refused o = changed_long (omega (arith, j, changed_is))

      -- and else counted
      pub one_counted : n + (length k - length p) ≤ max_len → Ok 1 ≡ answer (long_kept (kept_of e p q)) (length (kept_of e p q))
      unfolding outcome all
      one_counted o = rw (one_is, le-leb (length (change_prefix p q (entry_of e).key)) max_len (omega (arith, j, changed_is)))
