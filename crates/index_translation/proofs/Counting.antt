-- How many entries before a place are kept: one more past each whose key begins with the prefix.
use mathlib.Core.Path.{◌≡◌, refl, sym}
use mathlib.Core.Bool.{Bool, true, false, cond, not}
use mathlib.Core.List.{List, [], ◌∷◌}
use Prim.Native.Nat.{ℕ, ◌+◌, ◌/◌, ◌≤◌, ◌<◌}
use native.Mathlib.Omega.{arith}
use borrow.Author.Tests.{not-true, not-false}
use lib.ListN.{length, take, get_or, length-append}
use mir.Syntax.{w64}
use mir.Val.{Fits}
use Rattle.model.specs.keys.Key.{Key, IsPrefix}
use Rattle.model.specs.inner.Places.{entry_at}
use Rattle.model.specs.buckets.Bucket.{entry_size, entry_of, entry_bytes, entries, translate_entry, TranslateBucket}
use Rattle.model.specs.buckets.Index.{only}
use Rattle.model.proofs.Lists.{get_d_map}
use Rattle.model.proofs.buckets.Renamed.{renamed_count, simple_most, simple_next}
use Rattle.entries.proofs.Places.{length-entry_bytes, length_entries}
use Rattle.index_translation.specs.Kept.{kept_before}

-- as many as a translation of the entries before the place has, whatever the new prefix
pub kept_is : (l : List ℕ) (p q : Key) (n : ℕ) → kept_before l p n ≡ length (TranslateBucket (take n (entries l)) p q)
unfolding kept_before
kept_is l p q n = sym (renamed_count p q (take n (entries l)))

module _ (l : List ℕ) (p : Key) where
  -- before the first none is
  pub kept_none : kept_before l p 0 ≡ 0
  unfolding kept_before only
  kept_none = refl

  -- no more than there are
  pub kept_most : (n : ℕ) → n ≤ length l / entry_size → kept_before l p n ≤ n
  kept_most n h = rw (kept_is l p p n) (simple_most (entries l) p p n (omega (arith, length_entries l)))

  module _ (i : ℕ) (h : i < length l / entry_size) (e : List ℕ) (f : e ≡ entry_at l i) (t : Bool) (w : t ≡ IsPrefix p (entry_of e).key) where
    here_is : get_or (entries l) i (entry_of []) ≡ entry_of e
    unfolding entries
    here_is = rw f (get_d_map entry_of (entry_bytes l) i (entry_of []) [] (omega (arith, length-entry_bytes l)))

    -- past an entry there is also what that leaves
    next_is : length (TranslateBucket (take (i + 1) (entries l)) p p) ≡ length (TranslateBucket (take i (entries l)) p p) + length (cond t (translate_entry p p (entry_of e) ∷ []) [])
    next_is = rw (w, simple_next (entries l) p p i (entry_of []) (omega (arith, length_entries l)), here_is, length-append)

    -- nothing where its key doesn't begin with the prefix
    pub none_kept : not t ≡ true → kept_before l p i + 0 ≡ kept_before l p (i + 1)
    none_kept u = rw (kept_is l p p i, kept_is l p p (i + 1)) (sym (rw (not-true t u) at next_is))

    -- else one more is kept
    pub one_kept : not t ≡ false → kept_before l p i + 1 ≡ kept_before l p (i + 1)
    one_kept u = rw (kept_is l p p i, kept_is l p p (i + 1)) (sym (rw (not-false t u) at next_is))

-- ---- from a place to another

-- the entries before i are passed, `kept` of them from the place m on
pub record Counted (l : List ℕ) (p : Key) (m n i kept : ℕ) : Type 0 where
  pub within : i ≤ n
  pub counted : kept_before l p m + kept ≡ kept_before l p i

module _ (l : List ℕ) (p : Key) (m n : ℕ) where
  -- at the start none is
  pub count_start : m ≤ n → Counted l p m n m 0
  count_start h = record { within = h; counted = omega arith }

  module _ (i kept : ℕ) (w : Counted l p m n i kept) where
    -- at the end all are
    pub count_end : n ≤ i → kept_before l p m + kept ≡ kept_before l p n
    count_end h = let e : i ≡ n = omega (arith, w.within) in rw (← e) w.counted

    module _ (h : i < n) (o : n ≤ length l / entry_size) (one : ℕ) (g : kept_before l p i + one ≡ kept_before l p (i + 1)) where
      -- the new count is a number of the code
      pub count_fits : Fits w64 n → Fits w64 (kept + one)
      count_fits f = record { fits = omega (arith, w.counted, g, kept_most l p (i + 1) (omega arith), f.fits) }

      -- one entry further on
      pub count_turn : Counted l p m n (i + 1) (kept + one)
      count_turn = record { within = omega arith; counted = omega (arith, w.counted, g) }
