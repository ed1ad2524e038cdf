-- The bounds of a range under another prefix: whether the right one has the prefix, and whether the new ones are short.
use mathlib.Core.Path.{◌≡◌, refl, sym, ◌∙◌}
use mathlib.Core.Bool.{Bool, true, false, cond, not, ◌&&◌, false≢true, not-not}
use mathlib.Core.List.{List}
use mathlib.Core.Logic.{⊎_elim}
use Prim.Native.Nat.{ℕ, ◌+◌, ◌-◌, ◌≤◌, ◌<◌}
use borrow.Author.Tests.{lt-ltb, le-ltb, lt-leb, le-leb, leb-true}
use lib.Dec.{eqb, leb, ltb}
use lib.ListN.{length}
use Rattle.model.specs.keys.Key.{Key, max_len, too_long, IsPrefix, change_prefix}
use Rattle.model.specs.keys.Order.{Element, key, max}
use Rattle.model.specs.records.Record.{max_mark, length_field, key_bytes, reading, element_reading, element}
use Rattle.model.specs.ranges.UpperBound.{ShortestUncommonPrefix}
use Rattle.model.specs.tables.Tables.{short_element}
use Rattle.model.specs.translation.Renaming.{TranslateElement, translate_right, TranslatePivotPairInternal}
use Rattle.model.specs.calls.RenamingCalls.{long_bounds, new_bounds}
use Rattle.model.proofs.Lists.{le_or_lt}
use Rattle.model.proofs.keys.Key.{length_change}
use Rattle.model.proofs.records.Record.{short_element_lem}
use Rattle.upper_bound.proofs.Raising.{short_upper}
use Rattle.pivot_pair.specs.Range.{has_prefix}

-- ---- whether a record has the prefix

module _ (r p : List ℕ) (t : Bool) (e : t ≡ eqb (length_field r) max_mark) where
  -- a record stands for max or for its key bytes
  element_is : element r ≡ cond t max (key (key_bytes r))
  unfolding element
  element_is = rw e

  -- max does not
  pub max_lacks : t ≡ true → false ≡ has_prefix p (element r)
  max_lacks h = rw (element_is, h)

  -- a key does where it begins with it
  pub key_has : (k : List ℕ) (u : Bool) → t ≡ false → k ≡ key_bytes r → u ≡ IsPrefix p k → u ≡ has_prefix p (element r)
  key_has k u h f g = rw (element_is, h, ← f) g

-- ---- the new right bound

-- it is the upper bound of the new prefix unless the old one has the prefix
by_prefix : (p q : Key) (e : Element) → translate_right p q e ≡ cond (has_prefix p e) (TranslateElement p q e) (ShortestUncommonPrefix q)
unfolding translate_right
by_prefix p q (key k) = refl
by_prefix p q max = refl

module _ (r p : List ℕ) (t : Bool) (e : t ≡ has_prefix p (element r)) where
  -- what has the prefix is a key that begins with it
  has : t ≡ true → (element r ≡ key (key_bytes r)) × (IsPrefix p (key_bytes r) ≡ true)
  unfolding element
  has h = go (eqb (length_field r) max_mark) (sym e ∙ h)
    where
      go : (b : Bool) → has_prefix p (cond b max (key (key_bytes r))) ≡ true
          → (cond b max (key (key_bytes r)) ≡ key (key_bytes r)) × (IsPrefix p (key_bytes r) ≡ true)
      go true f = absurd (false≢true f)
      go false f = (refl, f)

  -- the right bound begins with the prefix where it has it
  pub right_begins : (k : List ℕ) → t ≡ true → k ≡ key_bytes r → IsPrefix p k ≡ true
  right_begins k h f = rw f (has h).1

  -- and is short
  pub right_short : (k : List ℕ) → t ≡ true → k ≡ key_bytes r → element_reading (reading r) ≡ true → length k ≤ 64
  right_short k h f g = rw f (leb-true (length (key_bytes r)) max_len (rw (has h).0 at (short_element_lem r g)))

  -- its prefix is changed
  pub right_changed : (q : Key) → t ≡ true → translate_right p q (element r) ≡ key (change_prefix p q (key_bytes r))
  unfolding TranslateElement
  right_changed q h = rw (by_prefix p q (element r), ← e, h, (has h).0)

  -- else the new bound is the upper bound of the new prefix
  pub right_upper : (q : Key) → t ≡ false → translate_right p q (element r) ≡ ShortestUncommonPrefix q
  right_upper q h = rw (by_prefix p q (element r), ← e, h)

-- ---- cause 8

-- the length that is measured is that of the changed key
pub measured : (p q k : Key) → ltb 64 (length q + (length k - length p)) ≡ too_long (change_prefix p q k)
measured p q k = rw (length_change p q k)

-- a key is short where it is not too long
short_is : (k : Key) → leb (length k) max_len ≡ not (too_long k)
short_is k =
    ⊎_elim (λ (h : length k ≤ max_len). rw (le-leb (length k) max_len h, le-ltb max_len (length k) h))
    (λ (h : max_len < length k). rw (lt-leb (length k) max_len h, lt-ltb max_len (length k) h)) (le_or_lt (length k) max_len)

module _ (l r p q : List ℕ) (t : Bool) (e : t ≡ too_long (change_prefix p q l)) where
  -- either bound may be too long
  either_long : long_bounds (new_bounds l r p q) ≡ not (not t && short_element (translate_right p q (element r)))
  unfolding TranslatePivotPairInternal TranslateElement
  either_long = rw (short_is (change_prefix p q l), ← e)

  -- the left one is
  pub left_long : t ≡ true → true ≡ long_bounds (new_bounds l r p q)
  left_long h = rw (either_long, h)

  module _ (o : Bool) (g : o ≡ has_prefix p (element r)) (h : t ≡ false) where
    -- the right one is where its changed key is
    pub right_long : (k : List ℕ) (u : Bool) → o ≡ true → k ≡ key_bytes r → u ≡ too_long (change_prefix p q k) → u ≡ long_bounds (new_bounds l r p q)
    right_long k u i f w = rw (either_long, h, right_changed r p o g q i, short_is (change_prefix p q (key_bytes r)), ← f, ← w, not-not)

    -- an upper bound never is
    pub neither_long : o ≡ false → length q ≤ 64 → false ≡ long_bounds (new_bounds l r p q)
    neither_long i f = rw (either_long, h, right_upper r p o g q i, short_upper q f)
