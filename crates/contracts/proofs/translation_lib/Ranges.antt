-- TranslationLib, lines 102 to 142 and 215 to 226: the prefix of a range, and the upper bound of a prefix.
use mathlib.Core.Path.{◌≡◌, refl, sym, ◌∙◌}
use mathlib.Core.Bool.{Bool, true, false, cond}
use mathlib.Core.List.{[], ◌∷◌}
use mathlib.Core.Logic.{⊎_elim}
use Prim.Native.Nat.{ℕ, zero, suc, ◌+◌, ◌-◌, ◌≤◌, ◌<◌}
use native.Mathlib.Nat.{eq-or-lt_of_le}
use native.Mathlib.Omega.{arith}
use borrow.Author.Tests.{le-leb, lt-ltb, le-ltb, eqb-true, eqb-false, eq-eqb}
use lib.Dec.{eqb, ltb}
use lib.ListN.{length, take, get_or}
use Rattle.model.specs.keys.Key.{Key, Bytes, max_len, IsPrefix}
use Rattle.model.specs.keys.Order.{Element, key, max, lte_key, lte, lt, BytesE}
use Rattle.model.specs.ranges.RangePrefix.{lcpright, lcp, PivotLcp, InBetween}
use Rattle.model.specs.ranges.UpperBound.{uncommon_from, ShortestUncommonPrefix}
use Rattle.model.proofs.ranges.RangePrefix.{prefix_of_left, prefix_not_above, shared, longest}
use Rattle.model.proofs.ranges.UpperBound.{upper_lcp, upper_above, upper_nonempty, upper_short, upper_front, upper_last}
use Rattle.contracts.specs.BoundedPivots.{ElementIsKey}
use Rattle.contracts.specs.Translation.{AllKeysInBetweenHasPrefix, ShortestUncommonPrefixAt}

-- ---- the prefix of a range

-- ensures IsPrefix(prefix, left)
pub translation_lib_103 : (left : Key) → IsPrefix (lcpright left) left ≡ true
translation_lib_103 left = unfold PivotLcp in prefix_of_left left max

-- ensures SeqComparison.lte(prefix, left)
pub translation_lib_104 : (left : Key) → lte_key (lcpright left) left ≡ true
translation_lib_104 left = unfold PivotLcp lte in prefix_not_above left max

-- ensures IsPrefix(prefix, left)
pub translation_lib_116 : (left right : Key) → IsPrefix (lcp left right) left ≡ true
translation_lib_116 left right = unfold PivotLcp in prefix_of_left left (key right)

-- ensures SeqComparison.lte(prefix, left)
pub translation_lib_117 : (left right : Key) → lte_key (lcp left right) left ≡ true
translation_lib_117 left right = unfold PivotLcp lte in prefix_not_above left (key right)

-- predicate AllKeysInBetweenHasPrefix(left: Element, right: Element, prefix: Key)
-- it holds of the range's own prefix, which each prefix begins that all keys in between of at most 64 bytes share
pub translation_lib_142 : (l : Key) (right : Element) → Bytes l → BytesE right → length l ≤ max_len → lt (key l) right ≡ true
    → AllKeysInBetweenHasPrefix (key l) right (PivotLcp (key l) right)
    × ((p : Key) → ((k : Key) → Bytes k → length k ≤ max_len → InBetween (key l) right k ≡ true → IsPrefix p k ≡ true) → IsPrefix p (PivotLcp (key l) right) ≡ true)
translation_lib_142 l right b c s h = (shared l right, λ p f. longest l right p b c s h f)

-- ---- the upper bound of a prefix

-- a byte below FF is another than FF
below_ff : (x : ℕ) → x < 256 → {A : Type 0} (a b : A) → cond (ltb x 255) a b ≡ cond (eqb x 255) b a
below_ff x h a b = go (eqb x 255) refl
  where
    go : (t : Bool) → eqb x 255 ≡ t → cond (ltb x 255) a b ≡ cond t b a
    go true e = rw (eqb-true x 255 e)
    go false e = rw (lt-ltb x 255 (omega (arith, eqb-false x 255 e)))

bytes-get_d : (p : Key) (i : ℕ) → Bytes p → get_or p i 0 < 256
bytes-get_d [] i b = omega arith
bytes-get_d (x ∷ p) zero b = b.0
bytes-get_d (x ∷ p) (suc i) b = bytes-get_d p i b.1

module _ (p : Key) (b : Bytes p) where
  -- from a place inside
  from_inside : (i : ℕ) → i < length p → ShortestUncommonPrefixAt p i ≡ uncommon_from p (suc i)
  unfolding ShortestUncommonPrefixAt uncommon_from
  from_inside zero h = rw (lt-ltb 0 (length p) h) (below_ff (get_or p 0 0) (bytes-get_d p 0 b) _ _)
  from_inside (suc i) h =
      rw (lt-ltb (suc i) (length p) h, from_inside i (omega arith)) (below_ff (get_or p (suc i) 0) (bytes-get_d p (suc i) b) _ _)

  -- from the end
  from_end : (n : ℕ) → n ≡ length p → ShortestUncommonPrefixAt p n ≡ uncommon_from p n
  unfolding ShortestUncommonPrefixAt uncommon_from
  from_end zero h = rw (le-ltb 0 (length p) (omega arith))
  from_end (suc n) h = rw (le-ltb (suc n) (length p) (omega arith)) (from_inside n (omega arith))

-- bytes FF are passed
over_ff : (p : Key) (i : ℕ) (n : ℕ) → ((j : ℕ) → i < j → j < i + 1 + n → get_or p j 0 ≡ 255) → uncommon_from p (i + 1 + n) ≡ uncommon_from p (suc i)
unfolding uncommon_from
over_ff p i zero f = let z : i + 1 + 0 ≡ suc i = omega arith in rw z
over_ff p i (suc n) f =
    let z : i + 1 + suc n ≡ suc (i + 1 + n) = omega arith in
    rw (z, eq-eqb (get_or p (i + 1 + n) 0) 255 (f (i + 1 + n) (omega arith) (omega arith))) (over_ff p i n (λ j k l. f j k (omega arith)))

module _ (p : Key) (b : Bytes p) (idx : ℕ) (l : idx ≤ length p) (f : (i : ℕ) → idx < i → i < length p → get_or p i 0 ≡ 255) where
  -- function {:opaque} ShortestUncommonPrefix(prefix: Key, idx: int): (upper: Element)
  -- the definition has no idx: it is the source's recursion from every place after which only FF stands
  pub translation_lib_215 : ShortestUncommonPrefixAt p idx ≡ ShortestUncommonPrefix p
  unfolding ShortestUncommonPrefix
  translation_lib_215 = ⊎_elim (λ (e : idx ≡ length p). from_end p b idx e ∙ rw e) inner (eq-or-lt_of_le l)
    where
      inner : idx < length p → ShortestUncommonPrefixAt p idx ≡ uncommon_from p (length p)
      inner h =
          let z : idx + 1 + (length p - (idx + 1)) ≡ length p = omega arith in
          from_inside p b idx h ∙ sym (rw z at (over_ff p idx (length p - (idx + 1)) (λ j i k. f j i (omega arith))))

  -- what it is where it is a key
  module _ (upper : Key) (e : ShortestUncommonPrefixAt p idx ≡ key upper) where
    is : ShortestUncommonPrefix p ≡ key upper
    is = sym translation_lib_215 ∙ e

    -- && ElementIsKey(upper)
    pub translation_lib_219 : length p ≤ max_len → ElementIsKey (key upper) ≡ true
    translation_lib_219 s = le-leb (length upper) max_len (omega (arith, upper_short p upper is))

    -- && lcp(prefix, upper.e) == prefix
    pub translation_lib_220 : lcp p upper ≡ p
    translation_lib_220 = unfold PivotLcp in (rw is at (upper_lcp p))

    -- && SeqComparison.lt(prefix, upper.e)
    pub translation_lib_221 : lt (key p) (key upper) ≡ true
    translation_lib_221 = rw is at (upper_above p)

    -- && (|upper.e| <= |prefix|)
    pub translation_lib_222 : length upper ≤ length p
    translation_lib_222 = upper_short p upper is

    -- && (upper.e[..|upper.e|-1] == prefix[..|upper.e|-1])
    pub translation_lib_223 : (0 < length upper) × (take (length upper - 1) upper ≡ take (length upper - 1) p)
    translation_lib_223 = (upper_nonempty p upper is, upper_front p upper is)

    -- && (upper.e[|upper.e|-1] as int == prefix[|upper.e|-1] as int + 1) )
    pub translation_lib_224 : get_or upper (length upper - 1) 0 ≡ get_or p (length upper - 1) 0 + 1
    translation_lib_224 = upper_last p upper is

  -- ensures PivotLcp(KeyToElement(prefix), upper) == prefix
  pub translation_lib_226 : PivotLcp (key p) (ShortestUncommonPrefixAt p idx) ≡ p
  translation_lib_226 = rw translation_lib_215 (upper_lcp p)
