-- TranslationImpl, lines 71 to 145 and 199 to 214: the prefix of a range, and the upper bound of a prefix.
use Rattle.std.specs.Prelude.{Ok, Err}
use mathlib.Core.Path.{◌≡◌, refl, ◌∙◌}
use mathlib.Core.Bool.{true, false, false≢true}
use mathlib.Core.List.{List}
use mathlib.Core.Option.{none}
use Prim.Native.Nat.{ℕ, ◌≤◌}
use borrow.Author.Tests.{leb-true, le-leb, le-ltb}
use lib.ListN.{length, take}
use Rattle.model.specs.declared.Refusal.TheVariants.{Malformed}
use Rattle.model.specs.keys.Key.{Key, max_len, too_long}
use Rattle.model.specs.keys.Order.{Element, key, max}
use Rattle.model.specs.records.Record.{record_size, reading, element_reading, encode}
use Rattle.model.specs.ranges.RangePrefix.{lcpright, lcp, PivotLcp}
use Rattle.model.specs.ranges.UpperBound.{ShortestUncommonPrefix}
use Rattle.model.specs.tables.Tables.{key_of, short_element}
use Rattle.model.specs.calls.Refusals.{outcome, first, over}
use Rattle.model.specs.calls.KeyCalls.{pivot_lcp_causes, pivot_lcp_answer, uncommon_prefix_causes, uncommon_prefix_answer, uncommon_prefix_leaves}
use Rattle.model.proofs.calls.Refusals.{or_left, or_right, not_fails}
use Rattle.model.proofs.calls.TableCalls.{not_too_long}
use Rattle.model.proofs.keys.Key.{prefix_is_take}
use Rattle.model.proofs.ranges.RangePrefix.{prefix_of_left}
use Rattle.contracts.specs.Refuses.{RefusesAt}
use Rattle.contracts.specs.BoundedPivots.{ElementIsKey}
use Rattle.contracts.proofs.Refusing.{refuses_at, not_key_long}
use Rattle.contracts.proofs.Lent.{accepted, element_lent}

-- ---- the prefix of a range, from a key up to an element

-- lent any bytes
module _ (l : Key) (r : List ℕ) where
  -- requires ElementIsKey(left)
  pub translation_impl_127 : ElementIsKey (key l) ≡ false → RefusesAt Err (pivot_lcp_causes l r) 1 Malformed (pivot_lcp_answer l r)
  translation_impl_127 h = refuses_at _ _ (pivot_lcp_causes l r) 1 _ _ _ refl (or_left _ _ (not_key_long l h))

  -- requires right.Element? ==> ElementIsKey(right)
  -- the record isn't read as an element; one that is has at most 64 bytes
  pub translation_impl_128 : element_reading (reading r) ≡ false → RefusesAt Err (pivot_lcp_causes l r) 1 Malformed (pivot_lcp_answer l r)
  translation_impl_128 h = refuses_at _ _ (pivot_lcp_causes l r) 1 _ _ _ refl (or_right (too_long l) _ (not_fails _ h))

-- lent a key and the record of an element
module _ (l : Key) (r : Element) (s : length l ≤ max_len) (h : short_element r ≡ true) where
  lcp_lent : first (pivot_lcp_causes l (encode r)) ≡ none
  unfolding outcome
  lcp_lent = let e = element_lent r h in rw (e.one, not_too_long l s, e.right)

  lcp_answer : pivot_lcp_answer l (encode r) ≡ Ok (length (PivotLcp (key l) r))
  lcp_answer = accepted _ _ (pivot_lcp_causes l (encode r)) lcp_lent ∙ rw (element_lent r h).stands

  -- the prefix is that many bytes of left
  lcp_part : (pivot_lcp_answer l (encode r) ≡ Ok (length (PivotLcp (key l) r))) × (take (length (PivotLcp (key l) r)) l ≡ PivotLcp (key l) r)
  lcp_part = (lcp_answer, prefix_is_take (PivotLcp (key l) r) l (prefix_of_left l r))

-- ensures len as nat == |PivotLcp(left, right)|
pub translation_impl_129 : (left right : Element) → ElementIsKey left ≡ true → short_element right ≡ true
    → pivot_lcp_answer (key_of left) (encode right) ≡ Ok (length (PivotLcp left right))
translation_impl_129 (key l) right s h = lcp_answer l right (leb-true (length l) max_len s) h
translation_impl_129 max right s h = absurd (false≢true s)

-- ensures prefix == PivotLcp(left, right)
-- the first bytes of left, as many as the call answers
pub translation_impl_141 : (left right : Element) → ElementIsKey left ≡ true → short_element right ≡ true
    → (pivot_lcp_answer (key_of left) (encode right) ≡ Ok (length (PivotLcp left right)))
    × (take (length (PivotLcp left right)) (key_of left) ≡ PivotLcp left right)
translation_impl_141 (key l) right s h = lcp_part l right (leb-true (length l) max_len s) h
translation_impl_141 max right s h = absurd (false≢true s)

module _ (l : Key) (s : length l ≤ max_len) where
  -- ensures len as nat == |lcpright(left)|
  pub translation_impl_72 : pivot_lcp_answer l (encode max) ≡ Ok (length (lcpright l))
  translation_impl_72 = unfold PivotLcp in lcp_answer l max s refl

  -- ensures prefix == lcpright(left)
  -- the first bytes of left, as many as the call answers
  pub translation_impl_85 : (pivot_lcp_answer l (encode max) ≡ Ok (length (lcpright l))) × (take (length (lcpright l)) l ≡ lcpright l)
  translation_impl_85 = unfold PivotLcp in lcp_part l max s refl

  module _ (r : Key) (h : length r ≤ max_len) where
    -- ensures len as nat == |lcp(left, right)|
    pub translation_impl_92 : pivot_lcp_answer l (encode (key r)) ≡ Ok (length (lcp l r))
    translation_impl_92 = unfold PivotLcp in lcp_answer l (key r) s (le-leb (length r) max_len h)

    -- ensures prefix == lcp(left, right)
    -- the first bytes of left, as many as the call answers
    pub translation_impl_120 : (pivot_lcp_answer l (encode (key r)) ≡ Ok (length (lcp l r))) × (take (length (lcp l r)) l ≡ lcp l r)
    translation_impl_120 = unfold PivotLcp in lcp_part l (key r) s (le-leb (length r) max_len h)

-- ---- the upper bound of a prefix

-- ensures upper == ShortestUncommonPrefix(prefix, |prefix|)
pub translation_impl_200 : (p : Key) (d : List ℕ) → length p ≤ max_len → record_size ≤ length d
    → (uncommon_prefix_answer p d ≡ Ok 1) × (uncommon_prefix_leaves p d ≡ over (encode (ShortestUncommonPrefix p)) d)
translation_impl_200 p d s r =
    let h : first (uncommon_prefix_causes p d) ≡ none = unfold outcome in rw (not_too_long p s, le-ltb _ _ r) in
    (accepted _ _ (uncommon_prefix_causes p d) h, accepted _ _ (uncommon_prefix_causes p d) h)
