-- A range under another prefix: its bounds rise, every key between them begins with the new prefix, and the keys of the range fill it exactly.
use mathlib.Core.Path.{◌≡◌, refl, sym, ap, ◌∙◌}
use mathlib.Core.Bool.{Bool, true, false, cond, ◌&&◌, true≢false}
use mathlib.Core.List.{◌++◌}
use Prim.Native.Nat.{◌+◌, ◌-◌, ◌≤◌}
use native.Mathlib.Omega.{arith}
use borrow.Author.Tests.{le-leb}
use lib.Dec.{leb}
use lib.ListN.{length, drop}
use Rattle.model.specs.keys.Key.{Key, Bytes, max_len, IsPrefix, change_prefix}
use Rattle.model.specs.keys.Order.{Element, key, max, lte, lt}
use Rattle.model.specs.ranges.RangePrefix.{PivotLcp, InBetween}
use Rattle.model.specs.ranges.UpperBound.{ShortestUncommonPrefix}
use Rattle.model.specs.tables.Tables.{short_element}
use Rattle.model.specs.translation.Renaming.{TranslateElement, translate_right, TranslatePivotPairInternal, Lacks, is_max, other}
use Rattle.model.proofs.keys.Key.{both, length_change, prefix_split, prefix_is_take, bytes_take}
use Rattle.model.proofs.keys.Order.{lte_trans, lte_antisym, false_lt, lt_lte, max_above, refuted}
use Rattle.model.proofs.keys.ChangePrefix.{change_begins, change_undone, change_bytes, change_lte, change_lt, between_shares}
use Rattle.model.proofs.ranges.RangePrefix.{prefix_lte, prefix_of_left, shared}
use Rattle.model.proofs.ranges.UpperBound.{upper_exact, upper_short}

-- ---- one element

-- a translated key is as long as the new prefix and what stood after the old one: the source's ElementIsKey holds up to 64 bytes, and else is refusal 8
pub element_short : (p q k : Key) → short_element (TranslateElement p q (key k)) ≡ leb (length q + (length k - length p)) max_len
unfolding TranslateElement
element_short p q k = rw (length_change p q k)

-- the new prefix begins it
pub element_begins : (p q k : Key) → (k' : Key) → TranslateElement p q (key k) ≡ key k' → IsPrefix q k' ≡ true
unfolding TranslateElement
element_begins p q k k' e = let f : change_prefix p q k ≡ k' = cc in rw (← f) (change_begins p q k)

-- translating it back gives the key
pub element_back : (p q k : Key) → IsPrefix p k ≡ true → TranslateElement q p (TranslateElement p q (key k)) ≡ key k
unfolding TranslateElement
element_back p q k h = ap key (change_undone p q k h)

-- the bound of a short prefix is short
upper_is_short : (q : Key) → length q ≤ max_len → short_element (ShortestUncommonPrefix q) ≡ true
upper_is_short q h = go (ShortestUncommonPrefix q) refl
  where
    go : (u : Element) → ShortestUncommonPrefix q ≡ u → short_element u ≡ true
    go (key k) e = le-leb (length k) max_len (omega (arith, upper_short q k e))
    go max e = refl

-- ---- the right bound

-- what holds of a translated key and of the new prefix's bound holds of the new right bound
pub right_cases : (P : Element → Type 0) (p q : Key) (r : Element)
    → ((k : Key) → r ≡ key k → IsPrefix p k ≡ true → P (key (change_prefix p q k))) → (Lacks p r → P (ShortestUncommonPrefix q)) → P (translate_right p q r)
unfolding translate_right TranslateElement
right_cases P p q (key k) f g = go (IsPrefix p k) refl
  where
    go : (t : Bool) → IsPrefix p k ≡ t → P (cond t (key (change_prefix p q k)) (ShortestUncommonPrefix q))
    go true e = f k refl e
    go false e = g (other e)
right_cases P p q max f g = g is_max

-- it is no longer than the new prefix and what stood after the old one, and so never too long where right lacks the prefix
pub right_short : (p q : Key) (r : Element) → Lacks p r → length q ≤ max_len → short_element (translate_right p q r) ≡ true
unfolding translate_right
right_short p q (key r) (other e) h = rw e (upper_is_short q h)
right_short p q max is_max h = upper_is_short q h

-- where left begins with the prefix and right lacks it, every key that begins with the prefix is below right
above_all : (p l k : Key) (r : Element) → IsPrefix p l ≡ true → IsPrefix p k ≡ true → lt (key l) r ≡ true → Lacks p r → lt (key k) r ≡ true
above_all p l k max h j i is_max = max_above k
above_all p l k (key r) h j i (other e) = false_lt (key k) (key r) (refuted (lte (key r) (key k)) (λ w. go w (lte (key k) (key r)) refl))
  where
    go : lte (key r) (key k) ≡ true → (t : Bool) → lte (key k) (key r) ≡ t → ⊥
    go w true u =
        let f : r ≡ k = cc (lte_antisym (key r) (key k) w u) in
        true≢false (sym (rw (← f) at j) ∙ e)
    go w false u =
        let a : lte (key (p ++ drop (length p) l)) (key r) ≡ true = rw (prefix_split p l h) (lt_lte (key l) (key r) i) in
        let b : lt (key r) (key (p ++ drop (length p) k)) ≡ true = rw (prefix_split p k j) (false_lt (key r) (key k) u) in
        true≢false (sym (between_shares p (drop (length p) l) (drop (length p) k) r a b) ∙ e)

-- ---- the pair

-- the new bounds of the range from l to r
abbrev new_left : Key → Element → Key → Key → Element
new_left l r p q = (TranslatePivotPairInternal (key l) r p q).left

abbrev new_right : Key → Element → Key → Key → Element
new_right l r p q = (TranslatePivotPairInternal (key l) r p q).right

module _ (p q l : Key) (r : Element) (h : IsPrefix p l ≡ true) (b : Bytes q) where
  -- a changed key is below the new prefix's bound
  under_upper : (k : Key) → Bytes k → lt (key (change_prefix p q k)) (ShortestUncommonPrefix q) ≡ true
  under_upper k c =
      upper_exact q (change_prefix p q k) (change_bytes p q k b c) (prefix_lte q (change_prefix p q k) (change_begins p q k)) ∙ change_begins p q k

  -- a left bound below the right one stays below it
  pub pair_rises : Bytes l → lt (key l) r ≡ true → lt (new_left l r p q) (new_right l r p q) ≡ true
  unfolding TranslatePivotPairInternal TranslateElement
  pair_rises c i =
      right_cases (λ u. lt (key (change_prefix p q l)) u ≡ true) p q r
      (λ k e j. change_lt p q l k h j ∙ rw e at i) (λ _. under_upper l c)

  -- every key between the new bounds begins with the new prefix
  pub pair_shares : (k : Key) → Bytes k → InBetween (new_left l r p q) (new_right l r p q) k ≡ true → IsPrefix q k ≡ true
  unfolding TranslatePivotPairInternal TranslateElement
  pair_shares k c i =
      let w = both (lte (key (change_prefix p q l)) (key k)) (lt (key k) (translate_right p q r)) i in
      right_cases (λ u. lt (key k) u ≡ true → IsPrefix q k ≡ true) p q r
      (λ m e j v. between_shares q (drop (length p) l) (drop (length p) m) k (unfold change_prefix in w.0) (unfold change_prefix in v))
      (λ _ v. sym (upper_exact q k c (lte_trans (key q) (key (change_prefix p q l)) (key k) (prefix_lte q _ (change_begins p q l)) w.0)) ∙ v)
      w.1

  -- a key that begins with the prefix is in the range if and only if its image is in the new one
  pub pair_exact : (k : Key) → Bytes k → IsPrefix p k ≡ true → lt (key l) r ≡ true
      → InBetween (key l) r k ≡ InBetween (new_left l r p q) (new_right l r p q) (change_prefix p q k)
  unfolding TranslatePivotPairInternal TranslateElement
  pair_exact k c j i =
      ap (λ (t : Bool). t && lt (key k) r) (sym (change_lte p q l k h j))
      ∙ ap (λ (t : Bool). lte (key (change_prefix p q l)) (key (change_prefix p q k)) && t)
      (right_cases (λ u. lt (key k) r ≡ lt (key (change_prefix p q k)) u) p q r
      (λ m e n. rw e (sym (change_lt p q k m j n))) (λ w. above_all p l k r h j i w ∙ sym (under_upper k c)))

-- where the prefix is the range's own, the images of the range's keys are the keys of the new range
module _ (q l : Key) (r : Element) (b : Bytes q) (c : Bytes l) (i : lt (key l) r ≡ true) where
  abbrev own : Key
  own = PivotLcp (key l) r

  bytes_own : Bytes (PivotLcp (key l) r)
  bytes_own = rw (prefix_is_take (PivotLcp (key l) r) l (prefix_of_left l r)) at (bytes_take (length (PivotLcp (key l) r)) l c)

  -- each key of the range has its image in the new range
  pub pair_fills : (k : Key) → Bytes k → InBetween (key l) r k ≡ true → InBetween (new_left l r own q) (new_right l r own q) (change_prefix own q k) ≡ true
  pair_fills k d j = sym (pair_exact own q l r (prefix_of_left l r) b k d (shared l r k d j) i) ∙ j

  module _ (k : Key) (d : Bytes k) (j : InBetween (new_left l r own q) (new_right l r own q) k ≡ true) where
    -- each key of the new range is the image of the one that changing back gives
    pub pair_filled_image : change_prefix own q (change_prefix q own k) ≡ k
    pair_filled_image = change_undone q own k (pair_shares own q l r (prefix_of_left l r) b k d j)

    -- which is in the range
    pub pair_filled : InBetween (key l) r (change_prefix q own k) ≡ true
    pair_filled =
        pair_exact own q l r (prefix_of_left l r) b (change_prefix q own k) (change_bytes q own k bytes_own d) (change_begins q own k) i
        ∙ rw pair_filled_image j
