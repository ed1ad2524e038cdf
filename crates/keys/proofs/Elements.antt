-- The order of what two records stand for, by whether each says max.
use mathlib.Core.Path.{◌≡◌, refl, sym, ap, ◌∙◌}
use mathlib.Core.Bool.{Bool, true, false, cond, not}
use mathlib.Core.List.{List}
use Prim.Native.Nat.{ℕ}
use lib.Dec.{eqb}
use lib.IntN.{pos, negsuc}
use lib.Signed.{lt_z, le_z}
use Rattle.std.specs.Ordering.{is_lt, is_le}
use Rattle.std.specs.declared.cmp.Ordering.{Ordering}
use Rattle.std.specs.declared.cmp.Ordering.TheVariants.{Less, Equal, Greater}
use Rattle.model.specs.keys.Order.{Element, key, max, lte, lt, cmp, sign, passes}
use Rattle.model.specs.records.Record.{length_field, key_bytes, element, max_mark}
use Rattle.model.proofs.keys.Order.{lt_lte}

module _ (a b : List ℕ) (t u : Bool) (p : t ≡ eqb (length_field a) max_mark) (q : u ≡ eqb (length_field b) max_mark) where
  pub both_max : t ≡ true → u ≡ true → sign Equal ≡ cmp (element a) (element b)
  unfolding element cmp lte
  both_max h k = rw (← p, ← q, h, k)

  pub left_max : t ≡ true → u ≡ false → sign Greater ≡ cmp (element a) (element b)
  unfolding element cmp lte
  left_max h k = rw (← p, ← q, h, k)

  pub right_max : t ≡ false → u ≡ true → sign Less ≡ cmp (element a) (element b)
  unfolding element cmp lte
  right_max h k = rw (← p, ← q, h, k)

  pub two_keys : (x y : List ℕ) (o : Ordering) → t ≡ false → u ≡ false → x ≡ key_bytes a → y ≡ key_bytes b → sign o ≡ cmp (key x) (key y)
      → sign o ≡ cmp (element a) (element b)
  unfolding element
  two_keys x y o h k v w e = e ∙ rw (← p, ← q, h, k, ← v, ← w)

-- ---- the order's sign

sign_lt : (a b : Element) → lt_z (cmp a b) (pos 0) ≡ lt a b
unfolding cmp
sign_lt a b = go (lt a b) (lt b a)
  where
    go : (s t : Bool) → lt_z (cond s (negsuc 0) (cond t (pos 1) (pos 0))) (pos 0) ≡ s
    go true t = refl
    go false true = refl
    go false false = refl

sign_lte : (a b : Element) → le_z (cmp a b) (pos 0) ≡ lte a b
unfolding cmp
sign_lte a b = go (lt a b) (lte a b) refl refl
  where
    go : (s t : Bool) → lt a b ≡ s → lte a b ≡ t → le_z (cond s (negsuc 0) (cond (not t) (pos 1) (pos 0))) (pos 0) ≡ t
    go true t e f = sym (lt_lte a b e) ∙ f
    go false true e f = refl
    go false false e f = refl

told_less : (o : Ordering) → is_lt o ≡ lt_z (sign o) (pos 0)
told_less Less = refl
told_less Equal = refl
told_less Greater = refl

told_no_more : (o : Ordering) → is_le o ≡ le_z (sign o) (pos 0)
told_no_more Less = refl
told_no_more Equal = refl
told_no_more Greater = refl

module _ (a b : Element) (o : Ordering) (e : sign o ≡ cmp a b) where
  pub told_below : is_lt o ≡ lt a b
  told_below = told_less o ∙ ap (λ z. lt_z z (pos 0)) e ∙ sign_lt a b

  pub told_not_above : is_le o ≡ lte a b
  told_not_above = told_no_more o ∙ ap (λ z. le_z z (pos 0)) e ∙ sign_lte a b

-- what a record stands for, beside a key
module _ (r k : List ℕ) (strict t : Bool) (m : t ≡ eqb (length_field r) max_mark) where
  pub max_fails : t ≡ true → false ≡ passes strict (key k) (element r)
  unfolding element lte
  max_fails h = rw (← m, h) (go strict)
    where
      go : (s : Bool) → false ≡ passes s (key k) max
      go true = refl
      go false = refl

  module _ (x : List ℕ) (o : Ordering) (h : t ≡ false) (e : x ≡ key_bytes r) (w : sign o ≡ cmp (key x) (key k)) where
    pub key_below : strict ≡ true → is_lt o ≡ passes strict (key k) (element r)
    unfolding element
    key_below s = rw (← m, h, s, ← e) (told_below (key x) (key k) o w)

    pub key_not_above : strict ≡ false → is_le o ≡ passes strict (key k) (element r)
    unfolding element
    key_not_above s = rw (← m, h, s, ← e) (told_not_above (key x) (key k) o w)
