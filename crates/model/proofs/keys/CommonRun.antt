-- The order of two keys by their common run.
use mathlib.Core.Path.{◌≡◌, refl, sym}
use mathlib.Core.Bool.{Bool, true, false, cond}
use mathlib.Core.List.{[], ◌∷◌}
use Prim.Native.Nat.{ℕ, ◌≤◌, ◌<◌}
use native.Mathlib.Omega.{arith}
use borrow.Author.Tests.{eqb-true, eqb-false}
use lib.Dec.{eqb}
use lib.IntN.{pos, negsuc}
use lib.ListN.{length, drop, get_or, drop_of_length-le}
use Rattle.model.specs.keys.Key.{Key, common_run}
use Rattle.model.specs.keys.Order.{key, lte_key, lte, cmp}
use Rattle.model.proofs.Lists.{drop_step}
use Rattle.model.proofs.keys.Order.{lte_key-same, lte_key-above, cmp_less, cmp_more, cmp_same, lte_antisym}
use Rattle.model.proofs.keys.Key.{common_comm}

-- what follows the common run decides
pub order_after : (a b : Key) → lte_key (drop (length (common_run a b)) a) (drop (length (common_run a b)) b) ≡ lte_key a b
unfolding common_run
order_after [] b = refl
order_after (x ∷ a) [] = refl
order_after (x ∷ a) (y ∷ b) = go (eqb x y) refl (order_after a b)
  where
    go : (t : Bool) → eqb x y ≡ t → lte_key (drop (length (common_run a b)) a) (drop (length (common_run a b)) b) ≡ lte_key a b
        → lte_key (drop (length (cond t (x ∷ common_run a b) [])) (x ∷ a)) (drop (length (cond t (x ∷ common_run a b) [])) (y ∷ b))
        ≡ lte_key (x ∷ a) (y ∷ b)
    go true e h = rw (← eqb-true x y e, lte_key-same x a b) h
    go false e h = refl

differ_after : (a b : Key) → length (common_run a b) < length a → length (common_run a b) < length b
    → get_or a (length (common_run a b)) 0 ≡ get_or b (length (common_run a b)) 0 → ⊥
unfolding common_run
differ_after [] b = λ h k e. omega arith
differ_after (x ∷ a) [] = λ h k e. omega arith
differ_after (x ∷ a) (y ∷ b) = go (eqb x y) refl (differ_after a b)
  where
    go : (t : Bool) → eqb x y ≡ t
        → (length (common_run a b) < length a → length (common_run a b) < length b
        → get_or a (length (common_run a b)) 0 ≡ get_or b (length (common_run a b)) 0 → ⊥)
        → length (cond t (x ∷ common_run a b) []) < length (x ∷ a) → length (cond t (x ∷ common_run a b) []) < length (y ∷ b)
        → get_or (x ∷ a) (length (cond t (x ∷ common_run a b) [])) 0 ≡ get_or (y ∷ b) (length (cond t (x ∷ common_run a b) [])) 0 → ⊥
    go true e r h k q = r (omega arith) (omega arith) q
    go false e r h k q = eqb-false x y e q

-- the common run has n bytes
module _ (a b : Key) (n : ℕ) (e : n ≡ length (common_run a b)) where
  forth : lte_key (drop n a) (drop n b) ≡ lte_key a b
  forth = rw e (order_after a b)

  back : lte_key (drop n b) (drop n a) ≡ lte_key b a
  back = rw (e, common_comm a b) (order_after b a)

  -- where both keys go on after the common run, they differ
  pub differ_at : n < length a → n < length b → get_or a n 0 ≡ get_or b n 0 → ⊥
  differ_at = rw e (differ_after a b)

  pub cmp_below : n < length a → n < length b → get_or a n 0 < get_or b n 0 → negsuc 0 ≡ cmp (key a) (key b)
  unfolding lte
  cmp_below h k p =
      sym (cmp_less (key a) (key b) (rw (← back, drop_step a n h, drop_step b n k, lte_key-above (get_or b n 0) (get_or a n 0) _ _ p)))

  pub cmp_above : n < length a → n < length b → get_or b n 0 ≤ get_or a n 0 → pos 1 ≡ cmp (key a) (key b)
  unfolding lte
  cmp_above h k p =
      let q : get_or b n 0 < get_or a n 0 = omega (arith, differ_at h k) in
      sym (cmp_more (key a) (key b) (rw (← forth, drop_step a n h, drop_step b n k, lte_key-above (get_or a n 0) (get_or b n 0) _ _ q)))

  pub cmp_longer : n < length a → length b ≤ n → pos 1 ≡ cmp (key a) (key b)
  unfolding lte lte_key
  cmp_longer h k = sym (cmp_more (key a) (key b) (rw (← forth, drop_step a n h, drop_of_length-le b k)))

  pub cmp_shorter : length a ≤ n → n < length b → negsuc 0 ≡ cmp (key a) (key b)
  unfolding lte lte_key
  cmp_shorter h k = sym (cmp_less (key a) (key b) (rw (← back, drop_step b n k, drop_of_length-le a h)))

  pub cmp_equal : length a ≤ n → length b ≤ n → pos 0 ≡ cmp (key a) (key b)
  unfolding lte lte_key
  cmp_equal h k =
      let p : lte_key a b ≡ true = rw (← forth, drop_of_length-le a h) in
      let q : lte_key b a ≡ true = rw (← back, drop_of_length-le b k) in
      sym (rw (← lte_antisym (key a) (key b) p q) (cmp_same (key a)))
