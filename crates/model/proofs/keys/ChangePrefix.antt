-- Changing a prefix: the new one begins the changed key, changing it back undoes it, and keys that begin with it keep their order.
use mathlib.Core.Path.{◌≡◌, refl, sym, ap, ◌∙◌}
use mathlib.Core.Bool.{true, not}
use mathlib.Core.List.{[], ◌∷◌, ◌++◌}
use native.Mathlib.Omega.{arith}
use lib.ListN.{length, drop}
use lib.Seq.{drop-append_seam}
use Rattle.model.specs.keys.Key.{Key, Bytes, IsPrefix, change_prefix}
use Rattle.model.specs.keys.Order.{key, lte, lt}
use Rattle.model.proofs.keys.Key.{prefix_next, prefix_append, prefix_split, bytes_append, bytes_drop}
use Rattle.model.proofs.keys.Order.{Lte, Lt, first-Lte, first-Lt, rest-Lte, rest-Lt, to-Lte, to-Lt, lte_key-same, lt_false}

module _ (p q k : Key) where
  -- the new prefix begins the changed key
  pub change_begins : IsPrefix q (change_prefix p q k) ≡ true
  unfolding change_prefix
  change_begins = prefix_append q (drop (length p) k)

  -- changing it back gives the key
  pub change_undone : IsPrefix p k ≡ true → change_prefix q p (change_prefix p q k) ≡ k
  unfolding change_prefix
  change_undone h = rw (drop-append_seam q (drop (length p) k)) (prefix_split p k h)

  -- of bytes comes a key of bytes
  pub change_bytes : Bytes q → Bytes k → Bytes (change_prefix p q k)
  unfolding change_prefix
  change_bytes b c = bytes_append q (drop (length p) k) b (bytes_drop (length p) k c)

-- what stands in front of both keys changes nothing of their order
pub lte_append : (q a b : Key) → lte (key (q ++ a)) (key (q ++ b)) ≡ lte (key a) (key b)
unfolding lte
lte_append [] a b = refl
lte_append (x ∷ q) a b = lte_key-same x (q ++ a) (q ++ b) ∙ lte_append q a b

-- the images of two keys that begin with the prefix stand as the keys do
module _ (p q a b : Key) (h : IsPrefix p a ≡ true) (k : IsPrefix p b ≡ true) where
  pub change_lte : lte (key (change_prefix p q a)) (key (change_prefix p q b)) ≡ lte (key a) (key b)
  unfolding change_prefix
  change_lte =
      lte_append q (drop (length p) a) (drop (length p) b)
      ∙ sym (lte_append p (drop (length p) a) (drop (length p) b))
      ∙ rw (prefix_split p a h, prefix_split p b k)

-- by a change of prefix below stays below
pub change_lt : (p q a b : Key) → IsPrefix p a ≡ true → IsPrefix p b ≡ true → lt (key (change_prefix p q a)) (key (change_prefix p q b)) ≡ lt (key a) (key b)
change_lt p q a b h k = ap not (change_lte p q b a k h)

shares : (q a b k : Key) → Lte (q ++ a) k → Lt k (q ++ b) → IsPrefix q k ≡ true
unfolding IsPrefix
shares [] a b k h j = refl
shares (x ∷ q) a b [] h j = elim h [ ]
shares (x ∷ q) a b (y ∷ k) h j =
    let e : x ≡ y = omega (arith, first-Lte h, first-Lt j) in
    rw (← e) (prefix_next x q k ∙ shares q a b k (rest-Lte h e) (rest-Lt j (sym e)))

-- a key between two that begin with q begins with q
pub between_shares : (q a b k : Key) → lte (key (q ++ a)) (key k) ≡ true → lt (key k) (key (q ++ b)) ≡ true → IsPrefix q k ≡ true
unfolding lte
between_shares q a b k h j = shares q a b k (to-Lte (q ++ a) k h) (to-Lt k (q ++ b) (lt_false (key k) (key (q ++ b)) j))
