-- Prefixes of keys.
use mathlib.Core.Path.{◌≡◌, refl, sym, ap, ◌∙◌}
use mathlib.Core.List.{List, [], ◌∷◌, ◌++◌, append_assoc, append-nil}
use mathlib.Core.Bool.{Bool, true, false, cond, ◌&&◌, true≢false}
use Prim.Native.Nat.{ℕ, zero, suc, ◌+◌, ◌-◌, ◌≤◌}
use native.Mathlib.Omega.{arith}
use lib.Dec.{eqb, eqb-zero-suc, eqb-suc-suc}
use lib.ListN.{length, take, drop, get_or, length-append, length-drop, take-append-drop}
use lib.Seq.{take-append_seam, drop-append_seam, take-take}
use borrow.Author.Tests.{eqb-true, eqb-false, eq-eqb, ne_eqb}
use mir.Val.{Fits}
use mir.Syntax.{w8}
use Rattle.model.specs.keys.Key.{Key, Bytes, IsPrefix, change_prefix, common_run}

-- a conjunction holds on both sides
pub both : (s t : Bool) → (s && t) ≡ true → (s ≡ true) × (t ≡ true)
both true t h = (refl, h)
both false t h = absurd (true≢false (sym h))

-- a byte in front of both changes nothing
pub prefix_next : (a : ℕ) (p k : Key) → IsPrefix (a ∷ p) (a ∷ k) ≡ IsPrefix p k
unfolding IsPrefix
prefix_next a p k = rw (eq-eqb a a refl)

-- a list begins what is appended to it
pub prefix_append : (p k : Key) → IsPrefix p (p ++ k) ≡ true
unfolding IsPrefix
prefix_append [] k = refl
prefix_append (a ∷ p) k = prefix_next a p (p ++ k) ∙ prefix_append p k

-- a key is a prefix and what goes on beyond it
pub prefix_split : (p k : Key) → IsPrefix p k ≡ true → p ++ drop (length p) k ≡ k
unfolding IsPrefix
prefix_split [] k h = refl
prefix_split (a ∷ p) [] h = absurd (true≢false (sym h))
prefix_split (a ∷ p) (b ∷ k) h =
    let w = both (eqb a b) (IsPrefix p k) h in
    cc (eqb-true a b w.0, prefix_split p k w.1)

-- a key begins itself
pub prefix_refl : (k : Key) → IsPrefix k k ≡ true
prefix_refl k = rw append-nil at (prefix_append k [])

-- its first bytes begin a key
pub prefix_take : (n : ℕ) (k : Key) → IsPrefix (take n k) k ≡ true
prefix_take n k = rw (take-append-drop n k) at (prefix_append (take n k) (drop n k))

-- a prefix is a key's first bytes
pub prefix_is_take : (p k : Key) → IsPrefix p k ≡ true → take (length p) k ≡ p
prefix_is_take p k h = ap (take (length p)) (sym (prefix_split p k h)) ∙ take-append_seam p (drop (length p) k)

-- a prefix is no longer than the key
pub prefix_length : (p k : Key) → IsPrefix p k ≡ true → length p ≤ length k
prefix_length p k h = omega (arith, simp length-append at (ap length (prefix_split p k h)))

-- of two prefixes of a key the shorter begins the longer
pub prefix_nested : (p q k : Key) → IsPrefix p k ≡ true → IsPrefix q k ≡ true → length p ≤ length q → IsPrefix p q ≡ true
prefix_nested p q k h j i =
    let e : take (length p) q ≡ take (length p) k = rw (← prefix_is_take q k j, take-take) in
    rw (e, prefix_is_take p k h) at (prefix_take (length p) q)

module _ (p q r : Key) (h : IsPrefix p q ≡ true) (k : IsPrefix q r ≡ true) where
  -- the last key is the first and what goes on beyond each
  split_twice : p ++ (drop (length p) q ++ drop (length q) r) ≡ r
  split_twice = sym (append_assoc p (drop (length p) q) (drop (length q) r)) ∙ rw (prefix_split p q h) (prefix_split q r k)

  -- a prefix of a prefix is a prefix
  pub prefix_trans : IsPrefix p r ≡ true
  prefix_trans = rw split_twice at (prefix_append p (drop (length p) q ++ drop (length q) r))

  -- what goes on beyond p to q and beyond q to r goes on beyond p to r
  pub beyond_trans : drop (length p) q ++ drop (length q) r ≡ drop (length p) r
  beyond_trans = sym (drop-append_seam p (drop (length p) q ++ drop (length q) r)) ∙ ap (drop (length p)) split_twice

-- the common run does not depend on which key is first
pub common_comm : (a b : Key) → common_run a b ≡ common_run b a
unfolding common_run
common_comm [] [] = refl
common_comm [] (y ∷ b) = refl
common_comm (x ∷ a) [] = refl
common_comm (x ∷ a) (y ∷ b) = go (eqb x y) refl (common_comm a b)
  where
    go : (t : Bool) → eqb x y ≡ t → common_run a b ≡ common_run b a
        → cond t (x ∷ common_run a b) [] ≡ cond (eqb y x) (y ∷ common_run b a) []
    go true e r = let w = eqb-true x y e in rw (eq-eqb y x (sym w)) (cc)
    go false e r = rw (ne_eqb y x (λ w. eqb-false x y e (sym w)))

-- the common run is no longer than the left key
pub common_left : (a b : Key) → length (common_run a b) ≤ length a
unfolding common_run
common_left [] b = omega arith
common_left (x ∷ a) [] = omega arith
common_left (x ∷ a) (y ∷ b) = go (eqb x y) (common_left a b)
  where
    go : (t : Bool) → length (common_run a b) ≤ length a → length (cond t (x ∷ common_run a b) []) ≤ length (x ∷ a)
    go true h = omega arith
    go false h = omega arith

-- nor than the right one
pub common_right : (a b : Key) → length (common_run a b) ≤ length b
common_right a b = rw common_comm (common_left b a)

-- a key is a prefix where the common run is all of it
pub prefix_common : (p k : Key) → IsPrefix p k ≡ eqb (length (common_run p k)) (length p)
unfolding IsPrefix common_run
prefix_common [] k = refl
prefix_common (a ∷ p) [] = sym (eqb-zero-suc (length p))
prefix_common (a ∷ p) (b ∷ k) = go (eqb a b) (prefix_common p k)
  where
    go : (t : Bool) → IsPrefix p k ≡ eqb (length (common_run p k)) (length p)
        → (t && IsPrefix p k) ≡ eqb (length (cond t (a ∷ common_run p k) [])) (suc (length p))
    go true h = h ∙ sym (eqb-suc-suc (length (common_run p k)) (length p))
    go false h = sym (eqb-zero-suc (length p))

-- how long a key is whose prefix was changed
pub length_change : (p q k : Key) → length (change_prefix p q k) ≡ length q + (length k - length p)
unfolding change_prefix
length_change p q k = rw (length-append, length-drop)

-- bytes after bytes are bytes
pub bytes_append : (a b : List ℕ) → Bytes a → Bytes b → Bytes (a ++ b)
bytes_append [] b h k = k
bytes_append (x ∷ a) b h k = (h.0, bytes_append a b h.1 k)

-- the first of them are bytes
pub bytes_take : (n : ℕ) (l : List ℕ) → Bytes l → Bytes (take n l)
bytes_take zero l h = tt
bytes_take (suc n) [] h = tt
bytes_take (suc n) (x ∷ l) h = (h.0, bytes_take n l h.1)

-- those beyond the first of them are bytes
pub bytes_drop : (n : ℕ) (l : List ℕ) → Bytes l → Bytes (drop n l)
bytes_drop zero l h = h
bytes_drop (suc n) [] h = tt
bytes_drop (suc n) (x ∷ l) h = bytes_drop n l h.1

-- what owning a slice says of its bytes
pub bytes_of : (l : List ℕ) → ((i : ℕ) → Fits w8 (get_or l i 0)) → Bytes l
bytes_of [] f = tt
bytes_of (x ∷ l) f = ((f 0).fits, bytes_of l (λ i. f (suc i)))
