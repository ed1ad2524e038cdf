-- Prefix pairs: reversing undoes, composing undoes the second pair and then does the first, and no composed pair of use is too long.
use mathlib.Core.Path.{◌≡◌, refl, sym, ◌∙◌}
use mathlib.Core.Bool.{Bool, true, false, cond, ◌||◌, true≢false, or_comm, or-false}
use mathlib.Core.List.{◌++◌, append_assoc}
use mathlib.Core.Option.{Option, none, some}
use Prim.Native.Nat.{◌≤◌, ◌<◌}
use native.Mathlib.Omega.{arith}
use borrow.Author.Tests.{leb-true, leb-false, ltb-true, lt-ltb}
use lib.Dec.{leb}
use mathlib.Core.Logic.{⊎_elim}
use lib.ListN.{length, drop}
use lib.Seq.{drop-append_seam}
use Rattle.model.specs.keys.Key.{Key, max_len, too_long, IsPrefix, change_prefix}
use Rattle.model.specs.translation.PrefixSet.{PrefixSet, pair, RevPrefixSet, Begins, ApplyPrefixSet, Composable, ComposePrefixSet, long_pair}
use Rattle.model.proofs.keys.Key.{prefix_append, prefix_nested, prefix_length, beyond_trans, length_change}
use Rattle.model.proofs.keys.ChangePrefix.{change_begins, change_undone}
use Rattle.model.proofs.Lists.{le_or_lt}
use Rattle.model.proofs.calls.Refusals.{or_left, or_right}
use Rattle.model.proofs.calls.TableCalls.{either_fails}

module _ (k : Key) where
  -- the new prefix begins the changed key: ApplyPrefixSet's clause
  pub applied_begins : (o : Option PrefixSet) → Begins (RevPrefixSet o) (ApplyPrefixSet o k) ≡ true
  unfolding Begins RevPrefixSet ApplyPrefixSet
  applied_begins none = refl
  applied_begins (some a) = change_begins a.prefix a.new_prefix k

  -- reversing undoes
  pub applied_back : (o : Option PrefixSet) → Begins o k ≡ true → ApplyPrefixSet (RevPrefixSet o) (ApplyPrefixSet o k) ≡ k
  unfolding Begins RevPrefixSet ApplyPrefixSet
  applied_back none h = refl
  applied_back (some a) h = change_undone a.prefix a.new_prefix k h

-- reversing twice gives the pair
pub reversed_twice : (o : Option PrefixSet) → RevPrefixSet (RevPrefixSet o) ≡ o
unfolding RevPrefixSet
reversed_twice none = refl
reversed_twice (some a) = refl

-- ---- composing

-- where the first old prefix is not longer than the second, and both begin k
module _ (p q p' q' k : Key) (h : IsPrefix p k ≡ true) (h' : IsPrefix p' k ≡ true) where
  -- the pair from q' to the image of p' takes the second image to the first
  shorter : length p ≤ length p' → change_prefix q' (change_prefix p q p') (change_prefix p' q' k) ≡ change_prefix p q k
  unfolding change_prefix
  shorter l =
      rw (
        drop-append_seam q' (drop (length p') k),
        append_assoc q (drop (length p) p') (drop (length p') k),
        beyond_trans p p' k (prefix_nested p p' k h h' l) h',
      )

  -- and where it is longer, the second image is what the second pair makes of p, and what follows p
  seam : length p' ≤ length p → change_prefix p' q' k ≡ change_prefix p' q' p ++ drop (length p) k
  unfolding change_prefix
  seam l =
      rw (
        append_assoc q' (drop (length p') p) (drop (length p) k),
        beyond_trans p' p k (prefix_nested p' p k h' h l) h,
      )

  -- so the image of p begins it
  longer_begins : length p' ≤ length p → IsPrefix (change_prefix p' q' p) (change_prefix p' q' k) ≡ true
  longer_begins l = rw (seam l) (prefix_append (change_prefix p' q' p) (drop (length p) k))

  -- and the pair from it to q takes the second image to the first
  longer : length p' ≤ length p → change_prefix (change_prefix p' q' p) q (change_prefix p' q' k) ≡ change_prefix p q k
  longer l = rw (seam l) (unfold change_prefix in rw (drop-append_seam _ (drop (length p) k)))

-- the two forms of a composed pair
module _ (a b : PrefixSet) where
  on_shorter : Option PrefixSet
  on_shorter = pair b.new_prefix (ApplyPrefixSet (some a) b.prefix)

  on_longer : Option PrefixSet
  on_longer = pair (ApplyPrefixSet (some b) a.prefix) a.new_prefix

-- what is claimed of a composed pair c, for a key that begins with both old prefixes
record Composed (a b c : Option PrefixSet) (k : Key) : Type 0 where
  begins : Begins c (ApplyPrefixSet b k) ≡ true
  image : ApplyPrefixSet c (ApplyPrefixSet b k) ≡ ApplyPrefixSet a k

composed : (a b : Option PrefixSet) (k : Key) → Begins a k ≡ true → Begins b k ≡ true → Composed a b (ComposePrefixSet a b) k
unfolding ComposePrefixSet Begins ApplyPrefixSet on_shorter on_longer
composed none b k h j = record { begins = applied_begins k b; image = applied_back k b j }
composed (some a) none k h j = record { begins = h; image = refl }
composed (some a) (some b) k h j = go (leb (length a.prefix) (length b.prefix)) refl
  where
    go : (t : Bool) → leb (length a.prefix) (length b.prefix) ≡ t → Composed (some a) (some b) (cond t (on_shorter a b) (on_longer a b)) k
    go true e =
        let l = leb-true (length a.prefix) (length b.prefix) e in
        record {
          begins = change_begins b.prefix b.new_prefix k;
          image = shorter a.prefix a.new_prefix b.prefix b.new_prefix k h j l;
        }
    go false e =
        let l : length b.prefix ≤ length a.prefix = omega (arith, leb-false (length a.prefix) (length b.prefix) e) in
        record {
          begins = longer_begins a.prefix a.new_prefix b.prefix b.new_prefix k h j l;
          image = longer a.prefix a.new_prefix b.prefix b.new_prefix k h j l;
        }

module _ (a b : Option PrefixSet) (k : Key) (h : Begins a k ≡ true) (j : Begins b k ≡ true) where
  -- the composed pair's old prefix begins b's image of k
  pub composed_begins : Begins (ComposePrefixSet a b) (ApplyPrefixSet b k) ≡ true
  composed_begins = (composed a b k h j).begins

  -- the composed pair takes b's image of k to a's image
  pub composed_image : ApplyPrefixSet (ComposePrefixSet a b) (ApplyPrefixSet b k) ≡ ApplyPrefixSet a k
  composed_image = (composed a b k h j).image

-- two pairs whose old prefixes begin one key can be composed
pub both_composable : (a b : Option PrefixSet) (k : Key) → Begins a k ≡ true → Begins b k ≡ true → Composable a b ≡ true
unfolding Composable Begins
both_composable none b k h j = refl
both_composable (some a) none k h j = refl
both_composable (some a) (some b) k h j = ⊎_elim less more (le_or_lt (length a.prefix) (length b.prefix))
  where
    less : length a.prefix ≤ length b.prefix → (IsPrefix a.prefix b.prefix || IsPrefix b.prefix a.prefix) ≡ true
    less l = or_left (IsPrefix a.prefix b.prefix) (IsPrefix b.prefix a.prefix) (prefix_nested a.prefix b.prefix k h j l)

    more : length b.prefix < length a.prefix → (IsPrefix a.prefix b.prefix || IsPrefix b.prefix a.prefix) ≡ true
    more l = or_right (IsPrefix a.prefix b.prefix) (IsPrefix b.prefix a.prefix) (prefix_nested b.prefix a.prefix k j h (omega arith))

-- ---- a composed pair past 64 bytes

-- the image of what a key begins with is no longer than the key's image
image_grows : (p q x k : Key) → length x ≤ length k → too_long (change_prefix p q x) ≡ true → too_long (change_prefix p q k) ≡ true
image_grows p q x k l h =
    let w = ltb-true max_len (length (change_prefix p q x)) h in
    lt-ltb max_len (length (change_prefix p q k)) (omega (arith, length_change p q x, length_change p q k))

-- is one that no key misses: a's or b's image of each key that begins with both old prefixes passes 64 bytes too
pub composed_long : (a b : Option PrefixSet) (k : Key) → long_pair a ≡ false → long_pair b ≡ false → Begins a k ≡ true → Begins b k ≡ true
    → long_pair (ComposePrefixSet a b) ≡ true → (too_long (ApplyPrefixSet a k) || too_long (ApplyPrefixSet b k)) ≡ true
unfolding ComposePrefixSet RevPrefixSet Begins ApplyPrefixSet long_pair on_shorter on_longer
composed_long none none k s u h j l = absurd (true≢false (sym l))
composed_long none (some b) k s u h j l = absurd (true≢false (sym l ∙ or_comm (too_long b.new_prefix) (too_long b.prefix) ∙ u))
composed_long (some a) none k s u h j l = absurd (true≢false (sym l ∙ s))
composed_long (some a) (some b) k s u h j l = go (leb (length a.prefix) (length b.prefix)) l
  where
    x : Key
    x = change_prefix a.prefix a.new_prefix k

    y : Key
    y = change_prefix b.prefix b.new_prefix k

    go : (t : Bool) → long_pair (cond t (on_shorter a b) (on_longer a b)) ≡ true → (too_long x || too_long y) ≡ true
    go true l =
        let n = either_fails (too_long b.prefix) (too_long b.new_prefix) u in
        or_left (too_long x) (too_long y) (image_grows a.prefix a.new_prefix b.prefix k (prefix_length b.prefix k j) (rw n.1 at l))
    go false l =
        let n = either_fails (too_long a.prefix) (too_long a.new_prefix) s in
        or_right (too_long x) (too_long y) (image_grows b.prefix b.new_prefix a.prefix k (prefix_length a.prefix k h)
        (rw (n.1, or-false (too_long (change_prefix b.prefix b.new_prefix a.prefix))) at l))
