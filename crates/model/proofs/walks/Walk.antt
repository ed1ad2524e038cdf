-- A walk's state stands for the walk that it was made of, and a step keeps what a walk is for: its pair takes its tag to its current key.
use mathlib.Core.Path.{◌≡◌, refl, sym}
use mathlib.Core.Bool.{Bool, true, false, ◌||◌, true≢false}
use mathlib.Core.List.{List}
use mathlib.Core.Option.{Option}
use Prim.Native.Nat.{ℕ, ◌≤◌}
use native.Mathlib.Omega.{arith}
use borrow.Author.Tests.{ltb-false}
use lib.Dec.{ltb}
use lib.ListN.{take, length-take}
use lib.Seq.{take-append_seam}
use Rattle.model.specs.keys.Key.{Key, max_len, too_long}
use Rattle.model.specs.keys.Order.{key, lte, same}
use Rattle.model.specs.translation.PrefixSet.{PrefixSet, RevPrefixSet, Begins, ApplyPrefixSet, Composable, ComposePrefixSet, long_pair}
use Rattle.model.specs.translation.PairState.{not_pair}
use Rattle.model.specs.walks.Walk.{Walk, StartWalk, takes_tag, WalkState, wrong_walk, walk_of, walk_state}
use Rattle.model.proofs.keys.Key.{both}
use Rattle.model.proofs.keys.Order.{lte_refl, lte_antisym}
use Rattle.model.proofs.calls.PairCalls.{right_short, reversed_short}
use Rattle.model.proofs.calls.TableCalls.{either_fails, not_too_long}
use Rattle.model.proofs.translation.PairState.{state_pair, state_wrong}
use Rattle.model.proofs.translation.PrefixSet.{applied_begins, applied_back, composed_begins, composed_image, both_composable, composed_long}

-- ---- the state

-- the walk that a state is made of is read back from it
pub state_walk : (w : Walk) → walk_of (walk_state w) ≡ w
unfolding walk_of walk_state
state_walk w = rw (take-append_seam w.tag _, take-append_seam w.current _, state_pair w.composed)

-- no length of a walk passes 64
pub record Short (w : Walk) : Type 0 where
  pub tag : too_long w.tag ≡ false
  pub current : too_long w.current ≡ false
  pub composed : long_pair w.composed ≡ false

-- to the state of such a walk cause 2 doesn't apply
pub short_right : (w : Walk) → Short w → wrong_walk (walk_state w) ≡ false
unfolding wrong_walk walk_state
short_right w h = rw (h.tag, h.current, state_wrong w.composed) h.composed

-- what it says that cause 2 doesn't apply to a state
module _ (s : WalkState) (h : wrong_walk s ≡ false) where
  lengths : (ltb max_len s.tag_length ≡ false) × (ltb max_len s.key_length ≡ false) × (not_pair s.pair_state ≡ false)
  unfolding wrong_walk
  lengths =
      let a = either_fails (ltb max_len s.tag_length || ltb max_len s.key_length) (not_pair s.pair_state) h in
      let b = either_fails (ltb max_len s.tag_length) (ltb max_len s.key_length) a.0 in
      (b.0, b.1, a.1)

  pub right_tag : s.tag_length ≤ max_len
  right_tag = ltb-false max_len s.tag_length lengths.0

  pub right_key : s.key_length ≤ max_len
  right_key = ltb-false max_len s.key_length lengths.1

  pub right_pair : not_pair s.pair_state ≡ false
  right_pair = lengths.2

  part_short : (n : ℕ) (l : List ℕ) → n ≤ max_len → too_long (take n l) ≡ false
  part_short n l i = not_too_long (take n l) (rw length-take (omega arith))

  -- the walk that it stands for has no length over 64
  pub right_short_walk : Short (walk_of s)
  unfolding walk_of
  right_short_walk =
      record {
        tag = part_short s.tag_length s.tag_bytes right_tag;
        current = part_short s.key_length s.current_bytes right_key;
        composed = right_short s.pair_state right_pair;
      }

-- ---- the pair takes the tag to the current key

pub record Takes (w : Walk) : Type 0 where
  pub begins : Begins w.composed w.tag ≡ true
  pub image : ApplyPrefixSet w.composed w.tag ≡ w.current

-- two keys that are the same by the order are equal
pub same_equal : (a b : Key) → same (key a) (key b) ≡ true → a ≡ b
same_equal a b h =
    let (i, j) = both (lte (key a) (key b)) (lte (key b) (key a)) h in
    let e = lte_antisym (key a) (key b) i j in
    cc

pub takes_says : (w : Walk) → takes_tag w ≡ true → Takes w
unfolding takes_tag
takes_says w h =
    let (b, e) = both (Begins w.composed w.tag) (same (key (ApplyPrefixSet w.composed w.tag)) (key w.current)) h in
    record { begins = b; image = same_equal (ApplyPrefixSet w.composed w.tag) w.current e }

pub says_takes : (w : Walk) → Takes w → takes_tag w ≡ true
unfolding takes_tag
says_takes w h = rw (h.begins, h.image, lte_refl (key w.current))

-- so does the absent pair of a walk that starts
pub start_takes : (t : Key) → Takes (StartWalk t)
unfolding StartWalk Begins ApplyPrefixSet
start_takes t = record { begins = refl; image = refl }

-- ---- a step by a slot's pair a, whose old prefix begins the current key
module _ (w : Walk) (h : Takes w) (a : Option PrefixSet) (g : Begins a w.current ≡ true) where
  -- the pair reversed takes the current key back to the tag
  back_begins : Begins (RevPrefixSet w.composed) w.current ≡ true
  back_begins = rw h.image at (applied_begins w.tag w.composed)

  back : ApplyPrefixSet (RevPrefixSet w.composed) w.current ≡ w.tag
  back = rw h.image at (applied_back w.tag w.composed h.begins)

  -- they can be composed
  pub onward_composable : Composable a (RevPrefixSet w.composed) ≡ true
  onward_composable = both_composable a (RevPrefixSet w.composed) w.current g back_begins

  -- the composed pair's old prefix begins the tag
  pub onward_begins : Begins (ComposePrefixSet a (RevPrefixSet w.composed)) w.tag ≡ true
  onward_begins = rw back at (composed_begins a (RevPrefixSet w.composed) w.current g back_begins)

  -- the composed pair takes the tag to what a makes of the current key
  pub onward_image : ApplyPrefixSet (ComposePrefixSet a (RevPrefixSet w.composed)) w.tag ≡ ApplyPrefixSet a w.current
  onward_image = rw back at (composed_image a (RevPrefixSet w.composed) w.current g back_begins)

  -- "The pair itself is never too long where the key isn't"
  pub onward_short : Short w → long_pair a ≡ false → too_long (ApplyPrefixSet a w.current) ≡ false
      → long_pair (ComposePrefixSet a (RevPrefixSet w.composed)) ≡ false
  onward_short s l n = go (long_pair (ComposePrefixSet a (RevPrefixSet w.composed))) refl
    where
      go : (x : Bool) → long_pair (ComposePrefixSet a (RevPrefixSet w.composed)) ≡ x → x ≡ false
      go false e = refl
      go true e =
          let long = composed_long a (RevPrefixSet w.composed) w.current l (reversed_short w.composed s.composed) g back_begins e in
          absurd (true≢false (sym (rw (n, back, s.tag) at long)))
