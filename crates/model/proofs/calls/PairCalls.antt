-- What the methods of a pair answer: reversing undoes, composing undoes the second pair and does the first, and its 8 loses no pair of use.
use Rattle.std.specs.Prelude.{Ok, Err}
use mathlib.Core.Path.{◌≡◌, refl, sym, ap, ◌∙◌}
use mathlib.Core.Bool.{Bool, true, false, cond, not, ◌&&◌, ◌||◌}
use mathlib.Core.List.{List, []}
use mathlib.Core.Logic.{◌⊎◌, inl, inr}
use mathlib.Core.Option.{Option, none, some}
use Prim.Native.Nat.{ℕ, ◌≤◌}
use native.Mathlib.Omega.{arith}
use borrow.Author.Tests.{le-ltb, ltb-false, not-false}
use lib.Dec.{ltb}
use lib.ListN.{length, take, length-take}
use Rattle.model.specs.declared.Refusal.{Refusal}
use Rattle.model.specs.declared.Refusal.TheVariants.{Malformed, NotPrefix, TooLong}
use Rattle.model.specs.keys.Key.{Key, max_len, too_long}
use Rattle.model.specs.translation.PrefixSet.{PrefixSet, pair, RevPrefixSet, Begins, ApplyPrefixSet, Composable, ComposePrefixSet, long_pair}
use Rattle.model.specs.translation.PairState.{PairState, not_pair, pair_of, state_of}
use Rattle.model.specs.calls.Refusals.{outcome, first, over}
use Rattle.model.specs.calls.KeyCalls.{size_causes}
use Rattle.model.specs.calls.PairCalls.{there_number, reverse_pair, apply_causes, apply_answer, apply_leaves}
use Rattle.model.specs.calls.PairCalls.{compose_causes, compose_answer, compose_pair}
use Rattle.model.proofs.Lists.{take_over}
use Rattle.model.proofs.calls.Refusals.{passed, accepted, value_is, none_here, none_later}
use Rattle.model.proofs.calls.TableCalls.{not_too_long, either_fails}
use Rattle.model.proofs.translation.PairState.{state_pair, state_wrong}
use Rattle.model.proofs.translation.PrefixSet.{applied_begins, applied_back, composed_begins, composed_image, both_composable, composed_long}

-- a state without cause 2 stands for prefixes of at most 64 bytes
pub right_short : (s : PairState) → not_pair s ≡ false → long_pair (pair_of s) ≡ false
unfolding not_pair pair_of long_pair
right_short s h = go s.there h
  where
    short : (n : ℕ) (l : List ℕ) → ltb max_len n ≡ false → too_long (take n l) ≡ false
    short n l j = le-ltb max_len (length (take n l)) (omega (arith, ltb-false max_len n j, length-take n l))

    go : (t : Bool) → (t && (ltb max_len s.old_length || ltb max_len s.new_length)) ≡ false
        → long_pair (cond t (pair (take s.old_length s.old_bytes) (take s.new_length s.new_bytes)) none) ≡ false
    go true j =
        let w = either_fails (ltb max_len s.old_length) (ltb max_len s.new_length) j in
        rw (short s.old_length s.old_bytes w.0) (short s.new_length s.new_bytes w.1)
    go false j = refl

-- reversing changes no length
pub reversed_short : (o : Option PrefixSet) → long_pair o ≡ false → long_pair (RevPrefixSet o) ≡ false
unfolding RevPrefixSet long_pair
reversed_short none h = refl
reversed_short (some a) h = let w = either_fails (too_long a.prefix) (too_long a.new_prefix) h in rw w.1 w.0

-- where the pair is right, the key short and begun by the old prefix, only the sizes may be refused
pub only_apply_sizes : {A : Type 0} (f : Refusal → A) (v : A) (s : PairState) (k : Key) (d : List ℕ) → not_pair s ≡ false → length k ≤ max_len
    → Begins (pair_of s) k ≡ true → outcome f (apply_causes s k d) v ≡ outcome f (size_causes (ApplyPrefixSet (pair_of s) k) d) v
unfolding outcome
only_apply_sizes f v s k d h j b = rw (h, not_too_long k j, b)

-- where the state is that of a pair that isn't long, the key short and begun by the old prefix, only the sizes may be refused
pub only_state_sizes : {A : Type 0} (f : Refusal → A) (v : A) (o : Option PrefixSet) (k : Key) (d : List ℕ) → long_pair o ≡ false → length k ≤ max_len
    → Begins o k ≡ true → outcome f (apply_causes (state_of o) k d) v ≡ outcome f (size_causes (ApplyPrefixSet o k) d) v
unfolding outcome
only_state_sizes f v o k d h j b = rw (state_wrong o, h, state_pair o, not_too_long k j, b)

-- an image past 64 bytes is refused with 8
image_refused : (s : PairState) (k : Key) (d : List ℕ) → not_pair s ≡ false → length k ≤ max_len → Begins (pair_of s) k ≡ true
    → too_long (ApplyPrefixSet (pair_of s) k) ≡ true → apply_answer s k d ≡ Err TooLong
image_refused s k d h j b w = only_apply_sizes Err (Ok (length (ApplyPrefixSet (pair_of s) k))) s k d h j b ∙ (unfold outcome in rw w)

-- a disjunction that holds, holds on one side
either_holds : {A B : Type 0} (a b : Bool) → (a || b) ≡ true → (a ≡ true → A) → (b ≡ true → B) → A ⊎ B
either_holds true b h f g = inl (f refl)
either_holds false b h f g = inr (g h)

-- ---- a pair that was applied

module _ (s : PairState) (k : Key) (d : List ℕ) (n : ℕ) (h : apply_answer s k d ≡ Ok n) where
  no_cause : first (apply_causes s k d) ≡ none
  no_cause = accepted (apply_causes s k d) (length (ApplyPrefixSet (pair_of s) k)) (apply_answer s k d) refl n h

  fits : (not_pair s ≡ false) × (too_long k ≡ false)
  fits = either_fails (not_pair s) (too_long k) (none_here (not_pair s || too_long k) Malformed _ no_cause)

  -- it is right
  pub applied_right : not_pair s ≡ false
  applied_right = fits.0

  -- the key has at most 64 bytes
  pub applied_short : length k ≤ max_len
  applied_short = ltb-false max_len (length k) fits.1

  begun : Begins (pair_of s) k ≡ true
  begun = not-false (Begins (pair_of s) k) (none_here (not (Begins (pair_of s) k)) NotPrefix _ (none_later (not_pair s || too_long k) Malformed _ no_cause))

  -- the key's image has at most 64 bytes
  image_short : length (ApplyPrefixSet (pair_of s) k) ≤ max_len
  image_short =
      ltb-false max_len (length (ApplyPrefixSet (pair_of s) k))
      (none_here (too_long (ApplyPrefixSet (pair_of s) k)) TooLong _
      (none_later (not (Begins (pair_of s) k)) NotPrefix _ (none_later (not_pair s || too_long k) Malformed _ no_cause)))

  -- what it wrote is the key's image
  pub applied_image : take n (apply_leaves s k d) ≡ ApplyPrefixSet (pair_of s) k
  applied_image =
      let e : apply_leaves s k d ≡ over (ApplyPrefixSet (pair_of s) k) d = sym (passed (λ (_ : Refusal). d) _ _ (apply_causes s k d) no_cause refl) in
      rw (e, value_is (apply_causes s k d) _ (apply_answer s k d) refl n h) (take_over (ApplyPrefixSet (pair_of s) k) d)

  -- ---- and taken back

  back_right : reverse_pair s ≡ state_of (RevPrefixSet (pair_of s))
  unfolding outcome
  back_right = rw applied_right

  module _ (d' : List ℕ) (room : length k ≤ length d') where
    back_sizes : {A : Type 0} (f : Refusal → A) (v : A) → outcome f (apply_causes (reverse_pair s) (take n (apply_leaves s k d)) d') v ≡ v
    back_sizes f v =
        rw (back_right, applied_image)
        (only_state_sizes f v (RevPrefixSet (pair_of s)) (ApplyPrefixSet (pair_of s) k) d'
        (reversed_short (pair_of s) (right_short s applied_right)) image_short (applied_begins k (pair_of s))
        ∙ rw (applied_back k (pair_of s) begun) (unfold outcome in rw (not_too_long k applied_short, le-ltb (length d') (length k) room)))

    reversed_is : ApplyPrefixSet (pair_of (reverse_pair s)) (take n (apply_leaves s k d)) ≡ k
    reversed_is = rw (back_right, applied_image, state_pair (RevPrefixSet (pair_of s))) (applied_back k (pair_of s) begun)

    -- the reversed pair, applied to what was written, answers the key's length
    pub back_answer : apply_answer (reverse_pair s) (take n (apply_leaves s k d)) d' ≡ Ok (length k)
    back_answer = back_sizes Err (Ok _) ∙ ap (λ (x : Key). Ok (length x)) reversed_is

    -- the reversed pair, applied to what was written, writes the key
    pub back_leaves : apply_leaves (reverse_pair s) (take n (apply_leaves s k d)) d' ≡ over k d'
    back_leaves = back_sizes (λ (_ : Refusal). d') (over _ d') ∙ ap (λ (x : Key). over x d') reversed_is

-- ---- composing

module _ (s t : PairState) where
  module _ (m : ℕ) (h : compose_answer s t ≡ Ok m) where
    composed_none : first (compose_causes s t) ≡ none
    composed_none = accepted (compose_causes s t) (there_number (ComposePrefixSet (pair_of s) (pair_of t))) (compose_answer s t) refl m h

    -- both pairs are right
    both_right : (not_pair s ≡ false) × (not_pair t ≡ false)
    both_right = either_fails (not_pair s) (not_pair t) (none_here (not_pair s || not_pair t) Malformed _ composed_none)

    -- the composed pair is not too long, and it is the one beside the answer
    composed_short : long_pair (ComposePrefixSet (pair_of s) (pair_of t)) ≡ false
    composed_short =
        none_here (long_pair (ComposePrefixSet (pair_of s) (pair_of t))) TooLong []
        (none_later (not (Composable (pair_of s) (pair_of t))) NotPrefix _ (none_later (not_pair s || not_pair t) Malformed _ composed_none))

    composed_is : compose_pair s t ≡ state_of (ComposePrefixSet (pair_of s) (pair_of t))
    composed_is = sym (passed (λ (_ : Refusal). state_of none) _ _ (compose_causes s t) composed_none refl)

    -- k begins with both old prefixes, and the second pair takes it to x
    module _ (k : Key) (d : List ℕ) (n : ℕ) (j : apply_answer t k d ≡ Ok n) (b : Begins (pair_of s) k ≡ true) (d' : List ℕ) where
      same_image : ApplyPrefixSet (pair_of (compose_pair s t)) (take n (apply_leaves t k d)) ≡ ApplyPrefixSet (pair_of s) k
      same_image =
          rw (composed_is, applied_image t k d n j, state_pair (ComposePrefixSet (pair_of s) (pair_of t)))
          (composed_image (pair_of s) (pair_of t) k b (begun t k d n j))

      same_sizes : {A : Type 0} (f : Refusal → A) (v : A)
          → outcome f (apply_causes (compose_pair s t) (take n (apply_leaves t k d)) d') v ≡ outcome f (apply_causes s k d') v
      same_sizes f v =
          let o = ComposePrefixSet (pair_of s) (pair_of t) in
          let x = ApplyPrefixSet (pair_of t) k in
          let w = composed_begins (pair_of s) (pair_of t) k b (begun t k d n j) in
          rw (composed_is, applied_image t k d n j)
          (only_state_sizes f v o x d' composed_short (image_short t k d n j) w
          ∙ ap (λ (y : Key). outcome f (size_causes y d') v) (composed_image (pair_of s) (pair_of t) k b (begun t k d n j))
          ∙ sym (only_apply_sizes f v s k d' both_right.0 (applied_short t k d n j) b))

      -- the composed pair, applied to x, answers what the first pair answers of k, a refusal for length included
      pub composed_answer : apply_answer (compose_pair s t) (take n (apply_leaves t k d)) d' ≡ apply_answer s k d'
      composed_answer = same_sizes Err (Ok _) ∙ ap (λ (x : Key). outcome Err (apply_causes s k d') (Ok (length x))) same_image

      -- the composed pair, applied to x, leaves what the first pair leaves of k
      pub composed_leaves : apply_leaves (compose_pair s t) (take n (apply_leaves t k d)) d' ≡ apply_leaves s k d'
      composed_leaves = same_sizes (λ (_ : Refusal). d') (over _ d') ∙ ap (λ (x : Key). outcome (λ (_ : Refusal). d') (apply_causes s k d') (over x d')) same_image

  module _ (k : Key) (h : Begins (pair_of s) k ≡ true) (j : Begins (pair_of t) k ≡ true) where
    -- two pairs whose old prefixes begin one key are not refused with 7
    pub composed_not_seven : compose_answer s t ≡ Err NotPrefix → ⊥
    unfolding outcome
    composed_not_seven e = go (not_pair s || not_pair t) (long_pair o) (rw (both_composable (pair_of s) (pair_of t) k h j) at e)
      where
        o : Option PrefixSet
        o = ComposePrefixSet (pair_of s) (pair_of t)

        go : (x y : Bool) → cond x (Err Malformed) (cond y (Err TooLong) (Ok (there_number o))) ≡ Err NotPrefix → ⊥
        go true y e = let z : ◌≡◌ {A = ℕ} 0 1 = cc in omega arith
        go false true e = let z : ◌≡◌ {A = ℕ} 0 1 = cc in omega arith
        go false false e = let z : ◌≡◌ {A = ℕ} 0 1 = cc in omega arith

    module _ (e : compose_answer s t ≡ Err TooLong) where
      -- where they are refused with 8, both are right and the composed pair is too long
      eight : (not_pair s ≡ false) × (not_pair t ≡ false) × (long_pair (ComposePrefixSet (pair_of s) (pair_of t)) ≡ true)
      unfolding outcome
      eight = go (not_pair s || not_pair t) (long_pair o) refl refl (rw (both_composable (pair_of s) (pair_of t) k h j) at e)
        where
          o : Option PrefixSet
          o = ComposePrefixSet (pair_of s) (pair_of t)

          go : (x y : Bool) → (not_pair s || not_pair t) ≡ x → long_pair o ≡ y
              → cond x (Err Malformed) (cond y (Err TooLong) (Ok (there_number o))) ≡ Err TooLong
              → (not_pair s ≡ false) × (not_pair t ≡ false) × (long_pair o ≡ true)
          go true y p q e = let z : ◌≡◌ {A = ℕ} 0 1 = cc in absurd (omega arith)
          go false true p q e = let w = either_fails (not_pair s) (not_pair t) p in (w.0, w.1, q)
          go false false p q e = let z : ◌≡◌ {A = ℕ} 0 1 = cc in absurd (omega arith)

      -- where composing is refused with 8, one of the two pairs refuses each such key with 8, and no pair of use is lost
      pub composed_eight : (d : List ℕ) → length k ≤ max_len → (apply_answer s k d ≡ Err TooLong) ⊎ (apply_answer t k d ≡ Err TooLong)
      composed_eight d l = either_holds (too_long (ApplyPrefixSet (pair_of s) k)) (too_long (ApplyPrefixSet (pair_of t) k)) long
          (λ w. image_refused s k d eight.0 l h w) (λ w. image_refused t k d eight.1 l j w)
        where
          long : (too_long (ApplyPrefixSet (pair_of s) k) || too_long (ApplyPrefixSet (pair_of t) k)) ≡ true
          long = composed_long (pair_of s) (pair_of t) k (right_short s eight.0) (right_short t eight.1) h j eight.2
