-- What the methods of a pair return, by its state.
use Rattle.std.specs.Prelude.{Result, Ok, Err}
use mathlib.Core.Path.{◌≡◌, refl, ◌∙◌}
use mathlib.Core.Bool.{Bool, true, false, not, or_comm, or-false}
use mathlib.Core.List.{List, ◌∷◌, map}
use mathlib.Core.Option.{Option, none, some}
use Prim.Native.Nat.{ℕ, ◌≤◌}
use native.Mathlib.Omega.{arith}
use borrow.Author.Rules.{length_unmapped}
use lib.ListN.{length, take}
use Rattle.model.specs.declared.Refusal.{Refusal}
use Rattle.model.specs.declared.Refusal.TheVariants.{Malformed}
use Rattle.model.specs.keys.Key.{Key, too_long, IsPrefix, change_prefix}
use Rattle.model.specs.records.Record.{padded}
use Rattle.model.specs.inner.Written.{clipped}
use Rattle.model.specs.translation.PrefixSet.{PrefixSet, pair, RevPrefixSet, Begins, ApplyPrefixSet, Composable, ComposePrefixSet, long_pair}
use Rattle.model.specs.translation.PairState.{PairState, not_pair, pair_of, state_of}
use Rattle.model.specs.calls.Refusals.{outcome, first, ◌⇒◌}
use Rattle.model.specs.calls.KeyCalls.{change_prefix_causes, change_prefix_answer, change_prefix_leaves}
use Rattle.model.specs.calls.PairCalls.{there_number, pair_answer, pair_beside, change_causes, composition, reverse_answer, reverse_pair, apply_answer, apply_leaves, compose_causes, compose_answer, compose_pair}
use Rattle.model.proofs.Lists.{clipped_all}
use Rattle.model.proofs.calls.Refusals.{passed}
use Rattle.model.proofs.calls.TableCalls.{not_too_long}
use Rattle.pairs.proofs.States.{told_false, heads_are, absent_of, there_of, Short, lengths, short_pair}

-- the prefixes of a state that is there
abbrev old_part : PairState → Key
old_part s = take s.old_length s.old_bytes

abbrev new_part : PairState → Key
new_part s = take s.new_length s.new_bytes

-- ---- reverse

module _ (s : PairState) (t : Bool) (e : t ≡ not_pair s) (f : t ≡ false) where
  right : not_pair s ≡ false
  right = told_false t _ e f

  module _ (g : not s.there ≡ true) where
    -- an absent pair stays absent
    pub reverse_absent : (x : Result ℕ Refusal) → x ≡ Ok 0 → x ≡ reverse_answer s
    unfolding outcome RevPrefixSet there_number
    reverse_absent x h = rw (right, absent_of s g) h

    pub reverse_none : (z : PairState) → z ≡ state_of none → z ≡ reverse_pair s
    unfolding outcome RevPrefixSet
    reverse_none z h = rw (right, absent_of s g) h

  module _ (g : not s.there ≡ false) where
    -- of one that is there the prefixes are exchanged
    pub reverse_there : (x : Result ℕ Refusal) → x ≡ Ok 1 → x ≡ reverse_answer s
    unfolding outcome RevPrefixSet there_number
    reverse_there x h = rw (right, there_of s g) h

    pub reverse_pair_lem : (v w : List ℕ) (z : PairState) → length (map (λ (b : ℕ). b) s.old_bytes) ≡ 64 → length (map (λ (b : ℕ). b) s.new_bytes) ≡ 64
        → v ≡ padded (new_part s) → w ≡ padded (old_part s)
        → z ≡ record { there = true; old_length = s.new_length; new_length = s.old_length; old_bytes = v; new_bytes = w } → z ≡ reverse_pair s
    unfolding outcome RevPrefixSet
    reverse_pair_lem v w z a b c d h =
        let l = lengths s right g in
        rw (right, there_of s g)
        (h
        ∙ heads_are s.new_bytes s.old_bytes v w s.new_length s.old_length
        (omega (arith, length_unmapped ℕ s.new_bytes 64 b)) (omega (arith, length_unmapped ℕ s.old_bytes 64 a)) c d)

-- ---- apply

-- a change of prefix is a pair applied, where both prefixes are short
as_pair : {A : Type 0} (f : Refusal → A) (v : A) (k p q d : List ℕ) → length p ≤ 64 → length q ≤ 64
    → outcome f (change_prefix_causes k p q d) v ≡ outcome f ((too_long k ⇒ Malformed) ∷ change_causes (pair p q) k d) v
unfolding outcome Begins ApplyPrefixSet
as_pair f v k p q d h i = rw (not_too_long p h, not_too_long q i, or-false (too_long k), or-false (too_long k))

-- an absent pair applied changes ε to ε
as_absent : {A : Type 0} (f : Refusal → A) (v : A) (k d : List ℕ)
    → outcome f (change_prefix_causes k (take 0 k) (take 0 k) d) v ≡ outcome f ((too_long k ⇒ Malformed) ∷ change_causes none k d) v
unfolding Begins ApplyPrefixSet IsPrefix change_prefix
as_absent f v k d = as_pair f v k (take 0 k) (take 0 k) d (omega arith) (omega arith)

module _ (s : PairState) (t : Bool) (e : t ≡ not_pair s) (f : t ≡ false) (k d : List ℕ) where
  module _ (g : not s.there ≡ true) where
    -- an absent pair leaves the key
    pub apply_absent : (x : Result ℕ Refusal) → x ≡ change_prefix_answer k (take 0 k) (take 0 k) d → x ≡ apply_answer s k d
    unfolding ApplyPrefixSet change_prefix
    apply_absent x h = rw (right s t e f, absent_of s g) (h ∙ as_absent _ _ k d)

    pub keep_absent : (w : List ℕ) → w ≡ change_prefix_leaves k (take 0 k) (take 0 k) d → w ≡ apply_leaves s k d
    unfolding ApplyPrefixSet change_prefix
    keep_absent w h = rw (right s t e f, absent_of s g) (h ∙ as_absent _ _ k d)

  module _ (g : not s.there ≡ false) where
    parts : Short (length (old_part s)) (length (new_part s))
    parts = short_pair s (right s t e f) g

    -- one that is there changes its prefix
    pub apply_there : (x : Result ℕ Refusal) → x ≡ change_prefix_answer k (old_part s) (new_part s) d → x ≡ apply_answer s k d
    unfolding ApplyPrefixSet
    apply_there x h = rw (right s t e f, there_of s g) (h ∙ as_pair _ _ k (old_part s) (new_part s) d parts.old parts.new)

    pub change_there : (w : List ℕ) → w ≡ change_prefix_leaves k (old_part s) (new_part s) d → w ≡ apply_leaves s k d
    unfolding ApplyPrefixSet
    change_there w h = rw (right s t e f, there_of s g) (h ∙ as_pair _ _ k (old_part s) (new_part s) d parts.old parts.new)

-- ---- compose

-- a reversed pair is long where the pair is
pub long_reverse : (o : Option PrefixSet) → long_pair (RevPrefixSet o) ≡ long_pair o
unfolding long_pair RevPrefixSet
long_reverse none = refl
long_reverse (some a) = or_comm (too_long a.new_prefix) (too_long a.prefix)

-- a pair that a state holds is not long
pub not_long : (s : PairState) → not_pair s ≡ false → long_pair (pair_of s) ≡ false
unfolding long_pair
not_long s f = go s.there refl
  where
    go : (y : Bool) → s.there ≡ y → long_pair (pair_of s) ≡ false
    go true g = let l = short_pair s f (rw g) in rw (there_of s (rw g), not_too_long (old_part s) l.old, not_too_long (new_part s) l.new)
    go false g = rw (absent_of s (rw g))

module _ (s r : PairState) (t u : Bool) (e : t ≡ not_pair s) (f : t ≡ false) (i : u ≡ not_pair r) (j : u ≡ false) where
  -- where the first is absent, the second is undone
  module _ (g : not s.there ≡ true) where
    undone : first (compose_causes s r) ≡ none
    unfolding outcome Composable ComposePrefixSet
    undone = rw (right s t e f, right r u i j, absent_of s g, long_reverse (pair_of r), not_long r (right r u i j))

    pub undo_answer : (x : Result ℕ Refusal) → x ≡ reverse_answer r → x ≡ compose_answer s r
    unfolding outcome ComposePrefixSet
    undo_answer x h = passed Err _ x (compose_causes s r) undone (rw (absent_of s g) (rw (right r u i j) at h))

    pub undo_pair : (z : PairState) → z ≡ reverse_pair r → z ≡ compose_pair s r
    unfolding outcome ComposePrefixSet
    undo_pair z h = passed (λ (_ : Refusal). state_of none) _ z (compose_causes s r) undone (rw (absent_of s g) (rw (right r u i j) at h))

  module _ (g : not s.there ≡ false) where
    -- where the second is absent, the first is done
    module _ (k : not r.there ≡ true) where
      done : first (compose_causes s r) ≡ none
      unfolding outcome Composable ComposePrefixSet
      done =
          let l : long_pair (pair (old_part s) (new_part s)) ≡ false = rw (there_of s g) at (not_long s (right s t e f)) in
          rw (right s t e f, right r u i j, absent_of r k, there_of s g, l)

      pub do_answer : (x : Result ℕ Refusal) → x ≡ Ok 1 → x ≡ compose_answer s r
      unfolding ComposePrefixSet there_number
      do_answer x h = passed Err _ x (compose_causes s r) done (rw (absent_of r k, there_of s g) h)

      pub do_pair : (z : PairState) → z ≡ state_of (pair (clipped (old_part s)) (clipped (new_part s))) → z ≡ compose_pair s r
      unfolding ComposePrefixSet
      do_pair z h =
          let l = short_pair s (right s t e f) g in
          passed (λ (_ : Refusal). state_of none) _ z (compose_causes s r) done
          (rw (absent_of r k, there_of s g) (rw (clipped_all (old_part s) l.old, clipped_all (new_part s) l.new) at h))

    -- where both are there, they are composed
    module _ (k : not r.there ≡ false) where
      pub both_answer : (x : Result ℕ Refusal)
          → x ≡ pair_answer (composition (pair (old_part s) (new_part s)) (pair (old_part r) (new_part r)))
          (ComposePrefixSet (pair (old_part s) (new_part s)) (pair (old_part r) (new_part r)))
          → x ≡ compose_answer s r
      unfolding outcome
      both_answer x h = rw (right s t e f, right r u i j, there_of s g, there_of r k) h

      pub both_pair : (z : PairState)
          → z ≡ pair_beside (composition (pair (old_part s) (new_part s)) (pair (old_part r) (new_part r)))
          (ComposePrefixSet (pair (old_part s) (new_part s)) (pair (old_part r) (new_part r)))
          → z ≡ compose_pair s r
      unfolding outcome
      both_pair z h = rw (right s t e f, right r u i j, there_of s g, there_of r k) h
