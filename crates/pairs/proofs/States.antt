-- What a pair's state says: whether it is malformed, and the pair that it stands for; and what a result with one tells.
use Rattle.std.specs.Prelude.{Result, Ok, Err}
use mathlib.Core.Path.{◌≡◌, refl, sym, ap, ◌∙◌}
use mathlib.Core.Bool.{Bool, true, false, not, ◌&&◌, ◌||◌, true≢false}
use mathlib.Core.List.{List, []}
use mathlib.Core.Option.{none}
use Prim.Native.Nat.{ℕ, ◌≤◌, ◌<◌, min}
use native.Mathlib.Omega.{arith}
use borrow.Author.Tests.{lt-ltb, le-ltb, ltb-false, not-false, not-true}
use lib.Dec.{ltb}
use lib.ListN.{length, take, length-take}
use Rattle.model.specs.declared.Refusal.{Refusal}
use Rattle.model.specs.records.Record.{padded}
use Rattle.model.specs.inner.Written.{clipped}
use Rattle.model.specs.translation.PrefixSet.{pair}
use Rattle.model.specs.translation.PairState.{PairState, not_pair, pair_of, state_with, state_of}
use Rattle.model.specs.translation.PairRecord.{flag}
use Rattle.pairs.specs.State.{state, told_there, state_beside}
use Rattle.pairs.specs.declared.PrefixSet as code
use Rattle.model.proofs.Lists.{part_counts}

-- ---- the test

-- it is the code's
pub malformed_is : (y : Bool) (n m : ℕ) (a b : List ℕ)
    → (y && (ltb 64 n || ltb 64 m)) ≡ not_pair (record { there = y; old_length = n; new_length = m; old_bytes = a; new_bytes = b })
unfolding not_pair
malformed_is y n m a b = refl

module _ (s : PairState) where
  -- a pair that is there is malformed by its first length
  pub long_old : s.there ≡ true → 64 < s.old_length → true ≡ not_pair s
  unfolding not_pair
  long_old h i = rw (h, lt-ltb 64 s.old_length i)

  -- or by its second
  pub long_new : (t : Bool) → s.there ≡ true → s.old_length ≤ 64 → t ≡ ltb 64 s.new_length → t ≡ not_pair s
  unfolding not_pair
  long_new t h i e = rw (h, le-ltb 64 s.old_length i) e

  -- and an absent one is not
  pub not_there : s.there ≡ false → false ≡ not_pair s
  unfolding not_pair
  not_there h = rw h

-- what a test told holds
pub told_true : (t b : Bool) → t ≡ b → t ≡ true → b ≡ true
told_true t b e h = sym e ∙ h

-- or does not
pub told_false : (t b : Bool) → t ≡ b → t ≡ false → b ≡ false
told_false t b e h = sym e ∙ h

-- ---- what a result tells

module _ (p : code.PrefixSet) where
  -- of the absent pair 0
  pub told_absent : state p ≡ state_of none → told_there (Ok p) ≡ Ok 0
  unfolding state_of state_with
  told_absent h = ap (λ (s : PairState). Ok (flag s.there)) h

  -- of one that is there 1
  pub told_pair : (a b : List ℕ) → state p ≡ state_of (pair a b) → told_there (Ok p) ≡ Ok 1
  unfolding state_of state_with
  told_pair a b h = ap (λ (s : PairState). Ok (flag s.there)) h

-- of a refusal itself, and the absent pair
module _ (x : Result code.PrefixSet Refusal) (r : Refusal) (h : x ≡ Err r) where
  pub told_refused : told_there x ≡ Err r
  told_refused = rw h

  pub refused_beside : state_beside x ≡ state_of none
  refused_beside = rw h

pub ruleset telling = (told_absent, told_pair, told_refused, refused_beside)

-- ---- the pair

-- the absent pair has no byte
pub absent_is : record { there = false; old_length = 0; new_length = 0; old_bytes = padded []; new_bytes = padded [] } ≡ state_of none
unfolding state_of state_with
absent_is = refl

-- two prefixes in their arrays are a pair that is there
pub pair_is : (p q v w : List ℕ) (n m : ℕ) → n ≡ min (length p) 64 → m ≡ min (length q) 64 → v ≡ padded (clipped p) → w ≡ padded (clipped q)
    → ◌≡◌ {A = PairState} (record { there = true; old_length = n; new_length = m; old_bytes = v; new_bytes = w }) (state_of (pair (clipped p) (clipped q)))
unfolding state_of state_with clipped
pair_is p q v w n m a b c d =
    let x : n ≡ length (take 64 p) = rw length-take (omega arith) in
    let y : m ≡ length (take 64 q) = rw length-take (omega arith) in
    cc

-- the heads of two arrays, each in an array of its own, are a pair that is there
pub heads_are : (a b v w : List ℕ) (n m : ℕ) → n ≤ length a → m ≤ length b → v ≡ padded (take n a) → w ≡ padded (take m b)
    → ◌≡◌ {A = PairState} (record { there = true; old_length = n; new_length = m; old_bytes = v; new_bytes = w }) (state_of (pair (take n a) (take m b)))
unfolding state_of state_with
heads_are a b v w n m x y c d = cc (part_counts n a x, part_counts m b y)

-- a state that is not there stands for the absent pair
pub absent_of : (s : PairState) → not s.there ≡ true → pair_of s ≡ none
unfolding pair_of
absent_of s g = rw (not-true s.there g)

-- one that is there stands for the heads of its arrays
pub there_of : (s : PairState) → not s.there ≡ false → pair_of s ≡ pair (take s.old_length s.old_bytes) (take s.new_length s.new_bytes)
unfolding pair_of
there_of s g = rw (not-false s.there g)

-- two lengths of at most 64
pub record Short (n m : ℕ) : Type 0 where
  pub old : n ≤ 64
  pub new : m ≤ 64

-- the lengths of a state that is there and not malformed are at most 64
pub lengths : (s : PairState) → not_pair s ≡ false → not s.there ≡ false → Short s.old_length s.new_length
unfolding not_pair
lengths s f g =
    let h : (ltb 64 s.old_length || ltb 64 s.new_length) ≡ false = rw (not-false s.there g) at f in
    go (ltb 64 s.old_length) refl h
  where
    go : (t : Bool) → ltb 64 s.old_length ≡ t → (t || ltb 64 s.new_length) ≡ false → Short s.old_length s.new_length
    go true i h = absurd (true≢false h)
    go false i h = record { old = ltb-false 64 s.old_length i; new = ltb-false 64 s.new_length h }

-- the prefixes of such a state have at most 64 bytes
pub short_pair : (s : PairState) → not_pair s ≡ false → not s.there ≡ false
    → Short (length (take s.old_length s.old_bytes)) (length (take s.new_length s.new_bytes))
short_pair s f g =
    let l = lengths s f g in
    record {
      old = omega (arith, length-take s.old_length s.old_bytes);
      new = omega (arith, length-take s.new_length s.new_bytes);
    }

module _ (y t : Bool) (n m : ℕ) (a b : List ℕ)
    (e : t ≡ not_pair (record { there = y; old_length = n; new_length = m; old_bytes = a; new_bytes = b })) (f : t ≡ false) (g : not y ≡ false) where
  short : Short n m
  short = lengths _ (told_false t _ e f) g

  -- its prefixes end inside their arrays
  pub old_inside : n ≤ 64
  old_inside = short.old

  pub new_inside : m ≤ 64
  new_inside = short.new

  -- as the bounds of a slice ask for it
  pub old_ends : length a ≡ 64 → n ≤ length a
  old_ends l = omega (arith, short.old, l)

  pub new_ends : length b ≡ 64 → m ≤ length b
  new_ends l = omega (arith, short.new, l)
