-- The pairs that calls make have prefixes of at most 64 bytes.
use mathlib.Core.Path.{◌≡◌, refl}
use mathlib.Core.Bool.{Bool, true, false, ◌||◌, true≢false}
use mathlib.Core.List.{List, []}
use mathlib.Core.Option.{Option, none, some}
use Prim.Native.Nat.{◌≤◌}
use native.Mathlib.Omega.{arith}
use borrow.Author.Tests.{ltb-false}
use lib.ListN.{length}
use Rattle.model.specs.declared.Refusal.{Refusal}
use Rattle.model.specs.declared.Refusal.TheVariants.{Malformed, NotPrefix, TooLong}
use Rattle.model.specs.keys.Key.{too_long}
use Rattle.model.specs.translation.PrefixSet.{PrefixSet, RevPrefixSet, ComposePrefixSet, long_pair}
use Rattle.model.specs.translation.PairState.{PairState, pair_of, state_with, state_of}
use Rattle.model.specs.calls.Refusals.{Cause, first}
use Rattle.model.specs.calls.PairCalls.{pair_beside, reverse_causes, reverse_pair, compose_causes, compose_pair}
use Rattle.model.proofs.calls.Refusals.{refused_by, passed, none_here, none_later}
use Rattle.pairs.proofs.Results.{long_reverse, not_long}

-- both lengths are at most 64
pub record Fitting (s : PairState) : Type 0 where
  pub old : s.old_length ≤ 64
  pub new : s.new_length ≤ 64

-- both lengths of the state of a pair that isn't long are at most 64
of_short : (o : Option PrefixSet) → long_pair o ≡ false → Fitting (state_of o)
unfolding state_of state_with long_pair
of_short none h = record { old = omega arith; new = omega arith }
of_short (some a) h = go (too_long a.prefix) refl h
  where
    go : (t : Bool) → too_long a.prefix ≡ t → (t || too_long a.new_prefix) ≡ false → Fitting (state_of (some a))
    go true i j = absurd (true≢false j)
    go false i j = record { old = ltb-false 64 (length a.prefix) i; new = ltb-false 64 (length a.new_prefix) j }

-- beside an answer both lengths are at most 64, where a pair that is accepted is not long
pub beside_fits : (cs : List Cause) (o : Option PrefixSet) → (first cs ≡ none → long_pair o ≡ false) → Fitting (pair_beside cs o)
beside_fits cs o h = go (first cs) refl
  where
    go : (r : Option Refusal) → first cs ≡ r → Fitting (pair_beside cs o)
    go none e = rw (← passed (λ (_ : Refusal). state_of none) (state_of o) (state_of o) cs e refl) (of_short o (h e))
    go (some r) e = rw (← refused_by (λ (_ : Refusal). state_of none) (state_of o) (state_of none) cs r e refl) (of_short none (unfold long_pair in refl))

-- ---- by call

-- a reversed pair
pub reverse_fits : (s : PairState) → Fitting (reverse_pair s)
reverse_fits s =
    beside_fits (reverse_causes s) (RevPrefixSet (pair_of s)) (λ e. rw (long_reverse (pair_of s)) (not_long s (none_here _ Malformed [] e)))

-- a composed one
pub compose_fits : (s t : PairState) → Fitting (compose_pair s t)
compose_fits s t =
    beside_fits (compose_causes s t) (ComposePrefixSet (pair_of s) (pair_of t))
    (λ e. none_here _ TooLong [] (none_later _ NotPrefix _ (none_later _ Malformed _ e)))
