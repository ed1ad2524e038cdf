-- Two pairs that are there, composed by a change of prefix of the longer old prefix.
use Rattle.std.specs.Prelude.{Result, Ok, Err}
use mathlib.Core.Path.{◌≡◌, refl, sym, ap, ◌∙◌}
use mathlib.Core.Bool.{Bool, true, false, cond, not, ◌||◌, or_comm, or-false, false≢true}
use mathlib.Core.List.{List, [], ◌∷◌}
use mathlib.Core.Option.{Option, none, some}
use mathlib.Core.Logic.{⊎_elim}
use Prim.Native.Nat.{ℕ, ◌≤◌, ◌<◌}
use native.Mathlib.Omega.{arith}
use borrow.Author.Tests.{le-leb, lt-leb, le-ltb, lt-ltb}
use lib.Dec.{leb}
use lib.ListN.{length}
use Rattle.model.specs.declared.Refusal.{Refusal}
use Rattle.model.specs.declared.Refusal.TheVariants.{NotPrefix, TooLong}
use Rattle.model.specs.keys.Key.{Key, too_long, IsPrefix, change_prefix}
use Rattle.model.specs.inner.Written.{clipped}
use Rattle.model.specs.translation.PrefixSet.{PrefixSet, pair, ApplyPrefixSet, Composable, ComposePrefixSet, long_pair}
use Rattle.model.specs.records.Record.{zeros, padded}
use Rattle.model.specs.translation.PairState.{PairState, state_with, state_of}
use Rattle.model.specs.calls.Refusals.{Cause, ◌⇒◌, outcome, first, answer, over}
use Rattle.model.specs.calls.KeyCalls.{change_prefix_causes, change_prefix_answer, change_prefix_leaves}
use Rattle.model.specs.calls.PairCalls.{there_number, pair_answer, pair_beside, composition}
use Rattle.model.proofs.Lists.{clipped_all, le_or_lt}
use Rattle.model.proofs.keys.Key.{prefix_refl, prefix_nested}
use Rattle.model.proofs.calls.Refusals.{refused_by, passed, refused}
use Rattle.model.proofs.calls.KeyCalls.{change_accepted, change_counts}
use Rattle.model.proofs.calls.TableCalls.{not_too_long}
use Rattle.pairs.specs.State.{told_there, state_beside}
use Rattle.pairs.specs.declared.PrefixSet as code
use Rattle.pairs.proofs.Padding.{drop_zeros}
use Rattle.pairs.proofs.States.{told_refused, refused_beside}

-- of a change of prefix into 64 bytes, where all are short, only 7 and 8 may apply
change_refusals : Key → Key → Key → List Cause
change_refusals k p q = (not (IsPrefix p k) ⇒ NotPrefix) ∷ (too_long (change_prefix p q k) ⇒ TooLong) ∷ []

only_two : (k p q room : List ℕ) → length k ≤ 64 → length p ≤ 64 → length q ≤ 64 → length room ≡ 64
    → first (change_prefix_causes k p q room) ≡ first (change_refusals k p q)
unfolding outcome change_refusals
only_two k p q room a b c x =
    ⊎_elim
    (λ (h : length (change_prefix p q k) ≤ 64).
    rw (x, not_too_long k a, not_too_long p b, not_too_long q c, le-ltb 64 (length (change_prefix p q k)) h))
    (λ (h : 64 < length (change_prefix p q k)).
    rw (x, not_too_long k a, not_too_long p b, not_too_long q c, lt-ltb 64 (length (change_prefix p q k)) h))
    (le_or_lt (length (change_prefix p q k)) 64)

-- the shorter of two keys that agree begins the longer
shorter : (p k : Key) → length p ≤ length k → (IsPrefix p k || IsPrefix k p) ≡ IsPrefix p k
shorter p k h = go (IsPrefix p k) (IsPrefix k p) refl refl
  where
    go : (s t : Bool) → IsPrefix p k ≡ s → IsPrefix k p ≡ t → (s || t) ≡ s
    go true t e f = refl
    go false true e f = absurd (false≢true (sym e ∙ prefix_nested p k p (prefix_refl p) f h))
    go false false e f = refl

-- ---- which prefix is changed

module _ (ap aq bp bq : List ℕ) where
  -- where the first old prefix is not longer, the second is changed
  composed_second : length ap ≤ length bp → ComposePrefixSet (pair ap aq) (pair bp bq) ≡ pair bq (change_prefix ap aq bp)
  unfolding ComposePrefixSet ApplyPrefixSet
  composed_second h = rw (le-leb (length ap) (length bp) h)

  -- else the first
  composed_first : length bp < length ap → ComposePrefixSet (pair ap aq) (pair bp bq) ≡ pair (change_prefix bp bq ap) aq
  unfolding ComposePrefixSet ApplyPrefixSet
  composed_first h = rw (lt-leb (length ap) (length bp) h)

  -- the change has the causes of the composition
  module _ (room : List ℕ) (a : length ap ≤ 64) (b : length aq ≤ 64) (c : length bp ≤ 64) (d : length bq ≤ 64) (x : length room ≡ 64) where
    pub second_causes : length ap ≤ length bp → first (change_prefix_causes bp ap aq room) ≡ first (composition (pair ap aq) (pair bp bq))
    unfolding outcome Composable long_pair change_refusals
    second_causes h = only_two bp ap aq room c a b x ∙ rw (composed_second h, shorter ap bp h, not_too_long bq d)

    pub first_causes : length bp < length ap → first (change_prefix_causes ap bp bq room) ≡ first (composition (pair ap aq) (pair bp bq))
    unfolding outcome Composable long_pair change_refusals
    first_causes h =
        let i : length bp ≤ length ap = omega arith in
        only_two ap bp bq room a c d x
        ∙ rw (composed_first h, or_comm (IsPrefix ap bp) (IsPrefix bp ap), shorter bp ap i, not_too_long aq b, or-false (too_long (change_prefix bp bq ap)))

-- the pair composed of two that are there is there
one_there : (c d : PrefixSet) → 1 ≡ there_number (ComposePrefixSet (some c) (some d))
unfolding ComposePrefixSet there_number
one_there c d = go (leb (length c.prefix) (length d.prefix))
  where
    go : (t : Bool) → 1 ≡ there_number (cond t (pair d.new_prefix (ApplyPrefixSet (some c) d.prefix)) (pair (ApplyPrefixSet (some d) c.prefix) c.new_prefix))
    go true = refl
    go false = refl

-- ---- what the change answers

module _ (k p q room : List ℕ) (a : Result ℕ Refusal) (h : a ≡ change_prefix_answer k p q room) where
  -- its refusal is handed on
  module _ (r : Refusal) (f : a ≡ Err r) (cs : List Cause) (e : first (change_prefix_causes k p q room) ≡ first cs) where
    refusal : first cs ≡ some r
    refusal = sym e ∙ refused (change_prefix_causes k p q room) _ a h r f

    module _ (x : Result code.PrefixSet Refusal) (g : x ≡ Err r) where
      pub refusal_answer : (n : ℕ) → told_there x ≡ answer cs n
      refusal_answer n = refused_by Err _ _ cs r refusal (told_refused x r g)

      pub refusal_pair : (o : Option PrefixSet) → state_beside x ≡ pair_beside cs o
      refusal_pair o = refused_by (λ (_ : Refusal). state_of none) _ _ cs r refusal (refused_beside x r g)

  -- where it is accepted, the changed prefix stands at the head of its room
  module _ (n : ℕ) (f : a ≡ Ok n) where
    -- with zeros after it, where that was zeros
    whole : (w : List ℕ) → room ≡ zeros 64 → w ≡ change_prefix_leaves k p q room → w ≡ padded (change_prefix p q k)
    unfolding over
    whole w z g =
        g ∙ sym (passed (λ (_ : Refusal). room) _ _ (change_prefix_causes k p q room) (change_accepted k p q room a h n f) refl)
        ∙ rw (z, drop_zeros)

    -- and the pair that is made is the outcome
    module _ (cs : List Cause) (e : first (change_prefix_causes k p q room) ≡ first cs) where
      pub made_answer : (c d : PrefixSet) (x : Result ℕ Refusal) → x ≡ Ok 1 → x ≡ pair_answer cs (ComposePrefixSet (some c) (some d))
      made_answer c d x y = passed Err _ x cs (sym e ∙ change_accepted k p q room a h n f) (y ∙ ap Ok (one_there c d))

      pub made_pair : (o : Option PrefixSet) (z : PairState) → z ≡ state_of o → z ≡ pair_beside cs o
      made_pair o z y = passed (λ (_ : Refusal). state_of none) _ z cs (sym e ∙ change_accepted k p q room a h n f) y

-- the pair that is made is the composed one
module _ (ap aq bp bq room v w : List ℕ) (a : Result ℕ Refusal) (n : ℕ) (f : a ≡ Ok n) (z : room ≡ zeros 64) where
  pub second_made : a ≡ change_prefix_answer bp ap aq room → w ≡ change_prefix_leaves bp ap aq room → length bq ≤ 64 → length ap ≤ length bp
      → v ≡ padded (clipped bq)
      → ◌≡◌ {A = PairState} (record { there = true; old_length = length bq; new_length = n; old_bytes = v; new_bytes = w }) (state_of (ComposePrefixSet (pair ap aq) (pair bp bq)))
  unfolding state_of state_with
  second_made h g d i e =
      let x = change_counts bp ap aq room a h n f in
      let y = whole bp ap aq room a h n f w z g in
      let u = clipped_all bq d in
      rw (composed_second ap aq bp bq i, e, x, y, u) refl

  pub first_made : a ≡ change_prefix_answer ap bp bq room → w ≡ change_prefix_leaves ap bp bq room → length aq ≤ 64 → length bp < length ap
      → v ≡ padded (clipped aq)
      → ◌≡◌ {A = PairState} (record { there = true; old_length = n; new_length = length aq; old_bytes = w; new_bytes = v }) (state_of (ComposePrefixSet (pair ap aq) (pair bp bq)))
  unfolding state_of state_with
  first_made h g d i e =
      let x = change_counts ap bp bq room a h n f in
      let y = whole ap bp bq room a h n f w z g in
      let u = clipped_all aq d in
      rw (composed_first ap aq bp bq i, e, x, y, u) refl

pub ruleset composing = (second_causes, first_causes, refusal_answer, refusal_pair, made_answer, made_pair, second_made, first_made)
