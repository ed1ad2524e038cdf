-- TranslationLib, lines 154 to 194: the pair of a key's slot, and pairs applied and composed.
use Rattle.std.specs.Prelude.{Ok, Err}
use mathlib.Core.Path.{◌≡◌, refl, ◌∙◌}
use mathlib.Core.Bool.{Bool, true, false, ◌||◌, false≢true, or_comm}
use mathlib.Core.List.{List}
use mathlib.Core.Option.{Option, none, some}
use Prim.Native.Nat.{ℕ, ◌≤◌, ◌<◌}
use native.Mathlib.Omega.{arith}
use lib.ListN.{length}
use Rattle.model.specs.declared.Refusal.TheVariants.{NotPrefix}
use Rattle.model.specs.declared.Refusal.{Refusal}
use Rattle.model.specs.keys.Key.{Key, Bytes, max_len, IsPrefix}
use Rattle.model.specs.tables.Tables.{PivotTable, EdgeTable, WFPivots, BoundedKey}
use Rattle.model.specs.translation.PrefixSet.{PrefixSet, RevPrefixSet, Begins, ApplyPrefixSet, Composable, long_pair}
use Rattle.model.specs.translation.PairState.{PairState, pair_of, state_of}
use Rattle.model.specs.translation.Translation.{Translate}
use Rattle.model.specs.calls.Refusals.{outcome, over}
use Rattle.model.specs.calls.KeyCalls.{size_causes}
use Rattle.model.specs.calls.PairCalls.{apply_causes, apply_answer, apply_leaves, compose_answer, compose_causes}
use Rattle.model.proofs.keys.Key.{prefix_refl, prefix_nested}
use Rattle.model.proofs.translation.PrefixSet.{applied_begins}
use Rattle.model.proofs.translation.PairState.{state_pair}
use Rattle.model.proofs.cuts.Preserved.{translate_begins}
use Rattle.model.proofs.calls.PairCalls.{only_state_sizes}
use Rattle.model.proofs.calls.Refusals.{not_fails}
use Rattle.contracts.specs.Refuses.{RefusesAt}
use Rattle.contracts.proofs.Refusing.{refuses_at}
use Rattle.contracts.proofs.Lent.{size_lent, accepted}

-- ---- the pair of a key's slot

module _ (pt : PivotTable) (et : EdgeTable) (k : Key) (w : WFPivots pt ≡ true) (h : BoundedKey pt k ≡ true) (b : Bytes k) where
  -- ensures pset.Some? ==> IsPrefix(pset.value.prefix, key)
  pub translation_lib_158 : (pset : PrefixSet) → Translate pt et k ≡ some pset → IsPrefix pset.prefix k ≡ true
  translation_lib_158 pset e = translate_begins pt et k pset w h b e

  -- requires pset.Some? ==> IsPrefix(pset.value.prefix, key)
  -- where TranslateKey uses it
  pub translation_lib_183b : Begins (Translate pt et k) k ≡ true
  translation_lib_183b = go (Translate pt et k) refl
    where
      go : (o : Option PrefixSet) → Translate pt et k ≡ o → Begins o k ≡ true
      go none e = unfold Begins in refl
      go (some a) e = unfold Begins in translation_lib_158 a e

-- ---- a pair applied

module _ (pset : Option PrefixSet) (k : Key) (d : List ℕ) (p : long_pair pset ≡ false) (s : length k ≤ max_len) (b : Begins pset k ≡ true)
    (t : length (ApplyPrefixSet pset k) ≤ max_len) (r : length (ApplyPrefixSet pset k) ≤ length d) where
  applied : {A : Type 0} (f : Refusal → A) (v : A) → outcome f (apply_causes (state_of pset) k d) v ≡ v
  applied f v = only_state_sizes f v pset k d p s b ∙ accepted f v (size_causes (ApplyPrefixSet pset k) d) (size_lent (ApplyPrefixSet pset k) d t r)

  -- function method ApplyPrefixSet(pset: Option<PrefixSet>, key: Key) : (key': Key)
  -- the call, lent the pair, the key and room, answers the changed key's length and leaves its bytes
  pub translation_lib_182 : (apply_answer (state_of pset) k d ≡ Ok (length (ApplyPrefixSet pset k))) × (apply_leaves (state_of pset) k d ≡ over (ApplyPrefixSet pset k) d)
  translation_lib_182 = (applied Err _ ∙ rw (state_pair pset), applied (λ (_ : Refusal). d) _ ∙ rw (state_pair pset))

-- requires pset.Some? ==> IsPrefix(pset.value.prefix, key)
pub translation_lib_183 : (s : PairState) (k : Key) (d : List ℕ) (pset : PrefixSet) → pair_of s ≡ some pset → IsPrefix pset.prefix k ≡ false
    → RefusesAt Err (apply_causes s k d) 1 NotPrefix (apply_answer s k d)
translation_lib_183 s k d pset e h = refuses_at _ _ (apply_causes s k d) 1 _ _ _ refl (not_fails (Begins (pair_of s) k) (rw e (unfold Begins in h)))

-- ensures pset.Some? ==> IsPrefix(pset.value.newPrefix, key')
pub translation_lib_184 : (pset : PrefixSet) (k : Key) → IsPrefix pset.new_prefix (ApplyPrefixSet (some pset) k) ≡ true
translation_lib_184 pset k = unfold Begins RevPrefixSet in applied_begins k (some pset)

-- ---- two pairs composed

-- function ComposePrefixSet(a: Option<PrefixSet>, b: Option<PrefixSet>): (c: Option<PrefixSet>)
-- the definition has the source's branches; in both that apply a pair the requires of line 183 holds
pub translation_lib_193 : (a b : PrefixSet) → (IsPrefix a.prefix b.prefix || IsPrefix b.prefix a.prefix) ≡ true
    → (length a.prefix ≤ length b.prefix → IsPrefix a.prefix b.prefix ≡ true)
    × (length b.prefix < length a.prefix → IsPrefix b.prefix a.prefix ≡ true)
translation_lib_193 a b h = (
  nested a.prefix b.prefix h,
  λ l. nested b.prefix a.prefix (or_comm (IsPrefix b.prefix a.prefix) (IsPrefix a.prefix b.prefix) ∙ h) (omega arith),
)
  where
    nested : (p q : Key) → (IsPrefix p q || IsPrefix q p) ≡ true → length p ≤ length q → IsPrefix p q ≡ true
    nested p q h l = go (IsPrefix p q) (IsPrefix q p) refl refl h
      where
        go : (t u : Bool) → IsPrefix p q ≡ t → IsPrefix q p ≡ u → (t || u) ≡ true → IsPrefix p q ≡ true
        go true u e f h = e
        go false true e f h = prefix_nested p q p (prefix_refl p) f l
        go false false e f h = absurd (false≢true h)

-- requires a.Some? && b.Some? ==> ( IsPrefix(a.value.prefix, b.value.prefix) || IsPrefix(b.value.prefix, a.value.prefix))
pub translation_lib_194 : (s t : PairState) (a b : PrefixSet) → pair_of s ≡ some a → pair_of t ≡ some b
    → (IsPrefix a.prefix b.prefix || IsPrefix b.prefix a.prefix) ≡ false → RefusesAt Err (compose_causes s t) 1 NotPrefix (compose_answer s t)
translation_lib_194 s t a b e f h = refuses_at _ _ (compose_causes s t) 1 _ _ _ refl (not_fails (Composable (pair_of s) (pair_of t)) (rw (e, f) (unfold Composable in h)))
