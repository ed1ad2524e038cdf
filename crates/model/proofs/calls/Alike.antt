-- When two tables translate a key alike, answer and bytes.
use Rattle.std.specs.Prelude.{Err}
use mathlib.Core.Path.{◌≡◌, refl, sym, ◌∙◌}
use mathlib.Core.Bool.{Bool, true, false, cond, not}
use mathlib.Core.List.{List, [], ◌∷◌, ◌++◌}
use mathlib.Core.Option.{none, some}
use Prim.Native.Nat.{ℕ}
use Rattle.model.specs.declared.Refusal.{Refusal}
use Rattle.model.specs.declared.Refusal.TheVariants.{Malformed, OutOfRange}
use Rattle.model.specs.keys.Key.{Key, too_long}
use Rattle.model.specs.records.Record.{elements, edges}
use Rattle.model.specs.tables.Tables.{BoundedKey}
use Rattle.model.specs.translation.Translation.{TranslateKey}
use Rattle.model.specs.calls.Refusals.{Cause, ◌⇒◌, outcome, first}
use Rattle.model.specs.calls.TableCalls.{table_causes}
use Rattle.model.specs.calls.TableCalls.{edge_slot_causes}
use Rattle.model.specs.cuts.TwoOrders.{TranslatedAlike}
use Rattle.model.proofs.calls.Refusals.{refused_first, after, followed}
use Rattle.model.proofs.calls.TableCalls.{wrong_first}

-- of a table without causes 1 to 4 the first cause is that the key is too long, or else outside
slot_causes_lem : (p e : List ℕ) (k : Key) (b : Bool) → first (table_causes false false p e) ≡ none
    → first (edge_slot_causes p e k b) ≡ cond (too_long k) (some Malformed) (cond b none (some OutOfRange))
slot_causes_lem p e k b h = go (too_long k) b (wrong_first (too_long k) p e h)
  where
    go : (t b : Bool) → first (table_causes false t p e) ≡ cond t (some Malformed) none
        → first (table_causes false t p e ++ ((not b ⇒ OutOfRange) ∷ [])) ≡ cond t (some Malformed) (cond b none (some OutOfRange))
    go true b f = sym (refused_first some none (some Malformed) (table_causes false true p e) _ Malformed f refl)
    go false true f = sym (after some none none (table_causes false false p e) _ f (unfold outcome in refl))
    go false false f = sym (after some none (some OutOfRange) (table_causes false false p e) _ f (unfold outcome in refl))

-- for a key inside
pub slot_first : (p e : List ℕ) (k : Key) (b : Bool) → first (table_causes false false p e) ≡ none → b ≡ true
    → first (edge_slot_causes p e k b) ≡ cond (too_long k) (some Malformed) none
slot_first p e k b h i = slot_causes_lem p e k b h ∙ rw i

-- a key is translated alike by tables without causes 1 to 4 in which it is bounded and is translated to the same
pub alike : (p e p' e' : List ℕ) (k : Key) → first (table_causes false false p e) ≡ none → first (table_causes false false p' e') ≡ none
    → BoundedKey (elements p) k ≡ true → BoundedKey (elements p') k ≡ true
    → TranslateKey (elements p') (edges e') k ≡ TranslateKey (elements p) (edges e) k → TranslatedAlike p e p' e' k
alike p e p' e' k h h' b b' t d =
    let same = slot_first p' e' k _ h' b' ∙ sym (slot_first p e k _ h b) in
    (rw t (followed _ _ _ _ _ same), rw t (followed _ _ _ _ _ same))

-- a key is translated alike, namely refused, by tables without causes 1 to 4 in which it isn't bounded
pub alike_outside : (p e p' e' : List ℕ) (k : Key) → first (table_causes false false p e) ≡ none → first (table_causes false false p' e') ≡ none
    → BoundedKey (elements p) k ≡ false → BoundedKey (elements p') k ≡ false → TranslatedAlike p e p' e' k
alike_outside p e p' e' k h h' b b' d = (both_refused Err _ _ _ _, both_refused (λ (_ : Refusal). d) _ _ _ _)
  where
    r : Refusal
    r = cond (too_long k) Malformed OutOfRange

    outside : (p e : List ℕ) → first (table_causes false false p e) ≡ none → BoundedKey (elements p) k ≡ false
        → first (edge_slot_causes p e k (BoundedKey (elements p) k)) ≡ some r
    outside p e h b = slot_causes_lem p e k (BoundedKey (elements p) k) h ∙ rw b (go (too_long k))
      where
        go : (t : Bool) → cond t (some Malformed) (some OutOfRange) ≡ some (cond t Malformed OutOfRange)
        go true = refl
        go false = refl

    both_refused : {A : Type 0} (f : Refusal → A) (v v' : A) (ds ds' : List Cause)
        → outcome f (edge_slot_causes p' e' k (BoundedKey (elements p') k) ++ ds') v' ≡ outcome f (edge_slot_causes p e k (BoundedKey (elements p) k) ++ ds) v
    both_refused f v v' ds ds' =
        sym (refused_first f v' (f r) _ ds' r (outside p' e' h' b') refl) ∙ refused_first f v (f r) _ ds r (outside p e h b) refl
