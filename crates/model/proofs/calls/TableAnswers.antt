-- What the check of a table says of its causes, and what the question of a key answers of a table that has none of the causes 1 to 4.
use Rattle.std.specs.Prelude.{Ok, Err}
use mathlib.Core.Path.{◌≡◌, refl, sym, ◌∙◌}
use mathlib.Core.Bool.{Bool, true, false, cond, ◌||◌}
use mathlib.Core.List.{List}
use mathlib.Core.Option.{none}
use Prim.Native.Nat.{ℕ}
use native.Mathlib.Omega.{arith}
use Rattle.model.specs.declared.Refusal.TheVariants.{Malformed}
use Rattle.model.specs.keys.Key.{Key, too_long}
use Rattle.model.specs.records.Record.{records, elements}
use Rattle.model.specs.tables.Tables.{IsStrictlySorted, BoundedKey}
use Rattle.model.specs.calls.Refusals.{outcome, first}
use Rattle.model.specs.calls.TableCalls.{not_pivot_count, pivots_read, pivot_causes, table_causes, wf_edges_answer, bounded_key_answer}
use Rattle.model.proofs.calls.Refusals.{unrefused}
use Rattle.model.proofs.calls.TableCalls.{causes_counted, causes_read, causes_sorted, table_pivots}

-- a table that is answered to be well formed has none of the causes 1 to 4
pub answered_yes : (p e : List ℕ) → wf_edges_answer p e ≡ Ok true → first (table_causes false false p e) ≡ none
answered_yes p e h =
    unrefused Err (Ok true) (table_causes false false p e) (λ r q. let z : ◌≡◌ {A = ℕ} 0 1 = cc in absurd (omega arith))

module _ (p e : List ℕ) (h : first (table_causes false false p e) ≡ none) (k : Key) where
  counted : not_pivot_count p ≡ false
  counted = causes_counted _ _ p (table_pivots false false p e h)

  read : pivots_read (records p) ≡ true
  read = causes_read _ _ p (table_pivots false false p e h)

  sorted : IsStrictlySorted (elements p) ≡ true
  sorted = causes_sorted _ _ p (table_pivots false false p e h)

  -- it answers whether a key of at most 64 bytes is bounded
  bounded_answer : bounded_key_answer p k ≡ cond (too_long k) (Err Malformed) (Ok (BoundedKey (elements p) k))
  unfolding outcome pivot_causes
  bounded_answer = rw (counted, read, sorted) (go (too_long k))
    where
      go : (t : Bool) → cond (t || false) (Err Malformed) (Ok (BoundedKey (elements p) k))
          ≡ cond t (Err Malformed) (Ok (BoundedKey (elements p) k))
      go true = refl
      go false = refl

  pub bounded_says : too_long k ≡ false → (b : Bool) → BoundedKey (elements p) k ≡ b → bounded_key_answer p k ≡ Ok b
  bounded_says t b g = bounded_answer ∙ rw (t, g)

  -- where the question is answered, the key has at most 64 bytes, and is bounded or not
  pub says_bounded : (b : Bool) → bounded_key_answer p k ≡ Ok b → (too_long k ≡ false) × (BoundedKey (elements p) k ≡ b)
  says_bounded b g = go (too_long k) (BoundedKey (elements p) k) b (sym bounded_answer ∙ g)
    where
      go : (t u b : Bool) → cond t (Err Malformed) (Ok u) ≡ Ok b → (t ≡ false) × (u ≡ b)
      go true u true x = let z : ◌≡◌ {A = ℕ} 0 1 = cc in absurd (omega arith)
      go true u false x = let z : ◌≡◌ {A = ℕ} 0 1 = cc in absurd (omega arith)
      go false true true x = (refl, refl)
      go false true false x = let z : ◌≡◌ {A = ℕ} 0 1 = cc in absurd (omega arith)
      go false false true x = let z : ◌≡◌ {A = ℕ} 0 1 = cc in absurd (omega arith)
      go false false false x = (refl, refl)
