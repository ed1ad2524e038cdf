-- The key at a place of a table.
use Rattle.std.specs.Prelude.{Result, Ok, Err}
use Rattle.model.specs.declared.Refusal.{Refusal}
use mathlib.Core.Path.{◌≡◌, refl, ◌∙◌}
use mathlib.Core.Bool.{Bool, true, false, cond, ◌&&◌, false≢true}
use mathlib.Core.List.{List, [], ◌∷◌}
use mathlib.Core.Option.{none}
use Prim.Native.Nat.{ℕ, ◌/◌, ◌≤◌, ◌<◌}
use native.Mathlib.Omega.{arith}
use borrow.Author.Tests.{lt-ltb, le-ltb, ltb-true, not-false}
use lib.Dec.{eqb, ltb}
use lib.ListN.{length}
use Rattle.model.specs.declared.Refusal.TheVariants.{NoSuchSlot}
use Rattle.model.specs.keys.Order.{key, max, is_key}
use Rattle.model.specs.records.Record.{max_mark, length_field, key_bytes, element, elements}
use Rattle.model.specs.inner.Places.{record_at}
use Rattle.model.specs.tables.Tables.{pivot_at, key_of, GetKey}
use Rattle.model.specs.calls.Refusals.{◌⇒◌, first, answer, part}
use Rattle.model.specs.calls.TableCalls.{no_key_at, pivot_causes, get_key_causes}
use Rattle.model.proofs.calls.Refusals.{here, later, value_done, passed, accepted, none_here, none_after}
use Rattle.model.proofs.keys.Key.{both}
use Rattle.model.proofs.calls.TableCalls.{length_elements, element_at}

module _ (p : List ℕ) (i : ℕ) where
  pub no_place : length p / 66 ≤ i → Err NoSuchSlot ≡ answer ((no_key_at (elements p) i ⇒ NoSuchSlot) ∷ []) (length (GetKey (elements p) i))
  no_place h = here Err _ _ _ NoSuchSlot [] (rw (length_elements p, le-ltb i (length p / 66) h)) refl

  module _ (a : List ℕ) (t : Bool) (h : i < length p / 66) (e : a ≡ record_at p i) (f : t ≡ eqb (length_field a) max_mark) where
    place_is : pivot_at (elements p) i ≡ cond t max (key (key_bytes a))
    unfolding element
    place_is = rw (f, e) (element_at p i h)

    pub max_there : t ≡ true → Err NoSuchSlot ≡ answer ((no_key_at (elements p) i ⇒ NoSuchSlot) ∷ []) (length (GetKey (elements p) i))
    max_there g = here Err _ _ _ NoSuchSlot [] (rw (length_elements p, lt-ltb i (length p / 66) h, place_is, g)) refl

    pub key_there : (x : List ℕ) → t ≡ false → x ≡ key_bytes a
        → Ok (length x) ≡ answer ((no_key_at (elements p) i ⇒ NoSuchSlot) ∷ []) (length (GetKey (elements p) i))
    unfolding GetKey
    key_there x g w =
        later Err _ _ _ NoSuchSlot [] (rw (length_elements p, lt-ltb i (length p / 66) h, place_is, g))
        (value_done Err (length x) _ (rw (w, place_is, g)))

  -- the part that it fills
  module _ (x : Result ℕ Refusal) (m : ℕ) (e : x ≡ answer (get_key_causes p i) (length (GetKey (elements p) i))) (h : x ≡ Ok m) where
    nothing_applies : first (get_key_causes p i) ≡ none
    nothing_applies = accepted (get_key_causes p i) (length (GetKey (elements p) i)) x e m h

    a_key : (ltb i (length (elements p)) && is_key (pivot_at (elements p) i)) ≡ true
    a_key = not-false _ (none_here _ NoSuchSlot [] (none_after (pivot_causes false false p) _ nothing_applies))

    key_is_lem : (a : List ℕ) → a ≡ record_at p i → key_bytes a ≡ GetKey (elements p) i
    unfolding GetKey element
    key_is_lem a w =
        let b = both (ltb i (length (elements p))) (is_key (pivot_at (elements p) i)) a_key in
        let q : i < length p / 66 = omega (arith, ltb-true i (length (elements p)) b.0, length_elements p) in
        go (eqb (length_field (record_at p i)) max_mark) (element_at p i q) b.1
      where
        go : (t : Bool) → pivot_at (elements p) i ≡ cond t max (key (key_bytes (record_at p i))) → is_key (pivot_at (elements p) i) ≡ true
            → key_bytes a ≡ key_of (pivot_at (elements p) i)
        go true f g = absurd (false≢true (rw f at g))
        go false f g = rw (f, w)

    pub part_there : (a k : List ℕ) → a ≡ record_at p i → k ≡ key_bytes a → k ≡ part (get_key_causes p i) (GetKey (elements p) i)
    part_there a k w q = passed _ (GetKey (elements p) i) k (get_key_causes p i) nothing_applies (q ∙ key_is_lem a w)
