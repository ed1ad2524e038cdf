-- The questions that the first and the last pivot answer.
use Rattle.std.specs.Prelude.{Result, Ok, Err}
use mathlib.Core.Path.{◌≡◌, refl}
use mathlib.Core.Bool.{Bool, true, false, cond, not, ◌||◌, not-not}
use mathlib.Core.List.{List, [], ◌∷◌}
use Prim.Native.Nat.{ℕ, ◌-◌, ◌/◌, ◌≤◌, ◌<◌}
use native.Mathlib.Omega.{arith}
use borrow.Author.Tests.{lt-ltb, le-ltb}
use lib.Dec.{eqb}
use lib.ListN.{length}
use Rattle.model.specs.declared.Refusal.TheVariants.{NotBelow}
use Rattle.model.specs.declared.Refusal.{Refusal}
use Rattle.model.specs.keys.Key.{Key, too_long}
use Rattle.model.specs.keys.Order.{Element, key, max, lte, lte_key, lt, passes}
use Rattle.model.specs.records.Record.{max_mark, length_field, key_bytes, reading, element_reading, element, elements}
use Rattle.model.specs.inner.Places.{record_at}
use Rattle.model.specs.tables.Tables.{pivot_at, last_pivot, WFPivots, ContainsAllKeys, ContainsRange}
use Rattle.model.specs.calls.Refusals.{◌⇒◌, answer}
use Rattle.model.specs.calls.KeyCalls.{not_record, not_element}
use Rattle.model.specs.calls.TableCalls.{pivot_causes, contains_range_answer}
use Rattle.model.proofs.keys.Order.{lte_max}
use Rattle.model.proofs.calls.Refusals.{here, later, done, handed_on-first, call_passed_first}
use Rattle.model.proofs.tables.Places.{within, bounded_within, valid_within}
use Rattle.model.proofs.tables.Routing.{wf_count}
use Rattle.model.proofs.calls.TableCalls.{length_elements, element_at}
use Rattle.model.specs.cuts.Sides.{inside}

pub no_pivot : (p a : List ℕ) → length p / 66 ≡ 0 → a ≡ record_at p 0 → a ≡ record_at p (length p / 66 - 1)
no_pivot p a h e = let q : length p / 66 - 1 ≡ 0 = omega arith in rw q e

empty_first : (e : Element) → lte (key []) e ≡ true
unfolding lte lte_key
empty_first (key k) = refl
empty_first max = refl

max_last : (r : List ℕ) → lte max (element r) ≡ eqb (length_field r) max_mark
unfolding lte element
max_last r = go (eqb (length_field r) max_mark)
  where
    go : (t : Bool) → lte max (cond t max (key (key_bytes r))) ≡ t
    go true = refl
    go false = refl

-- what the first and the last record stand for
module _ (p : List ℕ) (wf : WFPivots (elements p) ≡ true) where
  first_is : pivot_at (elements p) 0 ≡ element (record_at p 0)
  first_is = element_at p 0 (omega (arith, wf_count (elements p) wf, length_elements p))

  last_is : last_pivot (elements p) ≡ element (record_at p (length p / 66 - 1))
  last_is = rw (length_elements p) (element_at p (length p / 66 - 1) (omega (arith, wf_count (elements p) wf, length_elements p)))

  module _ (a : List ℕ) (t : Bool) (e : a ≡ record_at p 0) where
    module _ (k : Key) (strict : Bool) (f : t ≡ passes strict (key k) (element a)) where
      inside_is : (s : Bool) → inside s (elements p) k ≡ within s (key k) (elements p)
      inside_is true = valid_within (elements p) k
      inside_is false = bounded_within (elements p) k

      pub first_fails : t ≡ false → false ≡ inside strict (elements p) k
      first_fails h = rw (inside_is strict, first_is, ← e, ← f, h)

      pub last_decides : (b : List ℕ) (u : Bool) → t ≡ true → b ≡ record_at p (length p / 66 - 1) → u ≡ passes strict (key k) (element b)
          → not u ≡ inside strict (elements p) k
      last_decides b u h g w = rw (inside_is strict, first_is, ← e, ← f, h, last_is, ← g, ← w)

    module _ (l r : List ℕ) (f : t ≡ passes false (key l) (element a)) where
      pub begins_late : t ≡ false → false ≡ ContainsRange (elements p) (key l) (element r)
      unfolding ContainsRange
      begins_late h = rw (first_is, ← e, ← f, h)

      pub ends_decide : (b : List ℕ) (u : Bool) → t ≡ true → b ≡ record_at p (length p / 66 - 1) → u ≡ lt (element b) (element r)
          → not u ≡ ContainsRange (elements p) (key l) (element r)
      unfolding ContainsRange
      ends_decide b u h g w = rw (first_is, ← e, ← f, h, last_is, ← g, w, not-not)

    module _ (f : t ≡ passes false (key []) (element a)) where
      pub not_from_empty : t ≡ false → false ≡ ContainsAllKeys (elements p)
      unfolding ContainsAllKeys
      not_from_empty h = rw (wf, first_is, ← e, ← f, h)

      pub up_to_max : (b : List ℕ) (u : Bool) → t ≡ true → b ≡ record_at p (length p / 66 - 1) → u ≡ eqb (length_field b) max_mark
          → u ≡ ContainsAllKeys (elements p)
      unfolding ContainsAllKeys
      up_to_max b u h g w = rw (wf, first_is, empty_first, ← e, ← f, h, last_is, lte_max, max_last, ← g, ← w)

-- ---- the range that is asked about

module _ (l r : List ℕ) (t c : Bool) (f : t ≡ passes false (key l) (element r)) where
  pub not_below : t ≡ true → Err NotBelow ≡ answer ((not (lt (key l) (element r)) ⇒ NotBelow) ∷ []) c
  not_below h = here Err _ _ _ NotBelow [] (rw (← f, h)) refl

  pub is_below_lem : (x : Result Bool Refusal) → t ≡ false → x ≡ Ok c → x ≡ answer ((not (lt (key l) (element r)) ⇒ NotBelow) ∷ []) c
  is_below_lem x h e = later Err _ _ _ NotBelow [] (rw (← f, h)) (done Err _ _ e)

pub too_long_left : (l r : List ℕ) → 64 < length l → true ≡ (too_long l || not_element r)
too_long_left l r h = rw (lt-ltb 64 (length l) h)

pub right_read : (l r : List ℕ) (t : Bool) → length l ≤ 64 → t ≡ element_reading (reading r) → not t ≡ (too_long l || not_element r)
right_read l r t h e = rw (le-ltb 64 (length l) h, e)

-- what is said of a question's answer
pub said : (x : Result Bool Refusal) (t b : Bool) → x ≡ Ok t → t ≡ b → x ≡ Ok b
said x t b e h = rw (← h) e

-- the range beside the table
module _ (p l r : List ℕ) (bad : Bool) (n : ℕ) (x : Result ℕ Refusal) (b : bad ≡ (too_long l || not_element r))
    (e : x ≡ answer (pivot_causes (not_record r) bad p) n) where
  found : x ≡ answer (pivot_causes (not_record r) (too_long l || not_element r) p) n
  found = rw b at e

  pub range_refused : (s : Refusal) (z : Result Bool Refusal) → x ≡ Err s → z ≡ Err s → z ≡ contains_range_answer p l r
  range_refused s z h o = handed_on-first _ n x found Err _ z _ s h o

  pub range_asked : (m : ℕ) (y : Result Bool Refusal) → x ≡ Ok m
      → y ≡ answer ((not (lt (key l) (element r)) ⇒ NotBelow) ∷ []) (ContainsRange (elements p) (key l) (element r)) → y ≡ contains_range_answer p l r
  range_asked m y h q = call_passed_first _ n x found Err _ y _ m h q
