-- Pivots, prefixes and an end without the causes 1 to 3; and 7 and 8 behind these.
use Rattle.std.specs.Prelude.{Result, Ok, Err}
use mathlib.Core.Path.{◌≡◌, refl, ◌∙◌}
use mathlib.Core.Bool.{Bool, true, false, not, ◌||◌, and-true, true≢false}
use mathlib.Core.List.{List, [], ◌∷◌}
use Prim.Native.Nat.{ℕ, ◌≤◌, ◌<◌}
use borrow.Author.Tests.{lt-ltb, le-ltb, ltb-false, not-false}
use lib.ListN.{length}
use Rattle.model.specs.declared.Refusal.{Refusal}
use Rattle.model.specs.keys.Key.{too_long}
use Rattle.model.specs.records.Record.{reading, element_reading, element, elements}
use Rattle.model.specs.tables.Tables.{all, short_element, WFPivots}
use Rattle.model.specs.translation.Renaming.{TranslatePivots}
use Rattle.model.specs.calls.Refusals.{answer}
use Rattle.model.specs.calls.KeyCalls.{not_record, not_element}
use Rattle.model.specs.calls.TableCalls.{pivot_causes}
use Rattle.model.specs.calls.RenamingCalls.{new_pivots}
use Rattle.model.proofs.Lists.{all_append}
use Rattle.model.proofs.records.Record.{short_element_lem}
use Rattle.model.proofs.calls.Refusals.{after, handed_on-first, accepted}
use Rattle.model.proofs.calls.TableCalls.{causes_wrong, causes_wf}
use Rattle.changed_pivots.specs.Renamed.{changed_pivots, changeable_causes, with_end_causes, Given, renamed_causes}

-- ---- cause 2 of the other arguments

module _ (p q n : List ℕ) where
  -- a prefix over 64 bytes
  pub long_prefix : 64 < length p → true ≡ (too_long p || too_long q || not_element n)
  long_prefix h = rw (lt-ltb 64 (length p) h)

  -- a new prefix over 64 bytes
  pub long_new_prefix : length p ≤ 64 → 64 < length q → true ≡ (too_long p || too_long q || not_element n)
  long_new_prefix h j = rw (le-ltb 64 (length p) h, lt-ltb 64 (length q) j)

  -- else whether the end is an element's record decides
  pub end_read : (t : Bool) → length p ≤ 64 → length q ≤ 64 → t ≡ element_reading (reading n) → not t ≡ (too_long p || too_long q || not_element n)
  end_read t h j e = rw (le-ltb 64 (length p) h, le-ltb 64 (length q) j, e)

-- of three that do not hold together none holds
none_of : (a b c : Bool) → (a || b || c) ≡ false → (a ≡ false) × (b ≡ false) × (c ≡ false)
none_of true b c h = absurd (true≢false h)
none_of false true c h = absurd (true≢false h)
none_of false false c h = (refl, refl, h)

module _ (v p q n : List ℕ) (h : Given v p q n) where
  -- cause 2 applies to neither prefix nor to the end
  right : (too_long p ≡ false) × (too_long q ≡ false) × (not_element n ≡ false)
  right = none_of (too_long p) (too_long q) (not_element n) (causes_wrong _ _ v h)

  -- the pivots are well formed
  pub given_wf : WFPivots (elements v) ≡ true
  given_wf = causes_wf _ _ v h

  -- the prefix has at most 64 bytes
  pub given_prefix : length p ≤ 64
  given_prefix = ltb-false 64 (length p) right.0

  -- the new prefix has at most 64 bytes
  pub given_new_prefix : length q ≤ 64
  given_new_prefix = ltb-false 64 (length q) right.1

  -- the end is an element's record
  pub end_element : element_reading (reading n) ≡ true
  end_element = not-false _ right.2

  -- the end is not too long
  pub only_changed : all short_element (new_pivots v p q n) ≡ all short_element (changed_pivots v p q)
  unfolding TranslatePivots all
  only_changed = all_append short_element (changed_pivots v p q) (element n ∷ []) ∙ rw (short_element_lem n end_element, and-true)

  -- with them 7 and 8 are those of the changed pivots
  pub keys_decide : (b : Result ℕ Refusal) (l : ℕ) → b ≡ answer (changeable_causes v p q) l → b ≡ answer (renamed_causes v p q n) l
  keys_decide b l e = after Err (Ok l) b (with_end_causes v p q n) _ h (rw only_changed e)

-- ---- the check of the pivots with the other arguments

module _ (v p q n : List ℕ) (bad : Bool) (m : ℕ) (z : Result ℕ Refusal) (b : bad ≡ (too_long p || too_long q || not_element n))
    (e : z ≡ answer (pivot_causes (not_record n) bad v) m) where
  -- the check is that of all arguments
  found : z ≡ answer (with_end_causes v p q n) m
  found = rw b at e

  -- where it is passed, the arguments are as they must be
  pub given : (l : ℕ) → z ≡ Ok l → Given v p q n
  given l k = accepted _ m z found l k

  -- the pivots are well formed
  pub asked_wf : (l : ℕ) → z ≡ Ok l → WFPivots (elements v) ≡ true
  asked_wf l k = given_wf v p q n (given l k)

  -- and the prefixes have at most 64 bytes
  pub asked_prefix : (l : ℕ) → z ≡ Ok l → length p ≤ 64
  asked_prefix l k = given_prefix v p q n (given l k)

  pub asked_new_prefix : (l : ℕ) → z ≡ Ok l → length q ≤ 64
  asked_new_prefix l k = given_new_prefix v p q n (given l k)

  -- where it is not, it decides
  pub pivots_refused : (x : Result ℕ Refusal) (w : ℕ) (r : Refusal) → z ≡ Err r → x ≡ Err r → x ≡ answer (renamed_causes v p q n) w
  pivots_refused x w r k y = handed_on-first _ m z found Err (Ok w) x _ r k y
