-- The answers of a change of prefix.
use Rattle.std.specs.Prelude.{Result, Ok, Err}
use mathlib.Core.Path.{◌≡◌, refl, sym, ◌∙◌}
use mathlib.Core.Bool.{Bool, true, false, not}
use mathlib.Core.List.{List, ◌++◌}
use Prim.Native.Nat.{ℕ, ◌+◌, ◌-◌, ◌≤◌, ◌<◌}
use borrow.Author.Tests.{lt-ltb, le-ltb, ltb-false, not-false}
use lib.Dec.{ltb}
use lib.ListN.{length, take, drop}
use Rattle.model.specs.keys.Key.{IsPrefix, change_prefix, too_long}
use Rattle.model.specs.calls.Refusals.{over}
use Rattle.model.specs.inner.Written.{into}
use Rattle.model.specs.declared.Refusal.{Refusal}
use Rattle.model.specs.calls.Refusals.{first, answer}
use Rattle.model.specs.calls.KeyCalls.{change_prefix_causes, change_prefix_answer, change_prefix_leaves}
use mathlib.Core.Option.{none}
use Rattle.model.proofs.Lists.{rest, into_over}
use Rattle.model.proofs.calls.Refusals.{none_here, none_later, passed, accepted, handed_on}
use Rattle.model.proofs.keys.Key.{length_change, prefix_length}
use Rattle.prefix_changes.specs.Changed.{changed_causes}

-- a key that begins with its old prefix is no shorter
pub begun : (p k : List ℕ) (t : Bool) → t ≡ IsPrefix p k → not t ≡ false → length p ≤ length k
begun p k t e h = prefix_length p k (sym e ∙ not-false t h)

-- the length that is measured is that of the changed key
module _ (p q k : List ℕ) (n : ℕ) (e : n ≡ length q + (length k - length p)) where
  pub changed_length : n ≡ length (change_prefix p q k)
  changed_length = e ∙ sym (length_change p q k)

  pub changed_long : 64 < n → too_long (change_prefix p q k) ≡ true
  changed_long h = rw (← changed_length) (lt-ltb 64 n h)

  pub changed_short : n ≤ 64 → too_long (change_prefix p q k) ≡ false
  changed_short h = rw (← changed_length) (le-ltb 64 n h)

  pub changed_out : (room : ℕ) → room < n → ltb room (length (change_prefix p q k)) ≡ true
  changed_out room h = rw (← changed_length) (lt-ltb room n h)

  pub changed_in : (room : ℕ) → n ≤ room → ltb room (length (change_prefix p q k)) ≡ false
  changed_in room h = rw (← changed_length) (le-ltb room n h)

pub ruleset changing = (begun, changed_length, changed_long, changed_short, changed_out, changed_in)

-- ---- a refused change

module _ (p q k d : List ℕ) (a : Result ℕ Refusal) (e : a ≡ change_prefix_answer k p q d) (r : Refusal) (h : a ≡ Err r) where
  pub refused_same : Err r ≡ change_prefix_answer k p q d
  refused_same = sym h ∙ e

  pub nothing_written : d ≡ change_prefix_leaves k p q d
  nothing_written = handed_on (change_prefix_causes k p q d) (length (change_prefix p q k)) a e _ (over (change_prefix p q k) d) d r h refl

-- ---- an accepted change

-- its old prefix ends inside the key
pub old_inside : (p q k : List ℕ) (room : ℕ) (a : Result ℕ Refusal) (m : ℕ) → a ≡ answer (changed_causes k p q room) (length (change_prefix p q k)) → a ≡ Ok m → length p ≤ length k
old_inside p q k room a m e h =
    let none_applies = accepted (changed_causes k p q room) (length (change_prefix p q k)) a e m h in
    prefix_length p k (not-false (IsPrefix p k) (none_here _ _ _ (none_later _ _ _ none_applies)))

module _ (p q k d : List ℕ) (a : Result ℕ Refusal) (m : ℕ) (e : a ≡ change_prefix_answer k p q d) (h : a ≡ Ok m) where
  none_applies : first (change_prefix_causes k p q d) ≡ none
  none_applies = accepted (change_prefix_causes k p q d) (length (change_prefix p q k)) a e m h

  has_room : length (change_prefix p q k) ≤ length d
  has_room = ltb-false (length d) (length (change_prefix p q k)) (none_here _ _ _ (none_later _ _ _ (none_later _ _ _ (none_later _ _ _ none_applies))))

  pub answered : Ok m ≡ change_prefix_answer k p q d
  answered = sym h ∙ e

  pub written : (w : List ℕ) → w ≡ into (q ++ take (length k - length p) (drop (length p) k)) d → w ≡ change_prefix_leaves k p q d
  written w f =
      passed _ (over (change_prefix p q k) d) w (change_prefix_causes k p q d) none_applies
      (f ∙ unfold change_prefix in rw rest (into_over (q ++ drop (length p) k) d (unfold change_prefix in has_room)))
