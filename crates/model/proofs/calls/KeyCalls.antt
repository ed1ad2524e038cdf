-- A change of prefix: when it can be refused only for its size, and what an accepted one leaves.
use Rattle.std.specs.Prelude.{Result, Ok}
use mathlib.Core.Path.{◌≡◌, refl, sym, ◌∙◌}
use mathlib.Core.Bool.{true, not, ◌||◌}
use mathlib.Core.List.{List}
use mathlib.Core.Option.{none}
use Prim.Native.Nat.{ℕ, ◌≤◌}
use native.Mathlib.Omega.{arith}
use borrow.Author.Tests.{ltb-false}
use lib.ListN.{length, take}
use Rattle.model.specs.declared.Refusal.{Refusal}
use Rattle.model.specs.declared.Refusal.TheVariants.{Malformed, NotPrefix, TooLong}
use Rattle.model.specs.keys.Key.{Key, max_len, too_long, IsPrefix, change_prefix}
use Rattle.model.specs.calls.Refusals.{outcome, first, over}
use Rattle.model.specs.calls.KeyCalls.{size_causes, change_prefix_causes, change_prefix_answer, change_prefix_leaves}
use Rattle.model.proofs.Lists.{take_over, length_over}
use Rattle.model.proofs.keys.Key.{prefix_length}
use Rattle.model.proofs.calls.Refusals.{passed, accepted, value_is, none_here, none_later}
use Rattle.model.proofs.calls.TableCalls.{not_too_long}

-- where the old prefix begins the key, and key and new prefix are short, only 8 and 10 may apply
pub only_sizes : {A : Type 0} (f : Refusal → A) (v : A) (k p q : Key) (d : List ℕ) → length k ≤ max_len → length q ≤ max_len → IsPrefix p k ≡ true
    → outcome f (change_prefix_causes k p q d) v ≡ outcome f (size_causes (change_prefix p q k) d) v
unfolding outcome
only_sizes f v k p q d h j b =
    let i : length p ≤ max_len = omega (arith, prefix_length p k b) in
    rw (not_too_long k h, not_too_long p i, not_too_long q j, b)

-- an accepted change of p to q in k, into d
module _ (k p q d : List ℕ) (a : Result ℕ Refusal) (h : a ≡ change_prefix_answer k p q d) (n : ℕ) (f : a ≡ Ok n) where
  -- no cause applies
  pub change_accepted : first (change_prefix_causes k p q d) ≡ none
  change_accepted = accepted (change_prefix_causes k p q d) _ a h n f

  -- it answers the length of the changed key
  pub change_counts : n ≡ length (change_prefix p q k)
  change_counts = value_is (change_prefix_causes k p q d) _ a h n f

  -- which has at most 64 bytes
  pub change_most : n ≤ max_len
  change_most =
      rw change_counts
      (ltb-false max_len (length (change_prefix p q k))
      (none_here _ TooLong _ (none_later (not (IsPrefix p k)) NotPrefix _ (none_later (too_long k || too_long p || too_long q) Malformed _ change_accepted))))

  module _ (w : List ℕ) (g : w ≡ change_prefix_leaves k p q d) where
    written : w ≡ over (change_prefix p q k) d
    written = g ∙ sym (passed (λ (_ : Refusal). d) _ _ (change_prefix_causes k p q d) change_accepted refl)

    -- the changed key stands at the head of the destination
    pub change_head : take n w ≡ change_prefix p q k
    change_head = rw (change_counts, written) (take_over (change_prefix p q k) d)

    -- inside it, where it has room for any key
    pub change_inside : max_len ≤ length d → n ≤ length w
    change_inside x = rw written (omega (arith, change_most, change_counts, length_over (change_prefix p q k) d (omega (arith, change_counts, change_most))))
