-- A list that has room is not refused, and stands whole in the text.
use Rattle.std.specs.Prelude.{Result, Ok, Err}
use mathlib.Core.Path.{◌≡◌, refl, sym, ap, ◌∙◌}
use mathlib.Core.List.{List, []}
use Prim.Native.Nat.{ℕ, ◌≤◌}
use native.Mathlib.Omega.{arith}
use borrow.Author.Tests.{le-ltb}
use lib.ListN.{length, take, length-take}
use Rattle.model.specs.declared.Refusal.{Refusal}
use Rattle.model.specs.declared.Refusal.TheVariants.{NoRoom}
use Rattle.model.specs.calls.KeyCalls.{no_room}
use Rattle.model.specs.list.ShelfList.{shelf_list, list_table_answer, list_table_leaves}
use Rattle.model.proofs.calls.Refusals.{later, value_done}
use Rattle.model.proofs.list.Lossless.{listed_length, listed}

module _ (s d : List ℕ) (a : Result ℕ Refusal) (e : a ≡ list_table_answer s d) where
  pub never_refused : length (shelf_list s) ≤ length d → (r : Refusal) → a ≡ Err r → ⊥
  never_refused room r h =
      let v = value_done Err _ (length (shelf_list s)) refl in
      let w = later Err _ _ (no_room (length (shelf_list s)) d) NoRoom [] (le-ltb _ _ room) v in
      let z : ◌≡◌ {A = ℕ} 0 1 = cc in
      omega arith

  module _ (n : ℕ) (h : a ≡ Ok n) where
    pub list_length : n ≡ length (shelf_list s)
    list_length = listed_length s d n (sym e ∙ h)

    pub list_whole : (t : List ℕ) → t ≡ list_table_leaves s d → take n t ≡ shelf_list s
    list_whole t w = rw w (listed s d n (sym e ∙ h))

-- the part of the text that is the list
module _ (s t : List ℕ) (n : ℕ) (m : n ≡ length (shelf_list s)) (e : take n t ≡ shelf_list s) where
  pub text_counts : n ≡ length (take n t)
  text_counts = m ∙ sym (ap length e)

  pub text_fits : n ≤ length t
  text_fits = omega (arith, text_counts, length-take n t)
