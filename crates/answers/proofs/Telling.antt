-- An answer told by a number and a value, and yes and no as 1 and 0.
use Rattle.std.specs.Prelude.{Bool, true, false, ◌||◌, Result, Ok, Err}
use Rattle.std.specs.Int.{from_bool}
use mathlib.Core.Path.{◌≡◌}
use Prim.Native.Nat.{ℕ}
use lib.IntN.{ℤ}
use mir.Syntax.{w64}
use mir.Val.{SFits, to_z, of_z}
use mir.Facts.{to_z-of_z}
use Rattle.model.specs.declared.Refusal.{Refusal}
use Rattle.model.specs.calls.Refusals.{number, answer_number, told, decided_answer}

module _ {A : Type 0} (a : Result A Refusal) where
  pub value_number : (n : A) → a ≡ Ok n → 0 ≡ answer_number a
  unfolding answer_number
  value_number n e = rw e

  pub value_told : (n v : A) → a ≡ Ok n → n ≡ told a v
  unfolding told
  value_told n v e = rw e

  pub refusal_number : (r : Refusal) (m : ℕ) → a ≡ Err r → m ≡ number r → m ≡ answer_number a
  unfolding answer_number
  refusal_number r m e h = rw e h

  pub refusal_told : (r : Refusal) (v : A) → a ≡ Err r → v ≡ told a v
  unfolding told
  refusal_told r v e = rw e

-- a signed number is told by its bits
pub order_told : (c : Result ℤ Refusal) (z v : ℤ) → c ≡ Ok z → SFits w64 z → to_z w64 (of_z w64 z) ≡ told c v
unfolding told
order_told c z v e f = rw e (to_z-of_z f)

module _ (d : Result Bool Refusal) where
  pub said : (b : Bool) (n : ℕ) → d ≡ Ok b → n ≡ from_bool b → Ok n ≡ decided_answer d
  unfolding decided_answer
  said true n e h = rw (e, h)
  said false n e h = rw (e, h)

  -- also where yes or no was told by way of an `or` that adds nothing
  pub said_or : (b : Bool) (n : ℕ) → d ≡ Ok b → n ≡ from_bool (b || false) → Ok n ≡ decided_answer d
  unfolding decided_answer
  said_or true n e h = rw (e, h)
  said_or false n e h = rw (e, h)

  pub said_refused : (r : Refusal) (x : Result ℕ Refusal) → d ≡ Err r → x ≡ Err r → x ≡ decided_answer d
  unfolding decided_answer
  said_refused r x e f = rw e f

pub ruleset turning = (said, said_or, said_refused)

pub ruleset telling = (value_number, value_told, refusal_number, refusal_told, order_told)
