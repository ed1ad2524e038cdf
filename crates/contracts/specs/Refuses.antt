-- What replaces a `requires`: the call refuses where it fails.
use Rattle.std.specs.Prelude.{◌≡◌, List, ℕ, ◌≤◌, take}
use Rattle.model.specs.declared.Refusal.{Refusal}
use Rattle.model.specs.calls.Refusals.{Cause, number, outcome}

-- the answer x of a call with these causes is the refusal r, which stands after n others, unless one of those applies: then the first that does
abbrev pub RefusesAt : {A : Type 0} → (Refusal → A) → List Cause → ℕ → Refusal → A → Type 0
RefusesAt refused causes n r x = x ≡ outcome refused (take n causes) (refused r)

-- the answer x is a refusal, with the number n or a smaller one
pub record Refuses {A : Type 0} (refused : Refusal → A) (n : ℕ) (x : A) : Type 0 where
  pub refusal : Refusal
  pub answered : x ≡ refused refusal
  pub up_to : number refusal ≤ n
