-- What holds of a list from a place idx on.
use mathlib.Core.Path.{◌≡◌}
use mathlib.Core.Bool.{Bool, true}
use mathlib.Core.List.{List, [], ◌∷◌}
use Prim.Native.Nat.{ℕ, zero, suc}
use lib.ListN.{drop}

-- a test that each list hands on to what follows its first element holds from any place on
pub from_place : {A : Type 0} (test : List A → Bool) → ((x : A) (xs : List A) → test (x ∷ xs) ≡ true → test xs ≡ true)
    → (idx : ℕ) (xs : List A) → test xs ≡ true → test (drop idx xs) ≡ true
from_place test f zero xs h = h
from_place test f (suc idx) [] h = h
from_place test f (suc idx) (x ∷ xs) h = from_place test f idx xs (f x xs h)
