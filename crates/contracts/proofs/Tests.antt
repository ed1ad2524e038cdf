-- When two tests are equal.
use mathlib.Core.Path.{◌≡◌, refl}
use mathlib.Core.Bool.{Bool, true, false, false≢true}

-- two tests are equal where each follows from the other
pub same_tests : (s t : Bool) → (s ≡ true → t ≡ true) → (t ≡ true → s ≡ true) → s ≡ t
same_tests true t f g = go t (f refl)
  where
    go : (t : Bool) → t ≡ true → true ≡ t
    go true h = refl
    go false h = absurd (false≢true h)
same_tests false true f g = g refl
same_tests false false f g = refl
