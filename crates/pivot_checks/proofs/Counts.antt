-- How many pivots are lent.
use mathlib.Core.Path.{◌≡◌}
use mathlib.Core.Bool.{true, not}
use mathlib.Core.List.{List}
use mathlib.Core.Logic.{⊎_elim}
use Prim.Native.Nat.{ℕ, ◌/◌, ◌%◌, ◌≤◌, ◌<◌}
use borrow.Author.Tests.{ne_eqb, le-leb, lt-leb, lt-ltb, le-ltb}
use lib.Dec.{leb, ltb}
use lib.ListN.{length}
use Rattle.model.specs.calls.TableCalls.{not_pivot_count}
use Rattle.model.proofs.Lists.{le_or_lt}

module _ (p : List ℕ) where
  pub not_whole : (length p % 66 ≡ 0 → ⊥) → true ≡ not_pivot_count p
  unfolding not_pivot_count
  not_whole h = rw (ne_eqb (length p % 66) 0 h)

  module _ (whole : length p % 66 ≡ 0) where
    pub too_few : length p / 66 < 2 → true ≡ not_pivot_count p
    unfolding not_pivot_count
    too_few h = rw (whole, lt-leb 2 (length p / 66) h)

    pub too_many : 2 ≤ length p / 66 → ltb 64 (length p / 66) ≡ not_pivot_count p
    unfolding not_pivot_count
    too_many h = rw (whole, le-leb 2 (length p / 66) h) (⊎_elim few many (le_or_lt (length p / 66) 64))
      where
        few : length p / 66 ≤ 64 → ltb 64 (length p / 66) ≡ not (leb (length p / 66) 64)
        few k = rw (le-ltb 64 (length p / 66) k, le-leb (length p / 66) 64 k)

        many : 64 < length p / 66 → ltb 64 (length p / 66) ≡ not (leb (length p / 66) 64)
        many k = rw (lt-ltb 64 (length p / 66) k, lt-leb (length p / 66) 64 k)
