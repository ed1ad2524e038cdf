-- How many entries are lent.
use mathlib.Core.Path.{◌≡◌, sym, ◌∙◌}
use mathlib.Core.Bool.{Bool, true, not}
use mathlib.Core.List.{List}
use mathlib.Core.Logic.{⊎_elim}
use Prim.Native.Nat.{ℕ, ◌/◌, ◌%◌, ◌≤◌, ◌<◌}
use borrow.Author.Tests.{ne_eqb, le-leb, lt-leb, lt-ltb, le-ltb}
use lib.Dec.{leb, ltb}
use lib.ListN.{length}
use Rattle.model.specs.buckets.Bucket.{entry_size, max_entries}
use Rattle.model.specs.calls.BucketCalls.{not_entry_count, not_entry_count_by}
use Rattle.model.proofs.Lists.{le_or_lt}

module _ (l : List ℕ) where
  -- bytes are left over
  pub not_whole : (length l % entry_size ≡ 0 → ⊥) → true ≡ not_entry_count l
  unfolding not_entry_count_by
  not_whole h = rw (ne_eqb (length l % entry_size) 0 h)

  -- or there are more entries than a bucket may have
  pub too_many : length l % entry_size ≡ 0 → ltb max_entries (length l / entry_size) ≡ not_entry_count l
  unfolding not_entry_count_by
  too_many h = rw h (⊎_elim few many (le_or_lt (length l / entry_size) max_entries))
    where
      few : length l / entry_size ≤ max_entries → ltb max_entries (length l / entry_size) ≡ not (leb (length l / entry_size) max_entries)
      few k = rw (le-ltb max_entries (length l / entry_size) k, le-leb (length l / entry_size) max_entries k)

      many : max_entries < length l / entry_size → ltb max_entries (length l / entry_size) ≡ not (leb (length l / entry_size) max_entries)
      many k = rw (lt-ltb max_entries (length l / entry_size) k, lt-leb (length l / entry_size) max_entries k)

-- what the count's test says
pub counted : (l : List ℕ) (t b : Bool) → t ≡ not_entry_count l → t ≡ b → not_entry_count l ≡ b
counted l t b e h = sym e ∙ h
