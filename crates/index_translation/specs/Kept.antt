-- For the contracts of inner functions: how many entries before a place are kept, and an index whose places can be passed in turn.
use Rattle.std.specs.Prelude.{List, map, ℕ, ◌/◌, ◌≤◌, ◌<◌, length, take}
use Rattle.model.specs.keys.Key.{Key, IsPrefix}
use Rattle.model.specs.buckets.Bucket.{Entry, entry_size, max_entries, entries}
use Rattle.model.specs.buckets.Index.{only, place_at, place_size, places}

-- how many of the first n entries of a bucket begin with the prefix
unfoldable pub kept_before : List ℕ → Key → ℕ → ℕ
kept_before l p n = length (only (λ (e : Entry). IsPrefix p e.key) (take n (entries l)))

-- that number for each place of an index
abbrev pub new_places : List ℕ → Key → List ℕ → List ℕ
new_places l p x = map (kept_before l p) (places x)

-- the places of an index rise, and lie inside the bucket
pub record Placed (l x : List ℕ) : Type 0 where
  pub most : length l / entry_size ≤ max_entries
  pub rise : (i j : ℕ) → i ≤ j → j < length x / place_size → place_at (places x) i ≤ place_at (places x) j
  pub inside : (i : ℕ) → i < length x / place_size → place_at (places x) i ≤ length l / entry_size
