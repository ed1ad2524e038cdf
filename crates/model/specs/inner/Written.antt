-- For the contracts of inner functions: what is written as far as there is room, and the record of a key where there is room for it.
use Rattle.std.specs.Prelude.{cond, ◌&&◌, List, ℕ, leb, length, take}
use Rattle.model.specs.keys.Key.{Key, max_len}
use Rattle.model.specs.records.Record.{record_size, record_of}
use Rattle.model.specs.calls.Refusals.{over}

-- what of a key has room in a record
unfoldable pub clipped : Key → Key
clipped k = take max_len k

-- w written at the head of d as far as there is room
unfoldable pub into : List ℕ → List ℕ → List ℕ
into w d = over (take (length d) w) d

-- the record of k at the head of d, where k is no longer than a key may be and d has room for it; else d as it was
unfoldable pub recorded : Key → List ℕ → List ℕ
recorded k d = cond (leb (length k) max_len && leb record_size (length d)) (over (record_of (length k) k) d) d
