-- For the contracts of inner functions: the record or the entry at a place.
use Rattle.std.specs.Prelude.{List, [], ℕ, get_or}
use Rattle.model.specs.records.Record.{records}
use Rattle.model.specs.buckets.Bucket.{entry_bytes}

-- the record at a place; none past the last
abbrev pub record_at : List ℕ → ℕ → List ℕ
record_at l i = get_or (records l) i []

-- the bytes of the entry at a place; none past the last
abbrev pub entry_at : List ℕ → ℕ → List ℕ
entry_at l i = get_or (entry_bytes l) i []
