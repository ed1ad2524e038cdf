-- For the contract of an inner function: a record without its key.
use Rattle.std.specs.Prelude.{cond, List, [], ℕ, leb, length}
use Rattle.model.specs.records.Record.{record_size, record_of}
use Rattle.model.specs.calls.Refusals.{over}

-- a record with length n, and zeros for its key, at the head of d where there is room for it; else d as it was
unfoldable pub blank : ℕ → List ℕ → List ℕ
blank n d = cond (leb record_size (length d)) (over (record_of n []) d) d
