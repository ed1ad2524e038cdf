-- For the contracts of inner functions: an entry that is checked, and the bytes of what it leaves in a renamed bucket.
use Rattle.std.specs.Prelude.{◌≡◌, true, List, ℕ, length}
use Rattle.model.specs.keys.Key.{Key}
use Rattle.model.specs.records.Record.{reading, key_reading}
use Rattle.model.specs.buckets.Bucket.{entry_size, entry_record, encode_bucket}
use Rattle.bucket_measures.specs.Kept.{kept_of}

-- bytes of an entry whose record reads as a key
pub record CheckedEntry (e : List ℕ) : Type 0 where
  pub size : length e ≡ entry_size
  pub reads : key_reading (reading (entry_record e)) ≡ true

-- the bytes of what one entry leaves
abbrev pub kept_bytes : List ℕ → Key → Key → List ℕ
kept_bytes e p q = encode_bucket (kept_of e p q)
