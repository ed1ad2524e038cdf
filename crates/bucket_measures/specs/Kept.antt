-- For the contracts of inner functions: a bucket and prefixes that are checked, what one entry leaves, and cause 8 of what is left.
use Rattle.std.specs.Prelude.{◌≡◌, not, List, [], ◌∷◌, ℕ}
use Rattle.std.proofs.Math.Option.{none}
use Rattle.model.specs.declared.Refusal.TheVariants.{TooLong}
use Rattle.model.specs.keys.Key.{Key}
use Rattle.model.specs.tables.Tables.{all}
use Rattle.model.specs.buckets.Bucket.{Bucket, entry_of, TranslateBucket}
use Rattle.model.specs.calls.Refusals.{Cause, ◌⇒◌, first}
use Rattle.model.specs.calls.BucketCalls.{short_entry, rename_causes}

-- a bucket and two prefixes that have none of the causes 1 and 2
abbrev pub Good : List ℕ → Key → Key → Type 0
Good l p q = first (rename_causes l p q) ≡ none

-- what the bytes of one entry leave: an entry, or none
unfoldable pub kept_of : List ℕ → Key → Key → Bucket
kept_of e p q = TranslateBucket (entry_of e ∷ []) p q

-- cause 8 of entries that are kept
abbrev pub long_kept : Bucket → List Cause
long_kept b = (not (all short_entry b) ⇒ TooLong) ∷ []
