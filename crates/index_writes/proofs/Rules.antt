-- For each function the lemmas by which the check finds its goals.
use mathlib.Core.Path.{refl}
use Rattle.index_writes.proofs.Places.{place_fits, places_start, places_next, places_end}
use Rattle.index_writes.proofs.Room.{bucket_lacks, index_lacks, both_hold, bucket_written}

pub ruleset put_places = (place_fits, places_start, places_next, places_end)

pub ruleset write_side = (refl, bucket_lacks, index_lacks, both_hold, bucket_written)
