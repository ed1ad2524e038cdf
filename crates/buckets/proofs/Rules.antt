-- For each function the lemmas by which the check finds its goals.
use mathlib.Core.Path.{refl}
use Rattle.bucket_measures.proofs.Causes.{check_good, check_refused_first, count_is}
use Rattle.bucket_measures.proofs.OneKept.{begins}
use Rattle.buckets.proofs.Appending.{appending}
use Rattle.buckets.proofs.OneEntry.{record_first, one_entry}
use Rattle.buckets.proofs.Renaming.{measure_handed, room_refused, no_cause, count_answered, entries_left}
use Rattle.buckets.proofs.Writing.{beyond, changed_room, entry_written}
use Rattle.entries.proofs.Keys.{key_there}
use Rattle.model.proofs.Lists.{part_counts}
use Rattle.model.proofs.calls.Refusals.{trying}
use Rattle.records.proofs.JoinedKeys.{joined_made}

pub ruleset translate_bucket = (refl, trying, check_good, check_refused_first, measure_handed, count_is, room_refused, no_cause, count_answered, entries_left)

pub ruleset key_of = (part_counts, key_there)

pub ruleset put_entries = (appending)

pub ruleset put_entry = (begins, one_entry)

pub ruleset put_kept = (record_first, beyond, changed_room, entry_written)

pub ruleset put_key = (joined_made)
