-- For each function the lemmas by which the check finds its goals.
use Rattle.entries.proofs.Checking.{read_over, not_read, next_read}
use Rattle.entries.proofs.Counts.{not_whole, too_many, counted}
use Rattle.entries.proofs.Keys.{key_there, key_short}
use Rattle.entries.proofs.Places.{record_there, past_entries, entry_part}
use Rattle.model.proofs.Lists.{part_counts}
use Rattle.model.proofs.calls.Refusals.{answering}

pub ruleset entries_read = (record_there, read_over, not_read, next_read)

pub ruleset not_entry_count = (not_whole, too_many)

pub ruleset entry_at = (past_entries, entry_part)

pub ruleset key_of = (part_counts, key_there, key_short)

pub ruleset check_bucket = (counted, answering)
