-- For each function the lemmas by which the check finds its goals.
use Rattle.record_reads.proofs.Reading.{kinds, key_short, not_standing, standing, no_bytes, bytes_part, ways, read_whole, read_spoilt, past_after, past_records, record_part}

pub ruleset edge_kind = (kinds)

pub ruleset holds = (key_short, not_standing, standing)

pub ruleset key_bytes = (no_bytes, bytes_part)

pub ruleset field_reading = (ways)

pub ruleset read_record = (key_short, read_whole, read_spoilt)

pub ruleset record_after = (past_after)

pub ruleset record_at = (past_records, record_part)
