-- For each function the lemmas by which the check finds its goals.
use Rattle.model.proofs.calls.Refusals.{answering}
use Rattle.pair_bytes.proofs.Reading.{wrong_flag}
use Rattle.pair_records.proofs.Applying.{wrong_old, wrong_new, absent_answered, absent_written, changed_answered, changed_written}
use Rattle.pair_records.proofs.ByState.{compose_placed, compose_written, reverse_placed, reverse_written}

pub ruleset apply_pair = (wrong_flag, wrong_old, wrong_new, absent_answered, absent_written, changed_answered, changed_written, answering)

pub ruleset compose_pairs = (wrong_flag, compose_placed, compose_written, answering)

pub ruleset reverse_pair = (wrong_flag, reverse_placed, reverse_written, answering)
