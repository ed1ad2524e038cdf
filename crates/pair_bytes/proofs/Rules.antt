-- For each function the lemmas by which the check finds its goals.
use Rattle.model.proofs.Lists.{part_counts}
use Rattle.model.proofs.calls.Refusals.{trying}
use Rattle.pair_bytes.proofs.Placing.{placing, record_written}
use Rattle.pair_bytes.proofs.Reading.{read_is, read_absent}
use Rattle.pairs.proofs.States.{telling}

pub ruleset place_beside = (trying, placing)

pub ruleset place_pair = (trying, telling, placing)

pub ruleset read_pair = (part_counts, read_is, read_absent)

pub ruleset write_pair = (record_written)
