-- For each function the lemmas by which the check finds its goals.
use Rattle.bucket_measures.proofs.Measuring.{measure_start, measure_end, measure_refused, kept_fits, measure_turn}
use Rattle.bucket_measures.proofs.OneKept.{none_counted, beyond_prefix, changed_fits, long_refused, one_counted}
use Rattle.model.proofs.calls.Refusals.{trying}

pub ruleset measure = (trying, measure_start, measure_end, measure_refused, kept_fits, measure_turn)

pub ruleset measure_entry = (none_counted, beyond_prefix, changed_fits, long_refused, one_counted)
