-- For each function the lemmas by which the check finds its goals.
use Rattle.model.proofs.calls.Refusals.{answering}
use Rattle.range_prefix.proofs.Beyond.{no_left, no_right, alike, more_than_one, one_next, from_max, between_max, between_keys, lcp_ends, lcp_not_one, lcp_apart, lcp_goes_on, up_to_max, up_to_key}

pub ruleset has_key_prefix = (no_left, no_right, alike, more_than_one, one_next)

pub ruleset has_range_prefix = (from_max, between_max, between_keys)

pub ruleset key_range_prefix = (lcp_ends, lcp_not_one, lcp_apart, lcp_goes_on)

pub ruleset pivot_lcp = (answering)

pub ruleset range_prefix_len = (up_to_max, up_to_key)
