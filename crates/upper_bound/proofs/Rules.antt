-- For each function the lemmas by which the check finds its goals.
use Rattle.model.proofs.calls.Refusals.{answering}
use Rattle.upper_bound.proofs.Down.{walk}
use Rattle.upper_bound.proofs.Raising.{raised_stored, round_stored, place_inside, place_other, max_stored, key_stored, upper_written}

pub ruleset last_other = (walk)

pub ruleset put_raised = (raised_stored, round_stored)

pub ruleset put_upper = (place_inside, place_other, max_stored, key_stored)

pub ruleset shortest_uncommon_prefix = (answering, upper_written)
