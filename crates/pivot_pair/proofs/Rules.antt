-- For each function the lemmas by which the check finds its goals.
use Rattle.model.proofs.calls.Refusals.{answering}
use Rattle.model.proofs.keys.Key.{prefix_length}
use Rattle.pivot_pair.proofs.Changed.{changed_written}
use Rattle.pivot_pair.proofs.Placed.{left_inside, left_room, bound_short, rest_room, both_placed, right_inside, right_room, right_placed, upper_placed}
use Rattle.pivot_pair.proofs.Prefixes.{measured, max_lacks, key_has, right_begins, right_short, left_long, right_long, neither_long}
use Rattle.pivot_pair.proofs.Tests.{known, prefixed, above}

pub ruleset changed_long = (prefix_length, measured)

pub ruleset has_prefix = (max_lacks, key_has)

pub ruleset put_bounds = (left_inside, left_room, bound_short, rest_room, both_placed)

pub ruleset put_changed = (changed_written)

pub ruleset put_right = (right_inside, right_room, right_placed, upper_placed)

pub ruleset too_long = (right_begins, right_short, left_long, right_long, neither_long)

pub ruleset translate_pivot_pair = (known, prefixed, answering)

pub ruleset translate_range = (known, above, answering)
