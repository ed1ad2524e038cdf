-- For each function the lemmas by which the check finds its goals.
use mathlib.Core.Path.{refl}
use Rattle.model.proofs.calls.Refusals.{trying}
use Rattle.records.proofs.JoinedKeys.{recorded_whole}
use Rattle.renaming.proofs.GivenEnd.{given_count, end_low, no_room_for, room_for, keys_refused, keys_passed, keys_given, keys_changeable, given_size, given_end, end_written}
use Rattle.renaming.proofs.NewPivots.{key_begun, key_room, key_made, one_pivot, changed_start, changed_next, changed_end, two_pivots_lem, last_slot, last_below}

pub ruleset put_pivot = (recorded_whole, key_begun, key_room, key_made)

pub ruleset write_changed = (one_pivot, changed_start, changed_next, changed_end)

pub ruleset ends_above = (two_pivots_lem, last_slot, last_below)

pub ruleset put_pivots = (refl, given_count, end_low, no_room_for, room_for)

pub ruleset translate_pivots = (refl, trying, keys_refused, keys_passed, keys_given, keys_changeable)

pub ruleset write_pivots = (given_size, given_end, end_written)
