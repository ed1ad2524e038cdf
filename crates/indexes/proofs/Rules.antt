-- For each function the lemmas by which the check finds its goals.
use mathlib.Core.Path.{refl}
use Rattle.entry_order.proofs.Entries.{below_told}
use Rattle.indexes.proofs.Checks.{wf_checked, bucket_rises, checked, count_fits, room_for, build_refuses, build_outside, no_room_lem, room, build_counted, rising_refuses, given_outside, given_other, given_right, key_fits, side_rises, key_padded, side_counted, built_inside, index_room, other_length, built_index, wf_of_checked, rising_read}
use Rattle.indexes.proofs.Merging.{checked_rising, some_pivot, merge_start, merge_end, place_room, pivot_padded, still_below, place_most, place_fits, merge_next, sooner}
use Rattle.indexes.proofs.Places.{no_place, place_read, below_over, stops_here, goes_on}
use Rattle.indexes.proofs.Rise.{none_outside, first_outside, last_outside}
use Rattle.indexes.proofs.Slots.{slot_there, no_slot, places_rise, slot_counted, part_inside_bucket, from_fits, bytes_fit, end_fits, part_is_slot}
use Rattle.model.proofs.Lists.{part_counts}
use Rattle.model.proofs.calls.PivotKeys.{last_counted}
use Rattle.model.proofs.calls.Refusals.{trying, handed_on, handed_on-first}

pub ruleset build_index = (refl, trying, wf_checked, bucket_rises, checked, count_fits, room_for, build_refuses, build_outside, no_room_lem, room, build_counted)

pub ruleset check_given = (refl, trying, rising_refuses, checked, given_outside, given_other, given_right)

pub ruleset check_side = (refl, trying, key_fits, side_rises, key_padded, side_counted, handed_on)

pub ruleset is_other = (built_inside, index_room, other_length, built_index, part_counts)

pub ruleset is_outside = (wf_of_checked, checked_rising)

pub ruleset entries_outside = (none_outside, first_outside, last_outside, last_counted)

pub ruleset write_index = (checked_rising, some_pivot, merge_start, merge_end, place_room, pivot_padded, still_below, place_most, place_fits, merge_next, sooner)

pub ruleset is_below = (below_told)

pub ruleset place_at = (no_place, place_read)

pub ruleset place_from = (rising_read, below_over, stops_here, goes_on)

pub ruleset slot_entries = (refl, trying, slot_there, no_slot, places_rise, slot_counted, handed_on-first)

pub ruleset slot_entries_part = (refl, part_inside_bucket, from_fits, bytes_fit, end_fits, part_is_slot, handed_on)
