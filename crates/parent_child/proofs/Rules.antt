-- For each function the lemmas by which the check finds its goals.
use Rattle.model.proofs.Lists.{part_counts}
use Rattle.model.proofs.calls.PivotKeys.{last_counted}
use Rattle.model.proofs.calls.Refusals.{accepted, handing_on, trying}
use Rattle.parent_child.proofs.Holding.{begins_before, lies_in}
use Rattle.parent_child.proofs.Merged.{checked, child_wf}
use Rattle.parent_child.proofs.Renamed.{long_told, short_told}
use Rattle.parent_child.proofs.Slots.{no_slot, own_told, under_told, slot_records}

pub ruleset check_tables = (checked)

pub ruleset ask_range = (last_counted, begins_before, lies_in)

pub ruleset ask_slot = (child_wf, no_slot, own_told, under_told, slot_records)

pub ruleset ask_under = (trying, part_counts, long_told, short_told)

pub ruleset parent_keys_in_child_range = (accepted, handing_on)
