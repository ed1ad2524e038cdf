-- For each function the lemmas by which the check finds its goals.
use mathlib.Core.Path.{refl}
use Rattle.entry_order.proofs.Checks.{both_checked, both_refuse, read_checked, unsorted, rises}
use Rattle.entry_order.proofs.Entries.{past_records, record_part, next_told}
use Rattle.entry_order.proofs.Rise.{rise_over, falls, rises_on}
use Rattle.model.proofs.calls.Refusals.{trying}

pub ruleset check_both = (both_checked)

pub ruleset check_rising = (refl, trying, both_refuse, read_checked, unsorted, rises)

pub ruleset entries_rise = (refl, rise_over, falls, rises_on)

pub ruleset record_at = (past_records, record_part)

pub ruleset rises_at = (next_told)
