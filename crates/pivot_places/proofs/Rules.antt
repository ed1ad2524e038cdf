-- For each function the lemmas by which the check finds its goals.
use Rattle.model.proofs.calls.Refusals.{handing_on}
use Rattle.model.proofs.calls.TableCalls.{checked_wf, table_checked_wf}
use Rattle.pivot_places.proofs.Placing.{between_start, between_end}

pub ruleset place = (between_start, between_end)

pub ruleset place_in_pivots = (checked_wf, handing_on)

pub ruleset place_in_table = (table_checked_wf, handing_on)
