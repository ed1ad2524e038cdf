-- For each function the lemmas by which the check finds its goals.
use Rattle.model.proofs.calls.Refusals.{value_is, handing_on}
use Rattle.model.proofs.calls.TableCalls.{checked_wf, table_checked_wf}
use Rattle.routing.proofs.Inserting.{below_all, a_pivot, above_all}
use Rattle.routing.proofs.Placing.{before_first, past_last, between}

pub ruleset find_slot = (value_is, checked_wf, handing_on)

pub ruleset new_pivot_slot = (value_is, handing_on, table_checked_wf)

pub ruleset new_slot_of = (below_all, a_pivot, above_all)

pub ruleset slot_of = (before_first, past_last, between)

pub ruleset slot_with_edges = (value_is, handing_on, table_checked_wf)
