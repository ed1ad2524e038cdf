-- For each function the lemmas by which the check finds its goals.
use Rattle.model.proofs.calls.Refusals.{handing_on, trying}
use Rattle.model.proofs.calls.TableCalls.{checked_wf}
use Rattle.table_questions.proofs.Ends.{not_below, is_below_lem, said, range_refused, range_asked, begins_late, ends_decide, not_from_empty, up_to_max}

pub ruleset ask_range = (not_below, is_below_lem, said)

pub ruleset contains_all_keys = (handing_on, checked_wf, said)

pub ruleset contains_range = (trying, checked_wf, range_refused, range_asked)

pub ruleset spans = (begins_late, ends_decide)

pub ruleset wf_edges = (handing_on)

pub ruleset wf_pivots = (handing_on)

pub ruleset whole = (not_from_empty, up_to_max)
