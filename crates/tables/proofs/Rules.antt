-- For each function the lemmas by which the check finds its goals.
use Rattle.model.proofs.calls.Refusals.{handing_on, answering}
use Rattle.model.proofs.calls.TableCalls.{checked_wf}
use Rattle.tables.proofs.Getting.{part_there, no_place, max_there, key_there}
use Rattle.tables.proofs.Starting.{both_written}

pub ruleset get_key = (handing_on, checked_wf)

pub ruleset get_key_part = (handing_on, part_there)

pub ruleset length_at = (no_place, max_there, key_there)

pub ruleset init_pivot_table = (answering, both_written)
