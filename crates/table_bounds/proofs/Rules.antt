-- For each function the lemmas by which the check finds its goals.
use Rattle.model.proofs.calls.Refusals.{handing_on}
use Rattle.model.proofs.calls.TableCalls.{checked_wf}
use Rattle.table_bounds.proofs.Fitting.{past_count, not_after, between}
use Rattle.table_questions.proofs.Ends.{said, first_fails, last_decides}

pub ruleset ask_within = (handing_on, checked_wf, said)

pub ruleset fits_at = (past_count, not_after, between)

pub ruleset pivot_insertable = (handing_on, checked_wf, said)

pub ruleset within = (first_fails, last_decides)
