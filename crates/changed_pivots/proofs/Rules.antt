-- For each function the lemmas by which the check finds its goals.
use mathlib.Core.Path.{refl}
use Rattle.changed_pivots.proofs.Given.{keys_decide, given, asked_wf, asked_prefix, asked_new_prefix, pivots_refused}
use Rattle.changed_pivots.proofs.KeyPass.{some_pivot, pass_start, not_begun, pass_next, pass_long, pass_done}
use Rattle.model.proofs.calls.Refusals.{trying}

pub ruleset check_changed = (refl, trying, keys_decide, given, asked_wf, asked_prefix, asked_new_prefix, pivots_refused)

pub ruleset check_keys = (some_pivot, pass_start, not_begun, pass_next, pass_long, pass_done)
