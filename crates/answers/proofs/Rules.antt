-- For each function the lemmas by which the check finds its goals.
use Rattle.model.proofs.calls.Refusals.{trying}
use Rattle.answers.proofs.Telling.{turning, telling}

pub ruleset decided_answer = (trying, turning)

pub ruleset tell = (telling)

pub ruleset tell_number = (telling)

pub ruleset tell_order = (telling)
