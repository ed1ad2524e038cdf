-- For each function the lemmas by which the check finds its goals.
use Rattle.model.proofs.calls.Refusals.{trying, answering}
use Rattle.prefix_changes.proofs.Changing.{refused_same, nothing_written, old_inside, answered, written, changing}

-- both of them
pub ruleset change_prefix = (trying, refused_same, nothing_written, old_inside, answered, written)

pub ruleset changed = (changing, answering)
