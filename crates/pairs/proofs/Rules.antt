-- For each function the lemmas by which the check finds its goals.
use Rattle.model.proofs.Lists.{part_counts}
use Rattle.model.proofs.calls.Refusals.{answering, trying}
use Rattle.pairs.proofs.Composing.{composing}
use Rattle.pairs.proofs.Padding.{copied}
use Rattle.pairs.proofs.Results.{apply_absent, keep_absent, apply_there, change_there, undo_answer, undo_pair, do_answer, do_pair, both_answer, both_pair, reverse_absent, reverse_none, reverse_there, reverse_pair_lem}
use Rattle.pairs.proofs.States.{absent_is, old_inside, new_inside, old_ends, new_ends, told_true, malformed_is, pair_is, telling}

pub ruleset absent = (absent_is)

pub ruleset apply = (part_counts, old_inside, new_inside, told_true, apply_absent, keep_absent, apply_there, change_there, answering)

pub ruleset compose = (both_answer, both_pair, do_answer, do_pair, undo_answer, undo_pair, told_true, telling, answering)

pub ruleset ends = (part_counts, old_ends, new_ends)

pub ruleset malformed = (malformed_is)

pub ruleset of = (pair_is)

pub ruleset reverse = (telling, told_true, reverse_absent, reverse_none, reverse_there, reverse_pair_lem, answering)

pub ruleset composed = (telling, trying, composing)

pub ruleset padded = (copied)
