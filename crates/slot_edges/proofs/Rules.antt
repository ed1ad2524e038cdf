-- For each function the lemmas by which the check finds its goals.
use mathlib.Core.Path.{refl}
use Rattle.model.proofs.Lists.{part_counts}
use Rattle.model.proofs.calls.Refusals.{trying}
use Rattle.slot_edges.proofs.Edges.{absent_answer, absent_left, long_answer, long_kept_lem, made_fits, made_inside, made_counts, made_answer, made_left}
use Rattle.slot_edges.proofs.Slots.{left_answer, left_made, right_answer, right_made}

pub ruleset cut_edge = (refl, trying, absent_answer, absent_left, long_answer, long_kept_lem, made_fits, made_inside, made_counts, made_answer, made_left)

pub ruleset slot_edge = (part_counts, left_answer, left_made, right_answer, right_made)
